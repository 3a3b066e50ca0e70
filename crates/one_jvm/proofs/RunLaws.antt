-- A run of no choice, the one last state of an order, and what a sink gains of what was printed.
use Rattle.std.proofs.Common.{◌≡◌, ℕ, ◌+◌, List, [], ◌∷◌, ◌++◌, length, take, Option, Some, refl, sym, ap, subst, ◌∙◌, arith}
use Rattle.std.specs.Io.KnownBytes.{Appends}
use Rattle.std.proofs.lemmas.List.{length-append}
use Rattle.std.proofs.Math.Seq.{take-append-add, take-length}
use Rattle.cjvm_io.specs.Sinks.{GainsFront}
use Rattle.cjvm_io.proofs.Gains.{appends_none, appends_more}
use Rattle.program_image.specs.Program.{Program}
use Rattle.machine_state.specs.declared.state.Choice.{Choice}
use Rattle.machine_state.specs.Runs.{run}
use Rattle.machine_state.specs.State.{State}
use Rattle.machine_state.proofs.NameTests.{some_is}

-- ---- orders

-- no choice changes nothing
pub run_none : (p : Program) (m : State) → run p m [] ≡ Some m
unfolding run
run_none p m = refl

-- an order has one last state
pub one_last : (p : Program) (m k l : State) (order : List Choice) → run p m order ≡ Some k → run p m order ≡ Some l → k ≡ l
one_last p m k l order e f = some_is (sym e ∙ f)

-- ---- what a sink gained of it

-- all of some bytes is a front of them
pub whole_front : (before now : Option (List ℕ)) (bytes : List ℕ) → Appends before now bytes → GainsFront before now bytes
whole_front before now bytes a = record {
  count = length bytes;
  within = omega arith;
  gained = subst (λ (z : List ℕ). Appends before now z) (sym (take-length bytes)) a;
}

-- what was gained of some bytes is gained of bytes that begin with others, which were written before
abbrev pub GainsBehind : (Option (List ℕ) → Option (List ℕ) → List ℕ → Type 0) → Type 0
GainsBehind Gains =
    (before mid now : Option (List ℕ)) (first more bytes : List ℕ) → bytes ≡ first ++ more → Appends before mid first → Gains mid now more → Gains before now bytes

-- a front of them
pub front_behind : GainsBehind GainsFront
front_behind before mid now first more bytes e a g =
    let n : ℕ = g.count in
    let front : take (length first + n) bytes ≡ first ++ take n more = ap (take (length first + n)) e ∙ take-append-add first more n in
    record {
      count = length first + n;
      within = omega (arith, g.within, ap length e, length-append first more);
      gained = subst (λ (z : List ℕ). Appends before now z) (sym front) (appends_more before mid now first (take n more) a g.gained);
    }

-- or all of them
pub all_behind : GainsBehind Appends
all_behind before mid now first more bytes e a g =
    subst (λ (z : List ℕ). Appends before now z) (sym e) (appends_more before mid now first more a g)
