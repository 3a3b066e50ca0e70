-- The instructions so far and those of the rest.
use Rattle.std.proofs.Common.{◌≡◌, ℕ, zero, suc, ◌+◌, ◌-◌, ◌<◌, ◌≤◌, List, [], ◌∷◌, ◌++◌, length, Result, Ok, Err, refl, ap, sym, ◌∙◌, append_assoc, true, false, nat_lt, All, arith}
use Rattle.std.proofs.lemmas.Bool.Decides.{nat_tests}
use Rattle.std.proofs.lemmas.List.{append-nil, length_push}
use Rattle.std.proofs.lemmas.List.Elements.{All-push}
use Rattle.jvm_base.specs.declared.pool.PoolItem.{PoolItem}
use Rattle.code_table.specs.declared.error.CodeErr.{CodeErr}
use Rattle.code_table.specs.declared.code.Placed.{Placed}
use Rattle.jvm_base.specs.Refusing.{◌>>=◌}
use Rattle.jvm_base.specs.Told.{Fails}
use Rattle.code_table.specs.Told.{told}
use Rattle.code_table.specs.Instructions.{instruction_at}
use Rattle.code_table.specs.Sequences.{instructions_from, instructions_of}
use Rattle.jvm_base.proofs.Telling.{fails_on}

-- the instructions behind these, if there are any
abbrev pub with_front : List Placed → Result (List Placed) CodeErr → Result (List Placed) CodeErr
with_front front rest = rest >>= λ ps. Ok (front ++ ps)

-- front, of no more instructions than bytes before the address, and those from there on, are all of them
abbrev pub so_far : List ℕ → List PoolItem → List Placed → ℕ → Result (List Placed) CodeErr
so_far code pool front at = with_front front (instructions_from (length code - length front) code pool at)

-- one instruction goes to those in front
regroup : (front : List Placed) (p : Placed) (r : Result (List Placed) CodeErr) → with_front front (r >>= λ ps. Ok (p ∷ ps)) ≡ with_front (front ++ p ∷ []) r
regroup front p (Ok ps) = ap (λ (qs : List Placed). Ok qs) (simp append_assoc)
regroup front p (Err e) = refl

-- behind none
none_yet : (r : Result (List Placed) CodeErr) → with_front [] r ≡ r
none_yet (Ok ps) = refl
none_yet (Err e) = refl

-- at the start all are still to come
starts : (code : List ℕ) (pool : List PoolItem) → so_far code pool [] 0 ≡ instructions_of code pool
unfolding instructions_of
starts code pool =
    let k : length code - 0 ≡ length code = omega arith in
    rw k (none_yet (instructions_from (length code) code pool 0))

-- at an address below the code's length one more instruction is looked for
one_more : (code : List ℕ) (pool : List PoolItem) (front : List Placed) (at : ℕ) → at < length code → length front ≤ at
    → so_far code pool front at ≡ with_front front (instruction_at code pool at >>= λ p. instructions_from (length code - (length front + 1)) code pool p.next >>= λ ps. Ok (p ∷ ps))
unfolding instructions_from
one_more code pool front at below few =
    let k : length code - length front ≡ suc (length code - (length front + 1)) = omega arith in
    let t : nat_lt at (length code) ≡ true = grind (arith, nat_tests) in
    rw (k, t) refl

-- one instruction more
goes_on : (code : List ℕ) (pool : List PoolItem) (front : List Placed) (at : ℕ) (p : Placed) → at < length code → length front ≤ at → instruction_at code pool at ≡ Ok p
    → so_far code pool front at ≡ instructions_of code pool → so_far code pool (front ++ p ∷ []) p.next ≡ instructions_of code pool
goes_on code pool front at p below few here all =
    let n : length (front ++ p ∷ []) ≡ length front + 1 = length_push front p in
    let one = one_more code pool front at below few in
    rw n (sym (regroup front p (instructions_from (length code - (length front + 1)) code pool p.next)) ∙ sym (rw here at one) ∙ all)

-- the next instruction is refused, so all are
pub ends : (e : CodeErr) (code : List ℕ) (pool : List PoolItem) (front : List Placed) (at : ℕ) → at < length code → length front ≤ at → Fails told e (instruction_at code pool at)
    → so_far code pool front at ≡ instructions_of code pool → Fails told e (instructions_of code pool)
ends e code pool front at below few here all =
    rw (← all, one_more code pool front at below few) (fails_on told e (instruction_at code pool at >>= λ p. instructions_from (length code - (length front + 1)) code pool p.next >>= λ ps. Ok (p ∷ ps)) _ (fails_on told e (instruction_at code pool at) _ here))

-- past the end none is left
pub is_done : (code : List ℕ) (pool : List PoolItem) (front : List Placed) (at : ℕ) → length code ≤ at → so_far code pool front at ≡ instructions_of code pool → instructions_of code pool ≡ Ok front
unfolding instructions_from
is_done code pool front at above all =
    let t : nat_lt at (length code) ≡ false = grind (arith, nat_tests) in
    let none : (most : ℕ) → instructions_from most code pool at ≡ Ok [] = λ most. elim most as (λ m. instructions_from m code pool at ≡ Ok []) [ zero ↦ refl | suc m ↦ rw t refl ] in
    let one : so_far code pool front at ≡ Ok front = rw (none (length code - length front)) (ap (λ (qs : List Placed). Ok qs) (append-nil front)) in
    sym all ∙ one

-- What holds before each instruction of the loop.
pub record Holds (code : List ℕ) (pool : List PoolItem) (front : List Placed) (at : ℕ) : Type 0 where
  pub all : so_far code pool front at ≡ instructions_of code pool
  pub few : length front ≤ at
  pub below : at ≤ length code
  pub within : All (λ p. p.at < length code) front

-- at the start it holds
pub holds_first : (code : List ℕ) (pool : List PoolItem) → Holds code pool [] 0
holds_first code pool = record { all = starts code pool; few = omega arith; below = omega arith; within = λ k d h. absurd (omega arith) }

-- behind one instruction more it still does
pub holds_next : (code : List ℕ) (pool : List PoolItem) (front : List Placed) (at : ℕ) (p : Placed) → at < length code → instruction_at code pool at ≡ Ok p → p.at ≡ at → at < p.next → p.next ≤ length code
    → Holds code pool front at → Holds code pool (front ++ p ∷ []) p.next
holds_next code pool front at p here is_it same more inside h = record {
  all = goes_on code pool front at p here h.few is_it h.all;
  few = let few = h.few in let n : length (front ++ p ∷ []) ≡ length front + 1 = length_push front p in omega arith;
  below = inside;
  within = All-push (λ p. p.at < length code) front p h.within (omega arith);
}
