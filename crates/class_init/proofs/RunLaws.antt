-- Each class is run once: what isn't untouched any more stays so.
use Rattle.std.proofs.Common.{rules, ◌≡◌, sym, refl, ℕ, zero, suc, ◌≤◌, ◌+◌, ◌==◌, ◌&&◌, arith, Bool, true, false, List, [], ◌∷◌, Option, Some, None, inl, inr}
use Rattle.std.specs.Prelude.{cond, option_map, slice_get, slice_set}
use Rattle.std.proofs.lemmas.Bool.{cases_Bool}
use Rattle.jvm_base.specs.Words.{from}
use Rattle.machine_state.specs.declared.state.ClassState.{ClassState}
use Rattle.machine_state.specs.declared.state.ClassState.TheVariants as state
use Rattle.class_init.specs.Classes.{Classes, state_of, is_running, answer_to, told, asked}
use Rattle.class_init.specs.declared.classes.Asked.{Asked}
use Rattle.class_init.specs.declared.classes.Asked.TheVariants as answer
use Rattle.class_init.specs.Histories.{Call, Ask, Done, Fail, Wake, after, is_run, begins, run_count}

-- no thread was told to run it yet
abbrev is_untouched : Option ClassState → Bool
is_untouched (Some state.Untouched) = true
is_untouched _ = false

-- where a class is set to a state that isn't untouched, no class becomes untouched
set_keeps : (ss : List ClassState) (i j : ℕ) (s : ClassState) → is_untouched (Some s) ≡ false → is_untouched (slice_get ss j) ≡ false → is_untouched (slice_get (slice_set ss i s) j) ≡ false
set_keeps [] zero j s a b = b
set_keeps [] (suc i) j s a b = b
set_keeps (x ∷ xs) zero zero s a b = a
set_keeps (x ∷ xs) zero (suc j) s a b = b
set_keeps (x ∷ xs) (suc i) zero s a b = b
set_keeps (x ∷ xs) (suc i) (suc j) s a b = set_keeps xs i j s a b

-- nor is that class
set_there : (ss : List ClassState) (i : ℕ) (s : ClassState) → is_untouched (Some s) ≡ false → is_untouched (slice_get (slice_set ss i s) i) ≡ false
set_there [] zero s a = refl
set_there [] (suc i) s a = refl
set_there (x ∷ xs) zero s a = a
set_there (x ∷ xs) (suc i) s a = set_there xs i s a

-- asking makes no class untouched
ask_keeps : (c t d : ℕ) (m : Classes) (a : Option Asked) → is_untouched (state_of c m) ≡ false → is_untouched (state_of c (from m (asked t d m) a)) ≡ false
ask_keeps c t d m None h = h
ask_keeps c t d m (Some answer.Proceed) h = h
ask_keeps c t d m (Some answer.Run) h = set_keeps m.states d c (state.Running t) refl h
ask_keeps c t d m (Some answer.Failed) h = h
ask_keeps c t d m (Some answer.Queued) h = h

-- no call does
call_keeps : (c : ℕ) (k : Call) (m : Classes) → is_untouched (state_of c m) ≡ false → is_untouched (state_of c (after k m)) ≡ false
call_keeps c (Ask t d) m h = ask_keeps c t d m (told t d m) h
call_keeps c (Done d) m h = set_keeps m.states d c state.Done refl h
call_keeps c (Fail d) m h = set_keeps m.states d c state.Failed refl h
call_keeps c (Wake d) m h = elim (cases_Bool (is_running (state_of d m))) [ inl e ↦ rw e h | inr e ↦ rw e h ]

-- of a class that isn't untouched nobody is told to run it
not_told : (t : ℕ) (s : Option ClassState) → is_untouched s ≡ false → is_run (option_map (answer_to t) s) ≡ false
not_told t None h = refl
not_told t (Some state.Untouched) h = absurd cc
not_told t (Some (state.Running u)) h = elim (cases_Bool (u == t)) [ inl e ↦ rw e refl | inr e ↦ rw e refl ]
not_told t (Some state.Done) h = refl
not_told t (Some state.Failed) h = refl

-- so no call begins it
begins_not : (c : ℕ) (k : Call) (m : Classes) → is_untouched (state_of c m) ≡ false → begins c k m ≡ false
begins_not c (Ask t d) m h = elim (cases_Bool (d == c)) [ inl e ↦ (let q : d ≡ c = search rules in rw e (rw q (not_told t (state_of c m) h))) | inr e ↦ rw e refl ]
begins_not c (Done d) m h = refl
begins_not c (Fail d) m h = refl
begins_not c (Wake d) m h = refl

-- a class of which a thread is told to run it isn't untouched then
run_touches : (t c : ℕ) (m : Classes) (a : Option Asked) → is_run a ≡ true → is_untouched (state_of c (from m (asked t c m) a)) ≡ false
run_touches t c m None h = absurd cc
run_touches t c m (Some answer.Proceed) h = absurd cc
run_touches t c m (Some answer.Run) h = set_there m.states c (state.Running t) refl
run_touches t c m (Some answer.Failed) h = absurd cc
run_touches t c m (Some answer.Queued) h = absurd cc

-- of two tests that both hold
both_hold : (a b : Bool) → (a && b) ≡ true → (a ≡ true) × (b ≡ true)
both_hold true b e = (refl, e)
both_hold false b e = absurd cc

-- the same of a call that begins it
begin_touches : (c : ℕ) (k : Call) (m : Classes) → begins c k m ≡ true → is_untouched (state_of c (after k m)) ≡ false
begin_touches c (Ask t d) m h =
    let b = both_hold (d == c) (is_run (told t d m)) h in
    let q : d ≡ c = search rules in
    rw (sym q) (run_touches t d m (told t d m) b.1)
begin_touches c (Done d) m h = absurd cc
begin_touches c (Fail d) m h = absurd cc
begin_touches c (Wake d) m h = absurd cc

-- none more, and none then
none_then : (b : Bool) (n : ℕ) → b ≡ false → n ≡ 0 → cond b 1 0 + n ≡ 0
none_then false n e h = omega arith
none_then true n e h = absurd cc

-- one more, and none then; or none more
once_then : (b : Bool) (n : ℕ) → (b ≡ true → n ≡ 0) → n ≤ 1 → cond b 1 0 + n ≤ 1
once_then true n f h = let z : n ≡ 0 = f refl in omega arith
once_then false n f h = omega arith

-- a class that isn't untouched is never run
never_more : (c : ℕ) (ks : List Call) (m : Classes) → is_untouched (state_of c m) ≡ false → run_count c ks m ≡ 0
never_more c [] m h = refl
never_more c (k ∷ ks) m h = none_then (begins c k m) _ (begins_not c k m h) (never_more c ks (after k m) (call_keeps c k m h))

-- each class is run once at most
pub run_once : (c : ℕ) (ks : List Call) (m : Classes) → run_count c ks m ≤ 1
run_once c [] m = omega arith
run_once c (k ∷ ks) m = once_then (begins c k m) _ (λ e. never_more c ks (after k m) (begin_touches c k m e)) (run_once c ks (after k m))
