-- No thread takes more steps than it may.
use Rattle.std.proofs.Common.{◌≡◌, ℕ, zero, suc, ◌+◌, ◌-◌, ◌<◌, ◌≤◌, ◌⊎◌, inl, inr, Bool, false, not, ◌&&◌, nat_le, List, [], ◌∷◌, ◌++◌, length, Option, Some, None, refl, sym, ap, ◌∙◌, subst, arith}
use Rattle.std.specs.Prelude.{slice_get, slice_set}
use Rattle.std.proofs.Math.Nat.{min-le_right}
use Rattle.std.proofs.lemmas.List.{length-set}
use Rattle.std.proofs.lemmas.Bool.Decides.{nat_tests}
use Rattle.jvm_base.specs.Words.{from}
use Rattle.program_image.specs.Program.{Program}
use Rattle.machine_state.specs.declared.state.Choice.{Choice}
use Rattle.machine_state.specs.declared.state.Mode.{Mode}
use Rattle.machine_state.specs.declared.state.Mode.TheVariants.{Entry, Running, Raising, Waiting, Ended}
use Rattle.machine_state.specs.declared.state.ThreadState.{ThreadState}
use Rattle.machine_state.specs.Changes.{Change, Made, SetsField, SetsElement, SetsContent, Owned, Freed, Sleeps, Moved, MovedAll, Becomes, Started, Finished, Lost, Printed, change, changed, ended, new_thread}
use Rattle.machine_state.specs.State.{State, is_ended}
use Rattle.machine_state.specs.Step.{Taken, after, attempt, by_mode, moved_on, step, step_of, taken_by}
use Rattle.machine_state.proofs.NameTests.{some_is}
use Rattle.one_machine.specs.Gliding.{AreGlided, IsGlided}
use Rattle.scheduler.specs.Running.{AreWithin, at_limit}

-- ---- lists

-- an item of a list in which one is set is that one, or was there
set_cases : {A : Type 0} (xs : List A) (i j : ℕ) (x y : A) → slice_get (slice_set xs i x) j ≡ Some y
    → (y ≡ x) ⊎ (slice_get xs j ≡ Some y)
set_cases [] i j x y e = inr e
set_cases (z ∷ xs) zero zero x y e = inl (sym (some_is e))
set_cases (z ∷ xs) zero (suc j) x y e = inr e
set_cases (z ∷ xs) (suc i) zero x y e = inr e
set_cases (z ∷ xs) (suc i) (suc j) x y e = set_cases xs i j x y e

-- so is one of a list that has one more
push_cases : {A : Type 0} (xs : List A) (j : ℕ) (x y : A) → slice_get (xs ++ x ∷ []) j ≡ Some y
    → (y ≡ x) ⊎ (slice_get xs j ≡ Some y)
push_cases [] zero x y e = inl (sym (some_is e))
push_cases [] (suc j) x y e = absurd cc
push_cases (z ∷ xs) zero x y e = inr e
push_cases (z ∷ xs) (suc j) x y e = push_cases xs j x y e

-- ---- changes

-- a thread that is started has taken no step; other changes leave the threads
change_within : (limit : ℕ) (h : Change) (m : State) → AreWithin limit m
    → AreWithin limit (change h m)
change_within limit (Started n) m w =
    λ t th e. by_case t th (push_cases m.threads t (new_thread n) th e)
  where
    by_case : (t : ℕ) (th : ThreadState) → (th ≡ new_thread n) ⊎ (slice_get m.threads t ≡ Some th)
        → th.steps ≤ limit
    by_case t th (inl e) = let s : th.steps ≡ 0 = ap (λ (x : ThreadState). x.steps) e in omega arith
    by_case t th (inr e) = w t th e
change_within limit (Finished x) m w = λ t th e. by_thread t th (slice_get m.threads x) refl e
  where
    by_case : (t : ℕ) (th own : ThreadState) → slice_get m.threads x ≡ Some own
        → (th ≡ ended own) ⊎ (slice_get m.threads t ≡ Some th) → th.steps ≤ limit
    by_case t th own f (inl e) =
        let s : th.steps ≡ own.steps = ap (λ (y : ThreadState). y.steps) e in
        let few : own.steps ≤ limit = w x own f in
        omega arith
    by_case t th own f (inr e) = w t th e

    by_thread : (t : ℕ) (th : ThreadState) (o : Option ThreadState) → slice_get m.threads x ≡ o
        → slice_get (from m.threads (λ y. slice_set m.threads x (ended y)) o) t ≡ Some th
        → th.steps ≤ limit
    by_thread t th None f e = w t th e
    by_thread t th (Some own) f e = by_case t th own f (set_cases m.threads x t (ended own) th e)
change_within limit (Made n b) m w = w
change_within limit (SetsField n i v) m w = w
change_within limit (SetsElement n i v) m w = w
change_within limit (SetsContent n us) m w = w
change_within limit (Owned n o) m w = w
change_within limit (Freed n) m w = w
change_within limit (Sleeps n t) m w = w
change_within limit (Moved n t) m w = w
change_within limit (MovedAll n) m w = w
change_within limit (Becomes c s) m w = w
change_within limit (Lost x) m w = w
change_within limit (Printed us) m w = w

-- so do changes
changes_within : (limit : ℕ) (hs : List Change) (m : State) → AreWithin limit m
    → AreWithin limit (changed hs m)
changes_within limit [] m w = w
changes_within limit (h ∷ hs) m w = changes_within limit hs (change h m) (change_within limit h m w)

-- a thread that may take a further step takes it
moved_within : (limit : ℕ) (m : State) (t : ℕ) (own : ThreadState) (k : Taken) → own.steps < limit
    → AreWithin limit m → AreWithin limit (moved_on m t own k)
unfolding moved_on
moved_within limit m t own k lt w =
    changes_within limit k.deed.changes
    (record m { threads = slice_set m.threads t (after own k.stand) })
    (λ u th e. by_case u th (set_cases m.threads t u (after own k.stand) th e))
  where
    by_case : (u : ℕ) (th : ThreadState)
        → (th ≡ after own k.stand) ⊎ (slice_get m.threads u ≡ Some th) → th.steps ≤ limit
    by_case u th (inl e) = let s : th.steps ≡ own.steps + 1 = ap (λ (x : ThreadState). x.steps) e in
        omega arith
    by_case u th (inr e) = w u th e

-- ---- a step

-- a thread that has ended takes no step
pub goes_unended : (p : Program) (m : State) (c : Choice) (th : ThreadState) (k : Taken)
    → attempt p m c th ≡ Some k → is_ended th.mode ≡ false
unfolding attempt
goes_unended p m c th k e = by_case th.mode e
  where
    by_case : (mode : Mode) → by_mode p m c th mode ≡ Some k → is_ended mode ≡ false
    by_case Ended h = absurd cc
    by_case Entry h = refl
    by_case Running h = refl
    by_case (Raising x) h = refl
    by_case (Waiting n j) h = refl

-- a thread that hasn't ended and isn't at its limit may take a further step
unspent_below : (limit : ℕ) (th : ThreadState) → is_ended th.mode ≡ false
    → at_limit limit (Some th) ≡ false → th.steps < limit
unspent_below limit th e u =
    by_test (nat_le limit th.steps) refl (sym (ap (λ b. not b && nat_le limit th.steps) e) ∙ u)
  where
    by_test : (b : Bool) → nat_le limit th.steps ≡ b → nat_le limit th.steps ≡ false
        → th.steps < limit
    by_test b h f = grind (arith, nat_tests)

-- a step of a thread that isn't at its limit
pub step_within : (p : Program) (limit : ℕ) (m l : State) (c : Choice) (th : ThreadState)
    (k : Taken) → slice_get m.threads c.thread ≡ Some th → attempt p m c th ≡ Some k
    → step p m c ≡ Some l → at_limit limit (slice_get m.threads c.thread) ≡ false
    → AreWithin limit m → AreWithin limit l
unfolding step
step_within p limit m l c th k e a s u w =
    by_taken (taken_by p m c th) (sym (ap (step_of p m c) e) ∙ s)
  where
    below : th.steps < limit
    below = unspent_below limit th (goes_unended p m c th k a) (sym (ap (at_limit limit) e) ∙ u)

    by_taken : (o : Option Taken) → from None (λ j. Some (moved_on m c.thread th j)) o ≡ Some l
        → AreWithin limit l
    by_taken None h = absurd cc
    by_taken (Some j) h = subst (λ (x : State). AreWithin limit x) (some_is h)
        (moved_within limit m c.thread th j below w)

-- ---- steps in a row

-- a thread that stopped at its limit
glided_below : (p : Program) (most limit n : ℕ) (old new : ThreadState) → old.steps ≤ limit
    → IsGlided p most limit n old new → new.steps ≤ limit
glided_below p most limit n old new below g =
    let s : new.steps ≡ old.steps + n = ap (λ (x : ThreadState). x.steps) g.stepped in
    omega (arith, below, g.moves.few, min-le_right most (limit - old.steps))

-- and the others as they were
pub glided_within : (p : Program) (t most limit n : ℕ) (m : State) (news : List ThreadState)
    (o : Option ThreadState) → slice_get m.threads t ≡ o
    → AreGlided p t most limit n m.threads news o → AreWithin limit m
    → AreWithin limit (record m { threads = news })
glided_within p t most limit n m news None at (none, same) w = λ u th e.
    w u th (ap (λ (ts : List ThreadState). slice_get ts u) (sym same) ∙ e)
glided_within p t most limit n m news (Some old) at (new, g, same) w = λ u th e.
    by_case u th (set_cases m.threads t u new th
    (ap (λ (ts : List ThreadState). slice_get ts u) (sym same) ∙ e))
  where
    by_case : (u : ℕ) (th : ThreadState) → (th ≡ new) ⊎ (slice_get m.threads u ≡ Some th)
        → th.steps ≤ limit
    by_case u th (inl e) = subst (λ (x : ThreadState). x.steps ≤ limit) (sym e)
        (glided_below p most limit n old new (w t old at) g)
    by_case u th (inr e) = w u th e

-- there are as many threads
pub glided_few : (p : Program) (t most limit n : ℕ) (olds news : List ThreadState)
    (o : Option ThreadState) → AreGlided p t most limit n olds news o → length news ≡ length olds
glided_few p t most limit n olds news None (none, same) = ap length same
glided_few p t most limit n olds news (Some old) (new, g, same) =
    ap length same ∙ length-set olds t new
