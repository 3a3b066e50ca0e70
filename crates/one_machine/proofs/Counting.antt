-- How many threads there are after a step.
use Rattle.std.proofs.Common.{◌≡◌, ℕ, ◌+◌, ◌≤◌, ◌<◌, Bool, true, false, ◌&&◌, ◌||◌, List, [], ◌∷◌, ◌++◌, length, Option, Some, None, refl, sym, ap, subst, ◌∙◌, arith}
use Rattle.std.proofs.lemmas.Bool.Decides.{nat_tests}
use Rattle.std.proofs.lemmas.List.{length-append, length-set}
use Rattle.std.specs.List.{list_any}
use Rattle.std.specs.Prelude.{nat_le, slice_set}
use Rattle.jvm_base.specs.Maps.{put}
use Rattle.jvm_base.specs.Names.{name_cmp}
use Rattle.machine_state.specs.Changes.{Change, Made, SetsField, SetsElement, SetsContent, Owned, Freed, Sleeps, Moved, MovedAll, Becomes, Started, Finished, Lost, Printed, change, changed, new_thread}
use Rattle.machine_state.specs.declared.state.ThreadState.{ThreadState}
use Rattle.machine_state.specs.State.{State, Heap}
use Rattle.machine_state.specs.Step.{Taken, after, moved_on}
use Rattle.machine_state.proofs.Endings.{ended_length}
use Rattle.shared_state.specs.Orderly.{AreNew, ArePair, IsOrderly}
use Rattle.one_machine.specs.Going.{StayFew, is_full, is_start}

-- one change that starts no thread
unstarted_one : (c : Change) (m : State) → is_start c ≡ false → length (change c m).threads ≡ length m.threads
unstarted_one (Started n) m e = absurd cc
unstarted_one (Made n b) m e = refl
unstarted_one (SetsField n i v) m e = refl
unstarted_one (SetsElement n i v) m e = refl
unstarted_one (SetsContent n us) m e = refl
unstarted_one (Owned n o) m e = refl
unstarted_one (Freed n) m e = refl
unstarted_one (Sleeps n u) m e = refl
unstarted_one (Moved n u) m e = refl
unstarted_one (MovedAll n) m e = refl
unstarted_one (Becomes k s) m e = refl
unstarted_one (Finished t) m e = ended_length m.threads t
unstarted_one (Lost u) m e = refl
unstarted_one (Printed bytes) m e = refl

-- neither of two
neither : (a b : Bool) → (a || b) ≡ false → (a ≡ false) × (b ≡ false)
neither true b h = absurd cc
neither false b h = (refl, h)

-- changes that start none
unstarted : (cs : List Change) (m : State) → list_any is_start cs ≡ false → length (changed cs m).threads ≡ length m.threads
unstarted [] m e = refl
unstarted (c ∷ cs) m e =
    let (first, rest) = neither (is_start c) (list_any is_start cs) e in
    unstarted cs (change c m) rest ∙ unstarted_one c m first

-- one change starts one at most
one_more : (c : Change) (m : State) → length (change c m).threads ≤ length m.threads + 1
one_more c m = by_start (is_start c) refl
  where
    started : (d : Change) → is_start d ≡ true → length (change d m).threads ≤ length m.threads + 1
    started (Started n) e = omega (arith, length-append m.threads (new_thread n ∷ []))
    started _ e = absurd cc

    by_start : (b : Bool) → is_start c ≡ b → length (change c m).threads ≤ length m.threads + 1
    by_start true e = started c e
    by_start false e = omega (arith, unstarted_one c m e)

-- new objects alone start none
new_unstarted : (heap : Heap) (cs : List Change) → AreNew heap cs → list_any is_start cs ≡ false
new_unstarted heap [] h = refl
new_unstarted heap (Made n b ∷ cs) h = new_unstarted (put name_cmp n b heap) cs h.1
new_unstarted heap (Started n ∷ cs) h = absurd h
new_unstarted heap (SetsField n i v ∷ cs) h = absurd h
new_unstarted heap (SetsElement n i v ∷ cs) h = absurd h
new_unstarted heap (SetsContent n us ∷ cs) h = absurd h
new_unstarted heap (Owned n o ∷ cs) h = absurd h
new_unstarted heap (Freed n ∷ cs) h = absurd h
new_unstarted heap (Sleeps n u ∷ cs) h = absurd h
new_unstarted heap (Moved n u ∷ cs) h = absurd h
new_unstarted heap (MovedAll n ∷ cs) h = absurd h
new_unstarted heap (Becomes k s ∷ cs) h = absurd h
new_unstarted heap (Finished t ∷ cs) h = absurd h
new_unstarted heap (Lost u ∷ cs) h = absurd h
new_unstarted heap (Printed bytes ∷ cs) h = absurd h

-- the second of a pair starts none
second_unstarted : (heap : Heap) (c d : Change) → ArePair heap c d → is_start d ≡ false
second_unstarted heap (Made n b) (Started k) h = absurd h.1
second_unstarted heap c (Started k) h = absurd h
second_unstarted heap c _ h = refl

-- the changes of one step start one at most
pub at_most_one : (heap : Heap) (cs : List Change) (m : State) → IsOrderly heap cs → length (changed cs m).threads ≤ length m.threads + 1
at_most_one heap [] m h = omega arith
at_most_one heap (c ∷ []) m h = one_more c m
at_most_one heap (c ∷ d ∷ []) m h = omega (arith, unstarted_one d (change c m) (second_unstarted heap c d h), one_more c m)
at_most_one heap (c ∷ d ∷ e ∷ cs) m h = omega (arith, unstarted (c ∷ d ∷ e ∷ cs) m (new_unstarted heap (c ∷ d ∷ e ∷ cs) h))

-- the state after a step has no more threads than there may be
pub stay_few : (most : Option ℕ) (m : State) (t : ℕ) (th : ThreadState) (k : Taken) → IsOrderly m.heap k.deed.changes → (is_full (length m.threads) most && list_any is_start k.deed.changes) ≡ false → StayFew most m (moved_on m t th k)
unfolding moved_on
stay_few None m t th k orderly few = tt
stay_few (Some n) m t th k orderly few = λ within. by_start within (list_any is_start k.deed.changes) refl
  where
    own : State
    own = record m { threads = slice_set m.threads t (after th k.stand) }

    same : length own.threads ≡ length m.threads
    same = length-set m.threads t (after th k.stand)

    by_full : (b : Bool) → nat_le n (length m.threads) ≡ b → (b && true) ≡ false → length m.threads < n
    by_full true e h = absurd cc
    by_full false e h = grind (arith, nat_tests)

    by_start : length m.threads ≤ n → (b : Bool) → list_any is_start k.deed.changes ≡ b → length (changed k.deed.changes own).threads ≤ n
    by_start within false e = omega (arith, unstarted k.deed.changes own e, same, within)
    by_start within true e = omega (arith, at_most_one m.heap k.deed.changes own orderly, same, by_full (nat_le n (length m.threads)) refl (sym (ap (λ b. nat_le n (length m.threads) && b) e) ∙ few))
