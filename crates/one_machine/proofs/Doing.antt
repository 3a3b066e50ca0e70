-- Changes, and a thread that is set.
use Rattle.std.proofs.Common.{◌≡◌, ℕ, zero, suc, ◌<◌, ◌≤◌, List, [], ◌∷◌, ◌++◌, length, Option, Some, None, refl, sym, ap, ◌∙◌, arith}
use Rattle.std.proofs.lemmas.List.{map-set}
use Rattle.std.proofs.lemmas.Option.{slice_get_within}
use Rattle.std.specs.Prelude.{get_or, map, reverse, slice_get, slice_set, Result, Ok, Err, OnErr}
use Rattle.jvm_base.specs.Maps.{put}
use Rattle.jvm_base.specs.Names.{name_cmp}
use Rattle.jvm_base.specs.Words.{from}
use Rattle.program_image.specs.Program.{Program}
use Rattle.machine_state.specs.declared.state.ThreadState.{ThreadState}
use Rattle.machine_state.specs.Changes.{Change, Made, SetsField, SetsElement, SetsContent, Owned, Freed, Sleeps, Moved, MovedAll, Becomes, Started, Finished, Lost, Printed, change, changed, ended, new_thread, with_ended}
use Rattle.machine_state.specs.Serving.{changes_of}
use Rattle.machine_state.specs.State.{State, Heap}
use Rattle.machine_state.specs.Step.{after, moved_on}
use Rattle.machine_state.proofs.FrameLaws.{get_append}
use Rattle.shared_state.specs.Orderly.{AreNew, ArePair, IsOrderly, after_end, ended_in, lasting}
use Rattle.shared_state.specs.Parts.{Parts, HasFirst, state_of, thread_state}
use Rattle.shared_state.specs.declared.thread.Thread.{Thread}
use Rattle.step_after.specs.Going.{stand_of}
use Rattle.step_attempt.specs.declared.going.Going.{Going}
use Rattle.one_machine.specs.Doing.{IsNextState, IsPrepared}

-- an item of a list, under a function
get_map : {A B : Type 0} (f : A → B) (xs : List A) (i : ℕ) (x : A) → slice_get xs i ≡ Some x → slice_get (map f xs) i ≡ Some (f x)
get_map f [] i x e = absurd cc
get_map f (a ∷ xs) zero x e = let one : a ≡ x = cc in ap (λ y. Some (f y)) one
get_map f (a ∷ xs) (suc i) x e = get_map f xs i x e

-- an item is set before others are put behind, or after
pub set_in_front : {A : Type 0} (xs ys : List A) (i : ℕ) (x : A) → i < length xs → slice_set xs i x ++ ys ≡ slice_set (xs ++ ys) i x
set_in_front [] ys i x h = absurd (omega (arith, h))
set_in_front (a ∷ xs) ys zero x h = refl
set_in_front (a ∷ xs) ys (suc i) x h = ap (λ zs. a ∷ zs) (set_in_front xs ys i x (omega (arith, h)))

-- the state with another thread in a place
pub with_thread : State → ℕ → ThreadState → State
with_thread m t th = record m { threads = slice_set m.threads t th }

-- a thread is set before new objects are made or after
new_before : (heap : Heap) (cs : List Change) (m : State) (t : ℕ) (th : ThreadState) → AreNew heap cs → changed cs (with_thread m t th) ≡ with_thread (changed (lasting cs) m) t th
unfolding with_thread
new_before heap [] m t th h = refl
new_before heap (Made n b ∷ cs) m t th h = new_before (put name_cmp n b heap) cs (change (Made n b) m) t th h.1
new_before heap (c ∷ cs) m t th h = absurd h

-- by which no thread ends
new_unended : (heap : Heap) (cs : List Change) → AreNew heap cs → ended_in cs ≡ None
new_unended heap [] h = refl
new_unended heap (Made n b ∷ cs) h = new_unended (put name_cmp n b heap) cs h.1
new_unended heap (c ∷ cs) h = absurd h

-- the state after the end of a thread, if one ends
pub with_end : Option ℕ → State → State
with_end o m = record m { threads = after_end o m.threads }

-- a thread is set before a change or after it, but before the end of a thread
one_before : (c : Change) (m : State) (t : ℕ) (th : ThreadState) → t < length m.threads → changed (c ∷ []) (with_thread m t th) ≡ with_end (ended_in (c ∷ [])) (with_thread (changed (lasting (c ∷ [])) m) t th)
unfolding with_thread with_end
one_before (Started n) m t th h = ap (λ ts. record m { threads = ts }) (set_in_front m.threads (new_thread n ∷ []) t th h)
one_before c m t th h = refl

-- so for two changes of one step
pair_before : (heap : Heap) (c d : Change) (m : State) (t : ℕ) (th : ThreadState) → ArePair heap c d → changed (c ∷ d ∷ []) (with_thread m t th) ≡ with_end (ended_in (c ∷ d ∷ [])) (with_thread (changed (lasting (c ∷ d ∷ [])) m) t th)
unfolding with_thread with_end
pair_before heap (Made n b) (Made k x) m t th h = refl
pair_before heap (Made n b) (Becomes k s) m t th h = refl
pair_before heap (Freed n) (Sleeps l u) m t th h = refl
pair_before heap (Lost x) (Finished u) m t th h = refl
pair_before heap (Made n b) d m t th h = absurd h.1
pair_before heap c d m t th h = absurd h

-- and for all
pub set_before_end : (heap : Heap) (cs : List Change) (m : State) (t : ℕ) (th : ThreadState) → IsOrderly heap cs → t < length m.threads → changed cs (with_thread m t th) ≡ with_end (ended_in cs) (with_thread (changed (lasting cs) m) t th)
unfolding with_thread with_end
set_before_end heap [] m t th o h = refl
set_before_end heap (c ∷ []) m t th o h = one_before c m t th h
set_before_end heap (c ∷ d ∷ []) m t th o h = pair_before heap c d m t th o
set_before_end heap (c ∷ d ∷ e ∷ cs) m t th o h =
    let all = c ∷ d ∷ e ∷ cs in
    new_before heap all m t th o ∙ ap (λ x. with_end x (with_thread (changed (lasting all) m) t th)) (sym (new_unended heap all o))

-- the state after a step: its changes are done, then its thread goes on, and then it may end
pub next_state : (p : Program) (before after_changes : Parts) (olds mids lasts : List Thread) (at steps : ℕ) (g : Going) (fin : Thread) (end : Option ℕ)
    → (prepared : IsPrepared at steps olds mids)
    → IsOrderly before.heap (changes_of before.heap g.served.effects)
    → state_of after_changes mids ≡ changed (lasting (changes_of before.heap g.served.effects)) (state_of before olds)
    → end ≡ ended_in (changes_of before.heap g.served.effects)
    → thread_state fin ≡ after (thread_state prepared.new) (stand_of p g.after g.served.answer prepared.new.mode (reverse prepared.new.levels.items))
    → map thread_state lasts ≡ after_end end (map thread_state (slice_set mids at fin))
    → IsNextState p (state_of before olds) at g (state_of after_changes lasts)
unfolding moved_on with_thread with_end
next_state p before after_changes olds mids lasts at steps g fin end prepared orderly did ends finished lasts_are th k is_th same stand =
    let m : State = state_of before olds in
    let cs : List Change = changes_of before.heap g.served.effects in
    let old_is : slice_get (map thread_state olds) at ≡ Some (thread_state prepared.old) = get_map thread_state olds at prepared.old prepared.is_old in
    let both : Some (thread_state prepared.old) ≡ Some th = sym old_is ∙ is_th in
    let one : thread_state prepared.old ≡ th = cc in
    let mine : thread_state prepared.new ≡ th = prepared.same ∙ one in
    let done : thread_state fin ≡ after th k.stand = finished ∙ ap (λ (x : ThreadState). after x (stand_of p g.after g.served.answer x.mode x.levels)) mine ∙ ap (after th) (sym stand) in
    let within : at < length m.threads = slice_get_within m.threads at th is_th in
    ap (λ (ts : List ThreadState). record (state_of after_changes mids) { threads = ts }) lasts_are
    ∙ ap (λ (ts : List ThreadState). with_end end (record (state_of after_changes mids) { threads = ts })) (map-set thread_state mids at fin ∙ ap (slice_set (map thread_state mids) at) done)
    ∙ ap (λ (s : State). with_end end (with_thread s at (after th k.stand))) did
    ∙ ap (λ (o : Option ℕ). with_end o (with_thread (changed (lasting cs) m) at (after th k.stand))) ends
    ∙ sym (set_before_end before.heap cs m at (after th k.stand) orderly within)
    ∙ ap (λ (xs : List Change). changed xs (with_thread m at (after th k.stand))) same

-- a thread that is there ends
pub ended_there : (ts : List Thread) (at : ℕ) (t u : Thread) → slice_get ts at ≡ Some t → thread_state u ≡ ended (thread_state t) → map thread_state (slice_set ts at u) ≡ with_ended at (map thread_state ts)
ended_there ts at t u e same =
    let all = map thread_state ts in
    map-set thread_state ts at u ∙ ap (slice_set all at) same
    ∙ sym (ap (λ (o : Option ThreadState). from all (λ th. slice_set all at (ended th)) o) (get_map thread_state ts at t e))

-- none does past all threads
pub ended_past : (ts : List Thread) (at : ℕ) → length ts ≤ at → map thread_state ts ≡ with_ended at (map thread_state ts)
ended_past ts at far =
    let all = map thread_state ts in
    sym (ap (λ (o : Option ThreadState). from all (λ th. slice_set all at (ended th)) o) (past ts at far))
  where
    past : (ts : List Thread) (at : ℕ) → length ts ≤ at → slice_get (map thread_state ts) at ≡ None
    past [] at far = refl
    past (x ∷ xs) zero far = absurd (omega (arith, far))
    past (x ∷ xs) (suc i) far = past xs i (omega (arith, far))

-- a thread that is there, among the states of all
pub get_state : (ts : List Thread) (at : ℕ) (t : Thread) → slice_get ts at ≡ Some t → slice_get (map thread_state ts) at ≡ Some (thread_state t)
get_state ts at t e = get_map thread_state ts at t e

-- a thread that is set to one of the same state
pub same_states : (ts : List Thread) (at : ℕ) (t u : Thread) → slice_get ts at ≡ Some t → thread_state u ≡ thread_state t → map thread_state (slice_set ts at u) ≡ map thread_state ts
same_states [] at t u e same = absurd cc
same_states (x ∷ xs) zero t u e same =
    let one : x ≡ t = cc in
    ap (λ y. y ∷ map thread_state xs) (same ∙ ap thread_state (sym one))
same_states (x ∷ xs) (suc i) t u e same = ap (λ ys. thread_state x ∷ ys) (same_states xs i t u e same)

-- what is set is there
pub get_set : (ts : List Thread) (at : ℕ) (t : Thread) → at < length ts → slice_get (slice_set ts at t) at ≡ Some t
get_set [] at t h = absurd (omega (arith, h))
get_set (x ∷ xs) zero t h = refl
get_set (x ∷ xs) (suc i) t h = get_set xs i t (omega (arith, h))

-- what stands in front stays
pub get_front : (ts us : List Thread) (at : ℕ) (t : Thread) → HasFirst ts us → slice_get ts at ≡ Some t → slice_get us at ≡ Some t
get_front ts us at t (more, is) e = ap (λ xs. slice_get xs at) is ∙ get_append ts more at t e

-- what holds whether or not a call failed
pub always : {A E P : Type 0} (r : Result A E) → P → OnErr r P
always (Ok a) h = tt
always (Err e) h = h

-- what an index lends is the item there
pub item_there : (ts : List Thread) (at : ℕ) (t : Thread) → at < length ts → t ≡ get_or ts at t → slice_get ts at ≡ Some t
item_there [] at t h e = absurd (omega (arith, h))
item_there (x ∷ xs) zero t h e = ap (λ y. Some y) (sym e)
item_there (x ∷ xs) (suc i) t h e = item_there xs i t (omega (arith, h)) e
