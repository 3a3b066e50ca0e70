-- Objects that are made one after the other.
use Rattle.std.proofs.Common.{◌≡◌, ◌∙◌, sym, refl, ap, subst, ℕ, zero, suc, ◌+◌, ◌<◌, ◌≤◌, List, [], ◌∷◌, ◌++◌, take, drop, length, Some, None, arith, length-append, map}
use Rattle.std.specs.Prelude.{slice_get, slice_set}
use Rattle.machine_state.specs.declared.served.Effect.{Effect}
use Rattle.machine_state.specs.declared.served.Effect.TheVariants as effect
use Rattle.machine_state.specs.State.{Heap}
use Rattle.shared_state.specs.Making.{with_made, all_made, AllNew, mark_of, unmade, all_unmade, IsNext}
use Rattle.shared_state.specs.Orderly.{AreNew, IsOrderly, ended_in, lasting}
use Rattle.shared_state.specs.Parts.{Parts, state_of}
use Rattle.shared_state.specs.declared.thread.Thread.{Thread}
use Rattle.machine_state.specs.Serving.{change_of}
use Rattle.machine_state.specs.Changes.{changed}
use Rattle.jvm_base.specs.Maps.{put}
use Rattle.jvm_base.specs.Names.{name_cmp}
use Rattle.shared_state.proofs.HeapLaws.{made_gone}

module _ {A : Type 0} where
  -- the rest from a place on begins with its item
  pub drop_at : (xs : List A) (i : ℕ) (x : A) → slice_get xs i ≡ Some x → drop i xs ≡ x ∷ drop (suc i) xs
  drop_at [] i x e = absurd cc
  drop_at (y ∷ ys) zero x e = ap (λ z. z ∷ ys) (some_inside e)
    where
      some_inside : Some y ≡ Some x → y ≡ x
      some_inside h = cc
  drop_at (y ∷ ys) (suc i) x e = drop_at ys i x e

  -- an item doesn't show behind its place
  drop_past_set : (xs : List A) (i : ℕ) (x : A) → drop (suc i) (slice_set xs i x) ≡ drop (suc i) xs
  drop_past_set [] i x = refl
  drop_past_set (y ∷ ys) zero x = refl
  drop_past_set (y ∷ ys) (suc i) x = drop_past_set ys i x

  -- nor before it
  pub take_before_set : (xs : List A) (i : ℕ) (x : A) → take i (slice_set xs i x) ≡ take i xs
  take_before_set [] i x = refl
  take_before_set (y ∷ ys) zero x = refl
  take_before_set (y ∷ ys) (suc i) x = ap (λ r. y ∷ r) (take_before_set ys i x)

  -- up to its place it is the last one
  take_to_set : (xs : List A) (i : ℕ) (x y : A) → slice_get xs i ≡ Some y → take (suc i) (slice_set xs i x) ≡ take i xs ++ x ∷ []
  take_to_set [] i x y e = absurd cc
  take_to_set (z ∷ zs) zero x y e = refl
  take_to_set (z ∷ zs) (suc i) x y e = ap (λ r. z ∷ r) (take_to_set zs i x y e)

  -- the first items up to a place end with its item
  take_to : (xs : List A) (i : ℕ) (x : A) → slice_get xs i ≡ Some x → take (suc i) xs ≡ take i xs ++ x ∷ []
  take_to [] i x e = absurd cc
  take_to (y ∷ ys) zero x e = ap (λ z. z ∷ []) (some_inside e)
    where
      some_inside : Some y ≡ Some x → y ≡ x
      some_inside h = cc
  take_to (y ∷ ys) (suc i) x e = ap (λ r. y ∷ r) (take_to ys i x e)

-- new objects among changes
all_new : (heap h : Heap) (es : List Effect) → AreNew heap (map (change_of h) es) → AllNew heap es
all_new heap h [] n = tt
all_new heap h (effect.Made k b ∷ es) n = (n.0, all_new (put name_cmp k b heap) h es n.1)
all_new heap h (effect.SetsField k i v ∷ es) n = absurd n
all_new heap h (effect.SetsElement k i v ∷ es) n = absurd n
all_new heap h (effect.Appends k us ∷ es) n = absurd n
all_new heap h (effect.Owned k o ∷ es) n = absurd n
all_new heap h (effect.Freed k ∷ es) n = absurd n
all_new heap h (effect.Sleeps k t ∷ es) n = absurd n
all_new heap h (effect.Moved k t ∷ es) n = absurd n
all_new heap h (effect.MovedAll k ∷ es) n = absurd n
all_new heap h (effect.Becomes k s ∷ es) n = absurd n
all_new heap h (effect.Started k ∷ es) n = absurd n
all_new heap h (effect.Finished t ∷ es) n = absurd n
all_new heap h (effect.Lost u ∷ es) n = absurd n
all_new heap h (effect.Printed bytes ∷ es) n = absurd n

-- the last one is taken out first
unmade_last : (es : List Effect) (e : Effect) (heap : Heap) → all_unmade (es ++ e ∷ []) heap ≡ all_unmade es (unmade e heap)
unmade_last [] e heap = refl
unmade_last (x ∷ xs) e heap = ap (unmade x) (unmade_last xs e heap)

-- a mark takes out what was made
mark_undoes : (e : Effect) (es : List Effect) (heap : Heap) → AllNew heap (e ∷ es) → unmade (mark_of e) (with_made e heap) ≡ heap
mark_undoes (effect.Made n b) es heap h = made_gone n b heap h.0
mark_undoes _ es heap h = absurd h

-- what is left is new once one more was made
rest_new : (e : Effect) (es : List Effect) (heap : Heap) → AllNew heap (e ∷ es) → AllNew (with_made e heap) es
rest_new (effect.Made n b) es heap h = h.1
rest_new _ es heap h = absurd h

-- one object more
pub made_next : (es : List Effect) (at : ℕ) (e : Effect) (heap : Heap) → slice_get es at ≡ Some e → AllNew heap (drop at es) → IsNext at heap es (with_made e heap) (slice_set es at (mark_of e))
made_next es at e heap g h =
    let one : at + 1 ≡ suc at = omega arith in
    let split = drop_at es at e g in
    let new = subst (AllNew heap) split h in
    let past : drop (at + 1) (slice_set es at (mark_of e)) ≡ drop (suc at) es = ap (λ k. drop k (slice_set es at (mark_of e))) one ∙ drop_past_set es at (mark_of e) in
    let upto : take (at + 1) (slice_set es at (mark_of e)) ≡ take at es ++ mark_of e ∷ [] = ap (λ k. take k (slice_set es at (mark_of e))) one ∙ take_to_set es at (mark_of e) e g in
    record {
      undone = ap (λ xs. all_unmade xs (with_made e heap)) upto ∙ (unmade_last (take at es) (mark_of e) (with_made e heap) ∙ ap (all_unmade (take at es)) (mark_undoes e (drop (suc at) es) heap new));
      rest_new = subst (AllNew (with_made e heap)) (sym past) (rest_new e (drop (suc at) es) heap new);
      rest_made = ap (λ xs. all_made xs (with_made e heap)) past ∙ sym (ap (λ xs. all_made xs heap) split);
    }

-- the same, of what the code has made
pub made_here : (es : List Effect) (at : ℕ) (e mark : Effect) (heap next : Heap) → slice_get es at ≡ Some e → AllNew heap (drop at es) → next ≡ with_made e heap → mark ≡ mark_of e → IsNext at heap es next (slice_set es at mark)
made_here es at e mark heap next g h n m = rw (n, m) (made_next es at e heap g h)

-- one object is taken out
pub unmade_next : (es : List Effect) (left : ℕ) (e : Effect) (heap : Heap) → slice_get es left ≡ Some e → all_unmade (take left es) (unmade e heap) ≡ all_unmade (take (left + 1) es) heap
unmade_next es left e heap g =
    let one : left + 1 ≡ suc left = omega arith in
    sym (ap (λ xs. all_unmade xs heap) (ap (λ k. take k es) one ∙ take_to es left e g) ∙ unmade_last (take left es) e heap)

-- many changes that are orderly make objects
pub orderly_new : (heap h : Heap) (es : List Effect) → 2 < length es → IsOrderly heap (map (change_of h) es) → AllNew heap es
orderly_new heap h [] n o = absurd (omega (arith, n))
orderly_new heap h (a ∷ []) n o = absurd (omega (arith, n))
orderly_new heap h (a ∷ b ∷ []) n o = absurd (omega (arith, n))
orderly_new heap h (a ∷ b ∷ c ∷ es) n o = all_new heap h (a ∷ b ∷ c ∷ es) o

-- a state whose objects are made
pub made_changed : (heap h : Heap) (es : List Effect) (p : Parts) (ts : List Thread) → AllNew heap es → changed (lasting (map (change_of h) es)) (state_of p ts) ≡ state_of (record p { heap = all_made es p.heap }) ts
made_changed heap h [] p ts n = refl
made_changed heap h (effect.Made k b ∷ es) p ts n = made_changed (put name_cmp k b heap) h es (record p { heap = put name_cmp k b p.heap }) ts n.1
made_changed heap h (_ ∷ es) p ts n = absurd n

-- no thread ends by new objects
pub none_ended : (heap h : Heap) (es : List Effect) → AllNew heap es → ended_in (map (change_of h) es) ≡ None
none_ended heap h [] n = refl
none_ended heap h (effect.Made k b ∷ es) n = none_ended (put name_cmp k b heap) h es n.1
none_ended heap h (_ ∷ es) n = absurd n

-- at most two effects are these
pub two_effects : (es rest : List Effect) (a b : Effect) → es ≡ (rest ++ a ∷ []) ++ b ∷ [] → length es ≤ 2 → es ≡ a ∷ b ∷ []
two_effects es [] a b e n = e
two_effects es (x ∷ xs) a b e n = absurd (omega (arith, n, ap length e, length-append ((x ∷ xs) ++ a ∷ []) (b ∷ []), length-append (x ∷ xs) (a ∷ [])))
