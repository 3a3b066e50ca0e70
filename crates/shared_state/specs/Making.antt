-- Objects that are made one after the other, each with a mark left in its place, and taken out again
-- by the marks.
use Rattle.std.specs.Prelude.{◌≡◌, ℕ, ◌+◌, List, [], ◌∷◌, take, drop, None}
use Rattle.std.specs.Map.{remove_entry}
use Rattle.std.specs.BTreeMap.{is_at}
use Rattle.jvm_base.specs.Maps.{put}
use Rattle.jvm_base.specs.Names.{name_cmp}
use Rattle.machine_state.specs.declared.served.Effect.{Effect}
use Rattle.machine_state.specs.declared.served.Effect.TheVariants as effect
use Rattle.machine_state.specs.State.{Heap, body_at}

-- the heap with the object of an effect
abbrev pub with_made : Effect → Heap → Heap
with_made (effect.Made n b) heap = put name_cmp n b heap
with_made _ heap = heap

-- with those of all
abbrev pub all_made : List Effect → Heap → Heap
all_made [] heap = heap
all_made (e ∷ es) heap = all_made es (with_made e heap)

-- the effects make objects, each of a name that is new
abbrev pub AllNew : Heap → List Effect → Type 0
AllNew heap [] = Unit {0}
AllNew heap (effect.Made n b ∷ es) = (body_at heap n ≡ None) × AllNew (put name_cmp n b heap) es
AllNew heap (_ ∷ es) = ⊥

-- what is left in the place of an object that was made
abbrev pub mark_of : Effect → Effect
mark_of (effect.Made n b) = effect.Freed n
mark_of e = e

-- the heap without the object that a mark names
abbrev pub unmade : Effect → Heap → Heap
unmade (effect.Freed n) heap = remove_entry (is_at (name_cmp n)) heap
unmade _ heap = heap

-- without those of all, the last one first
abbrev pub all_unmade : List Effect → Heap → Heap
all_unmade [] heap = heap
all_unmade (e ∷ es) heap = unmade e (all_unmade es heap)

-- from one heap and list to the next: one object more was made, and can be taken out again
pub record IsNext (at : ℕ) (heap : Heap) (es : List Effect) (next : Heap) (marked : List Effect) : Type 0 where
  pub undone : all_unmade (take (at + 1) marked) next ≡ all_unmade (take at es) heap
  pub rest_new : AllNew next (drop (at + 1) marked)
  pub rest_made : all_made (drop (at + 1) marked) next ≡ all_made (drop at es) heap
