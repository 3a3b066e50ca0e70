-- What is told of deeds, where only the heap matters.
use Rattle.std.specs.Prelude.{◌≡◌, ℕ, List, [], ◌∷◌, ◌++◌, Option, Some, None}
use Rattle.machine_state.specs.declared.request.Answer.{Answer}
use Rattle.machine_state.specs.declared.served.Effects.{Effects}
use Rattle.machine_state.specs.declared.served.Served.{Served}
use Rattle.machine_state.specs.declared.served.Wish.{Wish}
use Rattle.machine_state.specs.declared.served.Wish.TheVariants as wish
use Rattle.machine_state.specs.declared.state.Choice.{Choice}
use Rattle.machine_state.specs.Changes.{Change}
use Rattle.machine_state.specs.Deeds.{Deed}
use Rattle.machine_state.specs.Serving.{IsServed, changes_of}
use Rattle.machine_state.specs.State.{State, Heap}

-- a machine with this heap, and nothing else
abbrev pub in_heap : Heap → State
in_heap heap = record {
  heap = heap;
  threads = [];
  monitors = [];
  waiting = [];
  classes = [];
  output = [];
  uncaught = [];
}

-- what is told of a deed is right
abbrev pub Tells : Heap → Wish → Deed → Served → Type 0
Tells heap w d s = IsServed (in_heap heap) w d s

-- there is a deed, and what is told of it is right
abbrev pub TellsSome : Heap → Wish → Option Deed → Served → Type 0
TellsSome heap w None s = ⊥
TellsSome heap w (Some d) s = Tells heap w d s

-- of what is done by choice: nothing is told where nothing can be done
abbrev pub TellsOf : Heap → Wish → (Choice → Option Deed) → Option Served → Type 0
TellsOf heap w deed None = (c : Choice) → deed c ≡ None
TellsOf heap w deed (Some s) = TellsSome heap w (deed s.choice) s

-- a deed with further changes
abbrev pub with_changes : List Change → Deed → Deed
with_changes cs d = record d { changes = d.changes ++ cs }

-- a deed that makes nothing and picks nobody, with these changes and this answer
pub record IsPlain (heap : Heap) (effects : Effects) (answer : Answer) (d : Deed) : Type 0 where
  pub makes : d.makes ≡ []
  pub waiters : d.waiters ≡ []
  pub changes : changes_of heap effects ≡ d.changes
  pub answers : answer ≡ d.answer

-- a deed that makes one object of the class, with these changes and this answer
pub record IsMaking (heap : Heap) (class : ℕ) (effects : Effects) (answer : Answer) (d : Deed) : Type 0 where
  pub makes : d.makes ≡ class ∷ []
  pub waiters : d.waiters ≡ []
  pub changes : changes_of heap effects ≡ d.changes
  pub answers : answer ≡ d.answer
