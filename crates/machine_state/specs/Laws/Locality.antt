-- Where a deed's changes lie: at the cell that its request addresses, or at names that it makes.
use Rattle.std.specs.Prelude.{◌≡◌, true, List, [], ◌∷◌, Some}
use Rattle.jvm_base.specs.declared.name.Name.{Name}
use Rattle.program_image.specs.Buffers.{is_buffer}
use Rattle.machine_state.specs.State.{Heap}
use Rattle.machine_state.specs.Requests.{Key, OfBody, OfLock, OfClass, OfThreads, OfConsole}
use Rattle.machine_state.specs.Changes.{Change, Made, SetsField, SetsElement, SetsContent, Owned, Freed, Sleeps, Moved, MovedAll, Becomes, Started, Finished, Lost, Printed}
use Rattle.machine_state.specs.Events.{Place, Held, held_at}
use Rattle.machine_state.specs.Deeds.{Deed}

-- a change is of what a key addresses, or makes an object on the node of a name
abbrev pub IsAt : Key → Name → Change → Type 0
IsAt key name (Made n b) = n.node ≡ name.node
IsAt key name (SetsField n i v) = key ≡ OfBody n
IsAt key name (SetsElement n i v) = key ≡ OfBody n
IsAt key name (SetsContent n us) = (key ≡ OfBody n) × (is_buffer n.class ≡ true)
IsAt key name (Owned n o) = key ≡ OfLock n
IsAt key name (Freed n) = key ≡ OfLock n
IsAt key name (Sleeps n t) = key ≡ OfLock n
IsAt key name (Moved n t) = key ≡ OfLock n
IsAt key name (MovedAll n) = key ≡ OfLock n
IsAt key name (Becomes c s) = key ≡ OfClass c
IsAt key name (Started n) = key ≡ OfThreads
IsAt key name (Finished t) = key ≡ OfThreads
IsAt key name (Lost u) = key ≡ OfThreads
IsAt key name (Printed us) = key ≡ OfConsole

-- all of these are
abbrev pub AreAt : Key → Name → List Change → Type 0
AreAt key name [] = Unit {0}
AreAt key name (c ∷ cs) = IsAt key name c × AreAt key name cs

-- what is read is what the heap holds
abbrev pub AllHeld : Heap → List (Place × Held) → Type 0
AllHeld heap [] = Unit {0}
AllHeld heap (r ∷ rs) = (held_at heap r.0 ≡ Some r.1) × AllHeld heap rs

-- a deed reads what the heap holds, and its changes lie so
pub record Local (heap : Heap) (name : Name) (key : Key) (d : Deed) : Type 0 where
  pub reads : AllHeld heap d.reads
  pub homes : AreAt key name d.changes
