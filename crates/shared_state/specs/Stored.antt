-- Objects as the heap keeps them.
use Rattle.std.specs.Prelude.{List, map}
use Rattle.jvm_base.specs.declared.name.Name.{Name}
use Rattle.jvm_base.specs.declared.value.ObjectBody.{ObjectBody}
use Rattle.jvm_base.specs.declared.value.ObjectBody.TheVariants.{Fields, Array, Text}
use Rattle.machine_state.specs.State.{Heap}
use Rattle.shared_state.specs.declared.stored.Stored.{Stored}
use Rattle.shared_state.specs.declared.stored.Stored.TheVariants as kept

-- the body that is kept
abbrev pub stored_body : Stored → ObjectBody
stored_body (kept.Fields vs) = Fields vs
stored_body (kept.Array vs) = Array vs
stored_body (kept.Text us) = Text us

-- a name and its body
abbrev pub stored_entry : Name × Stored → Name × ObjectBody
stored_entry e = (e.0, stored_body e.1)

-- the heap of what is kept
abbrev pub heap_of : List (Name × Stored) → Heap
heap_of es = map stored_entry es
