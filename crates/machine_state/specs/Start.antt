-- The state before the first step.
use Rattle.std.specs.Prelude.{ℕ, ◌+◌, List, [], ◌∷◌, if◌then◌else◌, nat_lt, length, None}
use Rattle.jvm_base.specs.Maps.{put}
use Rattle.jvm_base.specs.Names.{name_cmp}
use Rattle.jvm_base.specs.declared.name.Name.{Name}
use Rattle.jvm_base.specs.declared.value.ObjectBody.{ObjectBody}
use Rattle.program_image.specs.declared.info.ClassInfo.{ClassInfo}
use Rattle.program_image.specs.Program.{Program}
use Rattle.machine_state.specs.declared.state.ClassState.{ClassState}
use Rattle.machine_state.specs.declared.state.ClassState.TheVariants.{Untouched, Done}
use Rattle.machine_state.specs.BootClasses.{boot_class_count}
use Rattle.machine_state.specs.PreMade.{pre_made, main_thread}
use Rattle.machine_state.specs.State.{State, Heap}
use Rattle.machine_state.specs.Changes.{new_thread}
use Rattle.machine_state.specs.Events.{Told, told_by, onto, body_writes}

-- a heap with these objects
abbrev pub all_put : List (Name × ObjectBody) → Heap → Heap
all_put [] heap = heap
all_put (e ∷ es) heap = all_put es (put name_cmp e.0 e.1 heap)

-- boot classes are done, the others untouched; the first of these has this number
abbrev pub first_states : ℕ → List ClassInfo → List ClassState
first_states c [] = []
first_states c (k ∷ ks) =
    (if nat_lt c boot_class_count then Done else Untouched) ∷ first_states (c + 1) ks

-- thread 0 is about to call `main`
unfoldable pub start : Program → List (List ℕ) → State
start p args = record {
  heap = all_put (pre_made p args) [];
  threads = new_thread (main_thread p (length args)) ∷ [];
  monitors = [];
  waiting = [];
  classes = first_states 0 p.classes;
  output = [];
  uncaught = [];
}

-- the contents of these objects, as writes before others, the last first
abbrev pub first_writes : List (Name × ObjectBody) → List Told → List Told
first_writes [] told = told
first_writes (o ∷ os) told = first_writes os (onto (told_by None (body_writes o.0 o.1)) told)

-- what is told before the first step
unfoldable pub start_events : Program → List (List ℕ) → List Told
start_events p args = first_writes (pre_made p args) []
