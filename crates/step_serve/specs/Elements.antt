-- An element that is there is written.
use Rattle.std.specs.Prelude.{ℤ, Bool, if◌then◌else◌, unsigned_abs, [], ◌∷◌, None}
use Rattle.jvm_base.specs.declared.name.Name.{Name}
use Rattle.jvm_base.specs.declared.value.Value.{Value}
use Rattle.program_image.specs.Program.{Program}
use Rattle.machine_state.specs.BootClasses.{array_store}
use Rattle.machine_state.specs.Changes.{SetsElement}
use Rattle.machine_state.specs.Deeds.{Deed, changing, faulted}

-- its array takes the value, or doesn't (JVMS2 6, aastore)
abbrev pub stored : Program → Name → Name → ℤ → Value → Bool → Deed
stored p name n i v takes =
    if takes then changing (SetsElement n (unsigned_abs i) v ∷ []) None
    else faulted p name array_store
