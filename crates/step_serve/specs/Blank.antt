-- What is kept of the zeros of fields.
use Rattle.std.specs.Prelude.{◌≡◌, ℕ, not, List, [], map, filter, slice_get}
use Rattle.jvm_base.specs.Words.{from}
use Rattle.jvm_base.specs.declared.value.Value.{Value}
use Rattle.class_format.specs.Flags.{is_static}
use Rattle.program_image.specs.declared.info.FieldInfo.{FieldInfo}
use Rattle.program_image.specs.Program.{Program}
use Rattle.program_image.specs.Words.{zero_of}

-- what the instance fields among these hold at first
abbrev pub own_zeros : List FieldInfo → List Value
own_zeros fields = map (λ f. zero_of f.desc) (filter (λ f. not (is_static f.flags)) fields)

-- what is kept of a class
abbrev pub own_row : List (List Value) → ℕ → List Value
own_row rows c = from [] (λ row. row) (slice_get rows c)

-- it is kept so for each class
abbrev pub AreBlanks : Program → List (List Value) → Type 0
AreBlanks p rows = rows ≡ map (λ k. own_zeros k.fields) p.classes
