-- What is looked for among classes, fields and methods.
use Rattle.std.specs.Prelude.{ℕ, ◌==◌, ◌&&◌, Bool, false, List, drop, Some, is_some, nat_eq}
use Rattle.std.specs.List.{position_from}
use Rattle.std.specs.Option.{option_eq}
use Rattle.jvm_base.specs.Words.{from}
use Rattle.class_format.specs.Flags.{is_final, is_static}
use Rattle.program_image.specs.declared.info.ClassInfo.{ClassInfo}
use Rattle.program_image.specs.declared.info.FieldInfo.{FieldInfo}
use Rattle.machine_state.specs.Classes.{kind_number}

-- the class is of arrays of the kind of a number
abbrev pub is_of_kind : ℕ → ClassInfo → Bool
is_of_kind k info = from false (λ a. a.dims == 1 && kind_number a.elem == k) info.array

-- the class is of arrays of a class
abbrev pub is_over : ℕ → ClassInfo → Bool
is_over c info = from false (λ a. option_eq nat_eq a.part (Some c)) info.array

-- the first class from a number on, or 0
abbrev pub first_from : (ClassInfo → Bool) → ℕ → List ClassInfo → ℕ
first_from f n classes = from 0 (λ c. c) (position_from f n (drop n classes))

-- the field is the static at a place, is final and has a constant
abbrev pub is_constant_at : ℕ → FieldInfo → Bool
is_constant_at place f =
    is_static f.flags && (f.place == place && (is_final f.flags && is_some f.constant))
