-- What the machine asks of a program's classes and methods, beside the words of its image.
use Rattle.std.specs.Prelude.{ℕ, ◌==◌, ◌&&◌, not, Bool, false, if◌then◌else◌, find, position, Option, None, is_some}
use Rattle.std.specs.List.{list_any}
use Rattle.std.specs.Option.{option_eq}
use Rattle.std.specs.Prelude.{codes, Some, nat_eq}
use Rattle.jvm_base.specs.Words.{from}
use Rattle.jvm_base.specs.declared.desc.Elem.{Elem}
use Rattle.jvm_base.specs.declared.desc.Elem.TheVariants as elem
use Rattle.jvm_base.specs.declared.value.Value.{Value}
use Rattle.jvm_base.specs.declared.value.Value.TheVariants.{Null}
use Rattle.class_format.specs.Flags.{is_final, is_static}
use Rattle.code_table.specs.declared.element_kind.TheConstants as kind
use Rattle.program_image.specs.declared.info.ArrayInfo.{ArrayInfo}
use Rattle.program_image.specs.declared.info.Body.{Body}
use Rattle.program_image.specs.declared.info.Body.TheVariants.{Abstract}
use Rattle.program_image.specs.declared.info.Target.{Target}
use Rattle.program_image.specs.declared.info.Target.TheVariants.{Constant}
use Rattle.program_image.specs.Program.{Program}
use Rattle.program_image.specs.Selection.{is_instance, methods_of}
use Rattle.program_image.specs.Signatures.{same_text}
use Rattle.program_image.specs.Words.{fields_of, zero_of}
use Rattle.instruction_table.specs.ClassTypes.{class_at, method_at, array_at, name_of}
use Rattle.machine_state.specs.BootClasses.{thread}

-- ---- classes

-- the initialiser of a class, where it has one
abbrev pub clinit_of : Program → ℕ → Option ℕ
clinit_of p c = from None (λ k. k.clinit) (class_at p c)

-- the static at a place of a class is final and has a constant
abbrev pub is_constant : Program → ℕ → ℕ → Bool
is_constant p c place =
    list_any
    (λ f. is_static f.flags && (f.place == place && (is_final f.flags && is_some f.constant)))
    (fields_of p c)

-- ---- arrays

-- the number of the first class that is of arrays of such a kind, or Object's
abbrev pub array_class : (ArrayInfo → Bool) → Program → ℕ
array_class f p = from 0 (λ c. c) (position (λ k. from false f k.array) p.classes)

-- the class of arrays whose parts are of a class
abbrev pub array_class_over : Program → ℕ → ℕ
array_class_over p c = array_class (λ a. option_eq nat_eq a.part (Some c)) p

-- the number that `newarray` has for an element type
abbrev pub kind_number : Elem → ℕ
kind_number elem.Boolean = kind.T_BOOLEAN
kind_number elem.Char = kind.T_CHAR
kind_number elem.Byte = kind.T_BYTE
kind_number elem.Short = kind.T_SHORT
kind_number elem.Int = kind.T_INT
kind_number elem.Long = kind.T_LONG
kind_number _ = 0

-- the class of arrays of the kind of a number
abbrev pub array_class_of : Program → ℕ → ℕ
array_class_of p k = array_class (λ a. a.dims == 1 && kind_number a.elem == k) p

-- what an element of a new array of the class holds
abbrev pub element_zero : Program → ℕ → Value
element_zero p c =
    from Null (λ a. if a.dims == 1 then zero_of (record { dims = 0; elem = a.elem }) else Null)
    (array_at p c)

-- ---- methods

-- what a method does
abbrev pub body_of : Program → ℕ → Body
body_of p m = from Abstract (λ i. i.body) (method_at p m)

-- a call of the method has no receiver; `<clinit>` counts as static
abbrev pub is_without_receiver : Program → ℕ → Bool
is_without_receiver p m = from false (λ i. not (is_instance i)) (method_at p m)

-- `run` of `java/lang/Thread`
abbrev pub thread_run : Program → ℕ
thread_run p =
    from 0 (λ m. m)
    (find (λ m. same_text (name_of p m) (codes "run")) (methods_of p.classes thread))

-- ---- targets

-- the value that a place in the code names
abbrev pub constant_in : Option Target → Value
constant_in (Some (Constant v)) = v
constant_in _ = Null
