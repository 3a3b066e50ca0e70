-- What runs and verifies a program asks of it, in a few words.
use Rattle.std.specs.Prelude.{ℕ, pos, Bool, ◌==◌, not, List, [], reverse, map, filter, find, Option, None, option_and_then, slice_get, if◌then◌else◌}
use Rattle.std.specs.List.{flat_map}
use Rattle.jvm_base.specs.Words.{from}
use Rattle.jvm_base.specs.declared.desc.Elem.{Elem}
use Rattle.jvm_base.specs.declared.desc.Elem.TheVariants as elem
use Rattle.jvm_base.specs.declared.desc.Desc.{Desc}
use Rattle.jvm_base.specs.declared.value.Value.{Value}
use Rattle.jvm_base.specs.declared.value.Value.TheVariants.{Int, Long, Null}
use Rattle.class_format.specs.Flags.{is_static}
use Rattle.code_table.specs.declared.code.Placed.{Placed}
use Rattle.program_image.specs.declared.info.FieldInfo.{FieldInfo}
use Rattle.program_image.specs.Program.{Program}
use Rattle.program_image.specs.Handlers.{code_of}
use Rattle.program_image.specs.Selection.{supers}

-- the superclass of the class of a number
abbrev pub super_of : Program → ℕ → Option ℕ
super_of p c = from None (λ info. info.super_class) (slice_get p.classes c)

-- the instruction at an address of a method
abbrev pub instruction_at : Program → ℕ → ℕ → Option Placed
instruction_at p m at = option_and_then (λ code. find (λ i. i.at == at) code.ops) (code_of p m)

-- how many values the operand stack of a method's frame has room for
abbrev pub room_of : Program → ℕ → ℕ
room_of p m = from 0 (λ code. code.max_stack) (code_of p m)

-- how many local variables it has
abbrev pub locals_of : Program → ℕ → ℕ
locals_of p m = from 0 (λ code. code.max_locals) (code_of p m)

-- the zero of a type that is no array's
abbrev pub elem_zero : Elem → Value
elem_zero (elem.Object name) = Null
elem_zero elem.Long = Long (pos 0)
elem_zero _ = Int (pos 0)

-- what a field of the type holds at first (JVMS2 2.5.1)
abbrev pub zero_of : Desc → Value
zero_of d = if d.dims == 0 then elem_zero d.elem else Null

-- the fields that the class of a number declares
abbrev pub fields_of : Program → ℕ → List FieldInfo
fields_of p c = from [] (λ info. info.fields) (slice_get p.classes c)

-- what its statics hold at first, by their places
abbrev pub statics_of : Program → ℕ → List Value
statics_of p c = map (λ f. from (zero_of f.desc) (λ v. v) f.constant) (filter (λ f. is_static f.flags) (fields_of p c))

-- what a new object's fields hold, by their places: those of superclasses come first
abbrev pub zeros_of : Program → ℕ → List Value
zeros_of p c = map (λ f. zero_of f.desc) (flat_map (λ k. filter (λ f. not (is_static f.flags)) (fields_of p k)) (reverse (supers p.classes c)))
