-- The types of classes, descriptors and constants (JVMS2 4.3.2, 4.9.3).
use Rattle.std.specs.Prelude.{ℕ, suc, Bool, false, ◌+◌, ◌==◌, min, if◌then◌else◌, ◌||◌, List, [], ◌∷◌, Option, Some, None, nat_eq, slice_get}
use Rattle.std.specs.Cmp.Lexicographic.{pointwise}
use Rattle.jvm_base.specs.Words.{from}
use Rattle.jvm_base.specs.declared.desc.Elem.{Elem}
use Rattle.jvm_base.specs.declared.desc.Elem.TheVariants as elem
use Rattle.jvm_base.specs.declared.desc.Desc.{Desc}
use Rattle.jvm_base.specs.declared.value.Value.{Value}
use Rattle.jvm_base.specs.declared.value.Value.TheVariants as value
use Rattle.class_format.specs.Flags.{has_flag, is_interface, is_private, is_static}
use Rattle.class_format.specs.KnownTexts.{is_clinit}
use Rattle.program_image.specs.declared.info.ClassInfo.{ClassInfo}
use Rattle.program_image.specs.declared.info.MethodInfo.{MethodInfo}
use Rattle.program_image.specs.declared.info.ArrayInfo.{ArrayInfo}
use Rattle.program_image.specs.declared.info.Target.{Target}
use Rattle.program_image.specs.declared.info.Target.TheVariants as target
use Rattle.program_image.specs.Program.{Program, target_of}
use Rattle.flow_types.specs.declared.element.Element.{Element}
use Rattle.flow_types.specs.declared.element.Element.TheVariants.{Primitive, Object}
use Rattle.flow_types.specs.declared.element.Primitive.TheVariants as primitive
use Rattle.flow_types.specs.declared.flow_type.FlowType.{FlowType}
use Rattle.flow_types.specs.declared.flow_type.FlowType.TheVariants as flow

-- ---- classes

-- the class of a number
abbrev pub class_at : Program → ℕ → Option ClassInfo
class_at p c = slice_get p.classes c

-- the method of a number
abbrev pub method_at : Program → ℕ → Option MethodInfo
method_at p m = slice_get p.methods m

-- the number is an interface's
abbrev pub is_an_interface : Program → ℕ → Bool
is_an_interface p c = from false (λ k. is_interface k.flags) (class_at p c)

-- Object stands for an interface
abbrev pub plain : Program → ℕ → ℕ
plain p c = if is_an_interface p c then 0 else c

-- the first class of a name, counted from a number, or Object where there is none
abbrev pub named_from : ℕ → List ℕ → List ClassInfo → ℕ
named_from n name [] = 0
named_from n name (k ∷ ks) = if pointwise nat_eq k.name name then n else named_from (suc n) name ks

-- the class of a name
abbrev pub class_named : Program → List ℕ → ℕ
class_named p name = named_from 0 name p.classes

-- what an array is of, by the end of its descriptor (JVMS2 4.3.2)
abbrev pub element_type : Program → Elem → Element
element_type p elem.Byte = Primitive primitive.Byte
element_type p elem.Char = Primitive primitive.Char
element_type p elem.Double = Primitive primitive.Double
element_type p elem.Float = Primitive primitive.Float
element_type p elem.Int = Primitive primitive.Int
element_type p elem.Long = Primitive primitive.Long
element_type p elem.Short = Primitive primitive.Short
element_type p elem.Boolean = Primitive primitive.Boolean
element_type p (elem.Object name) = Object (plain p (class_named p name))

-- the dimensions and the elements of a class of arrays
abbrev pub array_at : Program → ℕ → Option ArrayInfo
array_at p c = from None (λ k. k.array) (class_at p c)

-- the type of a reference to an object of the class
abbrev pub class_type : Program → ℕ → FlowType
class_type p c =
    from (flow.Class (plain p c)) (λ a. flow.Array a.dims (element_type p a.elem)) (array_at p c)

-- the type that a descriptor without dimensions gives; boolean, byte, char and short are ints
abbrev pub ground_type : Program → Elem → FlowType
ground_type p (elem.Object name) = flow.Class (plain p (class_named p name))
ground_type p elem.Long = flow.Long
ground_type p _ = flow.Int

-- the type of a descriptor's values (JVMS2 4.3.2)
abbrev pub desc_type : Program → Desc → FlowType
desc_type p d =
    if d.dims == 0 then ground_type p d.elem else flow.Array d.dims (element_type p d.elem)

-- the type of an array of such references; no array has more than 255 dimensions
abbrev pub array_over : FlowType → FlowType
array_over (flow.Array d e) = flow.Array (min (d + 1) 255) e
array_over (flow.Class c) = flow.Array 1 (Object c)
array_over t = flow.Array 1 (Object 0)

-- ---- what an instruction names

-- the class that a target is
abbrev pub class_in : Option Target → ℕ
class_in (Some (target.Class c)) = c
class_in _ = 0

-- the class that declares the field that a target is
abbrev pub field_class_in : Option Target → ℕ
field_class_in (Some (target.Field class place fixed)) = class
field_class_in _ = 0

-- the method that a target is
abbrev pub method_in : Option Target → ℕ
method_in (Some (target.Method m)) = m
method_in _ = 0

-- the least type of a value
abbrev pub value_type : Program → Value → FlowType
value_type p (value.Int n) = flow.Int
value_type p (value.Long n) = flow.Long
value_type p (value.Ref name) = class_type p name.class
value_type p value.Null = flow.Null

-- the type of the constant that a target is
abbrev pub constant_type : Program → Option Target → FlowType
constant_type p (Some (target.Constant v)) = value_type p v
constant_type p _ = flow.Int

-- ---- methods

-- the class that declares a method
abbrev pub owner_of : Program → ℕ → ℕ
owner_of p m = from 0 (λ i. i.owner) (method_at p m)

-- the name of a method
abbrev pub name_of : Program → ℕ → List ℕ
name_of p m = from [] (λ i. i.name) (method_at p m)

-- the access flags of a method
abbrev pub flags_of : Program → ℕ → ℕ
flags_of p m = from 0 (λ i. i.flags) (method_at p m)

-- the type of a method's result; None for void
abbrev pub result_of : Program → ℕ → Option FlowType
result_of p m =
    from None (λ i. from None (λ d. Some (desc_type p d)) i.desc.ret) (method_at p m)

-- the descriptors of a method's parameters
abbrev pub args_of : Program → ℕ → List Desc
args_of p m = from [] (λ i. i.desc.args) (method_at p m)

-- "<init>" (JVMS2 3.9)
abbrev pub init_name : List ℕ
init_name = 60 ∷ 105 ∷ 110 ∷ 105 ∷ 116 ∷ 62 ∷ []

-- the method is an instance initialiser (JVMS2 3.9)
abbrev pub is_initialiser : Program → ℕ → Bool
is_initialiser p m = pointwise nat_eq (name_of p m) init_name

-- a call of the method has no receiver: `<clinit>` counts as static, whatever its flags (JVMS2 4.6)
abbrev pub is_static_method : Program → ℕ → Bool
is_static_method p m = is_static (flags_of p m) || is_clinit (name_of p m)

-- the method is its class's alone
abbrev pub is_private_method : Program → ℕ → Bool
is_private_method p m = is_private (flags_of p m)

-- the class has ACC_SUPER (JVMS2 4.1)
abbrev pub is_super : Program → ℕ → Bool
is_super p c = from false (λ k. has_flag k.flags 32) (class_at p c)

-- the class that `new` at an address of a method names
abbrev pub new_class : Program → ℕ → ℕ → ℕ
new_class p m at = class_in (target_of p m at)
