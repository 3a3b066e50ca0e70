-- Methods of one name and one descriptor (JVMS2 2.10.2).
use Rattle.std.specs.Prelude.{ℕ, Bool, ◌==◌, ◌&&◌, List, [], nat_eq}
use Rattle.std.specs.Option.{option_eq}
use Rattle.std.specs.Cmp.Lexicographic.{pointwise}
use Rattle.jvm_base.specs.declared.desc.Elem.{Elem}
use Rattle.jvm_base.specs.declared.desc.Elem.TheVariants.{Byte, Char, Double, Float, Int, Long, Short, Boolean, Object}
use Rattle.jvm_base.specs.declared.desc.Desc.{Desc}
use Rattle.jvm_base.specs.declared.desc.MethodDesc.{MethodDesc}
use Rattle.program_image.specs.declared.info.MethodInfo.{MethodInfo}

-- the two texts are one
abbrev pub same_text : List ℕ → List ℕ → Bool
same_text a b = pointwise nat_eq a b

-- a number for each kind of element type
abbrev pub elem_kind : Elem → ℕ
elem_kind Byte = 0
elem_kind Char = 1
elem_kind Double = 2
elem_kind Float = 3
elem_kind Int = 4
elem_kind Long = 5
elem_kind Short = 6
elem_kind Boolean = 7
elem_kind (Object name) = 8

-- the class that an element type names
abbrev pub elem_name : Elem → List ℕ
elem_name (Object name) = name
elem_name _ = []

-- the two element types are one
abbrev pub same_elem : Elem → Elem → Bool
same_elem a b = elem_kind a == elem_kind b && same_text (elem_name a) (elem_name b)

-- the two types are one
abbrev pub same_desc : Desc → Desc → Bool
same_desc a b = a.dims == b.dims && same_elem a.elem b.elem

-- the two methods' descriptors are one
abbrev pub same_method_desc : MethodDesc → MethodDesc → Bool
same_method_desc a b = pointwise same_desc a.args b.args && option_eq same_desc a.ret b.ret

-- the two methods have one name and one descriptor
abbrev pub same_signature : MethodInfo → MethodInfo → Bool
same_signature a b = same_text a.name b.name && same_method_desc a.desc b.desc
