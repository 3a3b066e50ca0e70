-- What tells types apart.
use Rattle.std.proofs.Common.{◌≡◌, [], Some, refl, ap, ◌==◌}
use Rattle.std.specs.Prelude.{◌&&◌}
use Rattle.std.specs.Bool.{Decides}
use Rattle.std.specs.Cmp.{IsEquivalence}
use mathlib.Core.Path.{fun_ext}
use Rattle.jvm_base.specs.declared.desc.Elem.{Elem}
use Rattle.jvm_base.specs.declared.desc.Elem.TheVariants.{Byte, Char, Double, Float, Int, Long, Short, Boolean, Object}
use Rattle.jvm_base.specs.declared.desc.Desc.{Desc}
use Rattle.jvm_base.specs.declared.desc.MethodDesc.{MethodDesc}
use Rattle.jvm_base.specs.contracts.desc.DescPartialEq.TheImpl as derived_desc
use Rattle.jvm_base.specs.contracts.desc.ElemPartialEq.TheImpl as derived_elem
use Rattle.program_image.specs.Signatures.{same_elem, same_desc}
use Rattle.program_image.proofs.Signatures.{methods_told, equivalence_of}

-- a method without parameters whose result is of a type
giving : Desc → MethodDesc
giving d = record { args = []; ret = Some d }

held : (a b : Desc) → Some a ≡ Some b → a ≡ b
held a b e = cc

-- the test of types passes exactly where they are one
pub descs_told : (a b : Desc) → Decides (same_desc a b) (a ≡ b)
unfolding giving
descs_told a b = (
  λ e. held a b (ap (λ m. m.ret) ((methods_told (giving a) (giving b)).0 e)),
  λ e. (methods_told (giving a) (giving b)).1 (ap giving e),
)

pub descs_equivalent : IsEquivalence same_desc
descs_equivalent = equivalence_of same_desc descs_told

-- the derived test of element types is the one of the definitions
elem_same : (a b : Elem) → derived_elem.eq-value.it a b ≡ same_elem a b
elem_same Byte Byte = refl
elem_same Char Char = refl
elem_same Double Double = refl
elem_same Float Float = refl
elem_same Int Int = refl
elem_same Long Long = refl
elem_same Short Short = refl
elem_same Boolean Boolean = refl
elem_same (Object x) (Object y) = refl
elem_same a b = refl

desc_same : (a b : Desc) → derived_desc.eq-value.it a b ≡ same_desc a b
desc_same a b = ap (λ z. (a.dims == b.dims) && z) (elem_same a.elem b.elem)

-- so is that of element types as a whole
pub derived_elem_is : derived_elem.eq-value.it ≡ same_elem
derived_elem_is = fun_ext (λ a. fun_ext (λ b. elem_same a b))

-- so is that of types
pub derived_is : derived_desc.eq-value.it ≡ same_desc
derived_is = fun_ext (λ a. fun_ext (λ b. desc_same a b))
