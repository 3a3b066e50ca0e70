-- The numbers of the names and the descriptors of methods.
use Rattle.std.specs.Prelude.{◌≡◌, ℕ, Bool, ◌&&◌, List, length, nat_eq, slice_get, slice_index_or, Some}
use Rattle.program_image.specs.declared.info.MethodInfo.{MethodInfo}
use Rattle.program_image.specs.Signatures.{same_signature}

-- the number of a method's name, and that of its descriptor
abbrev pub Sign : Type 0
Sign = ℕ × ℕ

-- the sign of the method of a number
abbrev pub sign_at : List Sign → ℕ → Sign
sign_at signs m = slice_index_or signs m (0, 0)

-- the two signs are one
abbrev pub same_sign : Sign → Sign → Bool
same_sign s t = nat_eq s.0 t.0 && nat_eq s.1 t.1

-- two methods have one sign exactly where they have one name and one descriptor
pub record AreSigns (methods : List MethodInfo) (signs : List Sign) : Type 0 where
  pub all : length signs ≡ length methods
  pub tell : (a b : ℕ) (m n : MethodInfo) → slice_get methods a ≡ Some m → slice_get methods b ≡ Some n → same_sign (sign_at signs a) (sign_at signs b) ≡ same_signature m n
