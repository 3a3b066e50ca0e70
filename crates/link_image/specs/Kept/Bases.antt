-- First places that are known already.
use Rattle.std.specs.Prelude.{◌≡◌, ℕ, List, Option, Some, slice_get}
use Rattle.class_format.specs.declared.class.ClassFile.{ClassFile}
use Rattle.link_image.specs.Fields.{base_of}

-- what is known is right
pub record AreKnown (all : List ClassFile) (known : List (Option ℕ)) : Type 0 where
  pub each : (c base : ℕ) → slice_get known c ≡ Some (Some base) → base ≡ base_of all c
