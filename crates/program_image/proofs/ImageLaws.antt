-- What holds of each image.
use Rattle.std.proofs.Common.{◌≡◌, ℕ, true, List, refl}
use Rattle.std.specs.Prelude.{IsTrue, ◌↔◌}
use Rattle.hierarchy.proofs.LoopLaws.{there_are_ranks}
use Rattle.program_image.specs.declared.info.ClassInfo.{ClassInfo}
use Rattle.program_image.specs.declared.info.MethodInfo.{MethodInfo}
use Rattle.program_image.specs.Places.{Placing}
use Rattle.program_image.specs.Condition.{IsImage}
use Rattle.program_image.specs.Subclass.{all_above, IsSub, is_sub_of}
use Rattle.program_image.proofs.SubLaws.{sub_told}

-- the test of subclasses is the relation
pub sub_is_told : (classes : List ClassInfo) (methods : List MethodInfo) (targets : List Placing) (literals : List (List ℕ)) (main : ℕ) → IsImage classes methods targets literals main → (c d : ℕ) → IsTrue (is_sub_of classes c d) ↔ IsSub classes c d
sub_is_told classes methods targets literals main image c d = sub_told classes _ c d (is_sub_of classes c d) (there_are_ranks _ image.above_in image.apart) refl
