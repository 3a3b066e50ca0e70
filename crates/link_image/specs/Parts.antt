-- What an image is made from: when its parts fit.
use Rattle.std.specs.Prelude.{ℕ, ◌+◌, ◌<◌, ◌≤◌, ◌^◌, List, length}
use Rattle.std.specs.List.{All, AllByRecursion, sum_by}
use Rattle.jvm_base.specs.declared.desc.Desc.{Desc}
use Rattle.class_format.specs.declared.class.ClassFile.{ClassFile}
use Rattle.link_rules.specs.Numbers.{methods_at}
use Rattle.link_uses.specs.declared.lookup.Found.{Found}
use Rattle.program_image.specs.Condition.{Differ, the_text}
use Rattle.link_image.specs.Methods.{count_methods, natives}
use Rattle.link_image.specs.Sizes.{HasFewFields, HasShortCode}

-- how many native methods some classes declare
abbrev pub count_natives : List ClassFile → ℕ
count_natives files = sum_by (λ f. natives f.methods) files

-- the declared classes: there are some, and not too many; an intrinsic's number takes one byte
pub record AreSmall (all : List ClassFile) : Type 0 where
  pub some : 0 < length all
  pub few : length all < 2 ^ 15
  pub fields : All HasFewFields all
  pub methods : count_methods all < 2 ^ 32
  pub natives : count_natives all < 256
  pub code : AllByRecursion HasShortCode all

-- the array types, the literals, each of which is there once, and the method where a run begins
pub record Fit (all : List ClassFile) (arrays : List Desc) (literals : List (List ℕ)) (main : Found) : Type 0 where
  pub classes : length all + length arrays ≤ 16777216
  pub objects : length all + length arrays + length literals < 2 ^ 32
  pub differ : Differ the_text literals
  pub main_in : main.place < length (methods_at all main.class)
