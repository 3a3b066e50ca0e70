-- When the classes of an image make a table.
use Rattle.std.specs.Prelude.{◌≡◌, ℕ, ◌<◌, List, [], ◌++◌}
use Rattle.std.specs.List.{AllByRecursion, flat_map}
use Rattle.jvm_base.specs.declared.desc.Desc.{Desc}
use Rattle.boot_table.specs.Files.{boot_files}
use Rattle.class_format.specs.declared.class.ClassFile.{ClassFile}
use Rattle.link_rules.specs.Classes.{wrong_above, final_super}
use Rattle.link_uses.specs.declared.lookup.Found.{Found}
use Rattle.link_image.specs.Image.{image_of}
use Rattle.flow_types.specs.Tree.{superclasses, IsTree}
use Rattle.typed_classes.specs.Tables.{IsTable}

-- no rule on what lies directly above a class refuses the files, each array type has a dimension,
-- and superclasses form a tree
pub record AreRight (files : List ClassFile) (arrays : List Desc) (literals : List (List ℕ))
    (main : Found) : Type 0 where
  pub right_above : flat_map (wrong_above (boot_files ++ files)) files ≡ []
  pub no_final : flat_map (final_super (boot_files ++ files)) files ≡ []
  pub deep : AllByRecursion (λ d. 0 < d.dims) arrays
  pub tree : IsTree (superclasses (image_of (boot_files ++ files) arrays literals main))

-- then it is one
abbrev pub TableLaw : Type 0
TableLaw = (files : List ClassFile) (arrays : List Desc) (literals : List (List ℕ)) (main : Found) →
    AreRight files arrays literals main →
    IsTable (image_of (boot_files ++ files) arrays literals main)
