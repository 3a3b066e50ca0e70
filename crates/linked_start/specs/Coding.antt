-- Which methods of an image have code.
use Rattle.std.specs.Prelude.{◌≡◌, ℕ, List, [], ◌++◌}
use Rattle.jvm_base.specs.declared.desc.Desc.{Desc}
use Rattle.boot_table.specs.Files.{boot_files}
use Rattle.class_format.specs.declared.class.ClassFile.{ClassFile}
use Rattle.link_rules.specs.Decoding.{undecoded_file}
use Rattle.link_rules.specs.Numbers.{numbered}
use Rattle.link_uses.specs.declared.lookup.Found.{Found}
use Rattle.link_image.specs.Image.{image_of}
use Rattle.step_soundness.specs.Waiting.{HaveCode}
use Rattle.linked_classes.specs.Linking.{AreRight}
use Rattle.linked_methods.specs.Linking.{AreRightMembers}
use Rattle.linked_start.specs.Linking.{IsMain}

-- where all code is decoded, the methods that no instruction calls have code
abbrev pub CodeLaw : Type 0
CodeLaw = (files : List ClassFile) (arrays : List Desc) (literals : List (List ℕ))
    (main : Found) →
    AreRight files arrays literals main → AreRightMembers files →
    IsMain files main → numbered undecoded_file 0 files ≡ [] →
    HaveCode (image_of (boot_files ++ files) arrays literals main)
