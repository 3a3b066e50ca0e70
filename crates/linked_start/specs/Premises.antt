-- What linking gives where it refuses nothing.
use Rattle.std.specs.Prelude.{◌≡◌, ℕ, List, []}
use Rattle.class_format.specs.declared.class.ClassFile.{ClassFile}
use Rattle.class_link.specs.Linked.{start_of}
use Rattle.class_link.specs.Refusals.{link_refusals}
use Rattle.link_arrays.specs.Arrays.{array_types}
use Rattle.link_rules.specs.Decoding.{undecoded_file}
use Rattle.link_rules.specs.Numbers.{numbered}
use Rattle.linked_start.specs.Linking.{HaveStrings, IsMain}

-- there is a class of arrays of Strings, and a method to begin with, and all code is decoded
pub record AreGiven (files : List ClassFile) (main : List ℕ) : Type 0 where
  pub strings : HaveStrings (array_types files)
  pub begins : IsMain files (start_of files main)
  pub decoding : numbered undecoded_file 0 files ≡ []

-- so it is where nothing is refused
abbrev pub PremisesLaw : Type 0
PremisesLaw =
    (files : List ClassFile) (main : List ℕ) → link_refusals files main ≡ [] → AreGiven files main
