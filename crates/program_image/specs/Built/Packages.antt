-- The numbers of the packages of classes.
use Rattle.std.specs.Prelude.{◌≡◌, ℕ, ◌<◌, List, length, nat_eq, slice_index}
use Rattle.jvm_base.specs.Words.{from}
use Rattle.program_image.specs.declared.info.ClassInfo.{ClassInfo}
use Rattle.program_image.specs.Named.{first_by}
use Rattle.program_image.specs.Signatures.{same_text}
use Rattle.program_image.specs.Selection.{package_of, package_at}

-- the package of a class
abbrev pub name_package : ClassInfo → List ℕ
name_package info = package_of info.name

-- the number of a package: that of the first class there
abbrev pub package_number : List ClassInfo → ClassInfo → ℕ
package_number classes info = from 0 (λ c. c) (first_by name_package (name_package info) classes)

-- two classes have one number exactly where they are in one package
pub record ArePackages (classes : List ClassInfo) (packages : List ℕ) : Type 0 where
  pub all : length packages ≡ length classes
  pub tell : (c d : ℕ) → c < length classes → d < length classes → nat_eq (slice_index packages c) (slice_index packages d) ≡ same_text (package_at classes c) (package_at classes d)
