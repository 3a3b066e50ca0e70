-- The packages of classes by number, as tables keep them.
use Rattle.std.specs.Prelude.{◌≡◌, ℕ, List, Option, Some, slice_get}
use Rattle.class_format.specs.declared.class.ClassFile.{ClassFile}
use Rattle.class_names.specs.Classes.{this_name}
use Rattle.link_rules.specs.Numbers.{name_at}
use Rattle.link_rules.specs.Packages.{package_of, is_one_package}
use Rattle.link_members.specs.declared.package_numbers.OwnPackage.{OwnPackage}
use Rattle.link_members.specs.declared.package_numbers.Packages.{Packages}
use Rattle.link_members.specs.Signs.{is_number, name_number}

-- each class's package has the number among some names
abbrev pub AreNumbered : List ClassFile → List (List ℕ) → List (Option ℕ) → Type 0
AreNumbered all names numbers =
    (k : ℕ) (n : Option ℕ) → slice_get numbers k ≡ Some n
    → n ≡ name_number names (package_of (name_at all k))

-- the numbers are those of the packages
abbrev pub ArePackages : List ClassFile → Packages → Type 0
ArePackages all packages = AreNumbered all packages.names packages.numbers

-- the package is that of f, and its number that of exactly the classes of its package
pub record IsOwn (all : List ClassFile) (f : ClassFile) (own : OwnPackage) : Type 0 where
  pub name : own.name.now ≡ package_of (this_name f)
  pub each : (k n : ℕ) → slice_get own.numbers.now k ≡ Some (Some n) → is_number own.number n ≡ is_one_package (this_name f) (name_at all k)
