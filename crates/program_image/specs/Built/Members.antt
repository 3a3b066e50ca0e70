-- What an image keeps of methods: their signs, and the instance methods of each class by sign.
use Rattle.std.specs.Prelude.{◌≡◌, ℕ, ◌<◌, false, ◌&&◌, List, length, Option, Some, None, slice_get, if◌then◌else◌}
use Rattle.std.specs.List.{All}
use Rattle.std.specs.declared.cmp.Ordering.{Ordering}
use Rattle.std.specs.Ordering.{ordering_then, nat_cmp}
use Rattle.std.specs.BTreeMap.{is_at}
use Rattle.jvm_base.specs.Maps.{find}
use Rattle.jvm_base.specs.Words.{from}
use Rattle.hierarchy.specs.Walks.{first_some}
use Rattle.program_image.specs.declared.info.ClassInfo.{ClassInfo}
use Rattle.program_image.specs.declared.info.MethodInfo.{MethodInfo}
use Rattle.program_image.specs.declared.members.Members.{Members}
use Rattle.program_image.specs.Selection.{is_instance, methods_of}
use Rattle.program_image.specs.Built.Signs.{Sign, sign_at, AreSigns}
use Rattle.program_image.specs.Built.Packages.{ArePackages}

-- a class and a sign
abbrev pub Member : Type 0
Member = ℕ × Sign

-- by the class, then by the number of the name, then by that of the descriptor
abbrev pub member_cmp : Member → Member → Ordering
member_cmp a b = ordering_then (nat_cmp a.0 b.0) (ordering_then (nat_cmp a.1.0 b.1.0) (nat_cmp a.1.1 b.1.1))

-- the method of a class and a sign
abbrev pub member_at : List (Member × ℕ) → Member → Option ℕ
member_at entries key = find member_cmp key entries

-- a method of a class, where it is an instance method of that class and sign
abbrev pub member_one : List MethodInfo → List Sign → ℕ → Member → ℕ → Option ℕ
member_one methods signs class key m = if from false is_instance (slice_get methods m) && is_at (member_cmp (class, sign_at signs m)) key then Some m else None

-- the first such of a list
abbrev pub members_in : List MethodInfo → List Sign → ℕ → Member → List ℕ → Option ℕ
members_in methods signs class key ms = first_some (member_one methods signs class key) ms

-- each class's first instance method of each sign
pub record AreDeclared (classes : List ClassInfo) (methods : List MethodInfo) (signs : List Sign) (entries : List (Member × ℕ)) : Type 0 where
  pub each : (key : Member) → member_at entries key ≡ members_in methods signs key.0 key (methods_of classes key.0)

-- the methods that classes declare are below the count
abbrev pub AreMethodsWithin : List ClassInfo → ℕ → Type 0
AreMethodsWithin classes count = All (λ info. All (λ m. m < count) info.methods) classes

-- so are the classes that methods are of
abbrev pub AreOwnersWithin : List MethodInfo → ℕ → Type 0
AreOwnersWithin methods count = All (λ m. m.owner < count) methods

-- what is kept is right
pub record IsMembers (classes : List ClassInfo) (methods : List MethodInfo) (members : Members) : Type 0 where
  pub within : AreMethodsWithin classes (length methods)
  pub owned : AreOwnersWithin methods (length classes)
  pub signed : AreSigns methods members.signs
  pub declared : AreDeclared classes methods members.signs members.declared.entries
  pub packaged : ArePackages classes members.packages
