-- What the lists of a program owe: numbers below their counts, no place twice, nothing above itself.
use Rattle.std.specs.Prelude.{◌≡◌, ℕ, ◌<◌, ◌≤◌, ◌^◌, List, length, map, slice_get, Some}
use Rattle.std.specs.List.{All}
use Rattle.std.specs.Option.{option_to_list}
use Rattle.hierarchy.specs.Hierarchy.{IsWithin, Under}
use Rattle.program_image.specs.declared.info.ClassInfo.{ClassInfo}
use Rattle.program_image.specs.declared.info.MethodInfo.{MethodInfo}
use Rattle.program_image.specs.declared.info.Target.{Target}
use Rattle.program_image.specs.declared.info.Target.TheVariants.{Field, Method, Class, Constant}
use Rattle.program_image.specs.Places.{Place, Placing}
use Rattle.program_image.specs.Subclass.{all_above}

-- of so many classes and methods, the numbers in what a class declares are below the counts
pub record IsClassWithin (classes methods : ℕ) (info : ClassInfo) : Type 0 where
  pub owners : All (λ f. f.owner < classes) info.fields
  pub methods_in : All (λ m. m < methods) info.methods
  pub clinit_in : All (λ m. m < methods) (option_to_list info.clinit)

-- so is the number of the class or method that a target names
abbrev pub IsTargetWithin : ℕ → ℕ → Target → Type 0
IsTargetWithin classes methods (Field class place fixed) = class < classes
IsTargetWithin classes methods (Method m) = m < methods
IsTargetWithin classes methods (Class c) = c < classes
IsTargetWithin classes methods (Constant v) = Unit {0}

-- and that of the method where it stands
pub record IsPlacingWithin (classes methods : ℕ) (t : Placing) : Type 0 where
  pub method_in : t.0 < methods
  pub target_in : IsTargetWithin classes methods t.2

-- where a target stands
abbrev pub place_of : Placing → Place
place_of t = (t.0, t.1)

-- no two items of a list have one value of the function
abbrev pub Differ : {A B : Type 0} → (A → B) → List A → Type 0
Differ {A = A} f xs = (i j : ℕ) (x y : A) → slice_get xs i ≡ Some x → slice_get xs j ≡ Some y → f x ≡ f y → i ≡ j

-- a text by itself
abbrev pub the_text : List ℕ → List ℕ
the_text text = text

-- the condition of an image of these lists
pub record IsImage (classes : List ClassInfo) (methods : List MethodInfo) (targets : List Placing) (literals : List (List ℕ)) (main : ℕ) : Type 0 where
  pub few_classes : length classes ≤ 16777216
  pub few_methods : length methods < 2 ^ 32
  pub few_literals : length literals < 2 ^ 32
  pub above_in : IsWithin (map all_above classes)
  pub classes_in : All (IsClassWithin (length classes) (length methods)) classes
  pub owners_in : All (λ m. m.owner < length classes) methods
  pub targets_in : All (IsPlacingWithin (length classes) (length methods)) targets
  pub main_in : main < length methods
  pub places_differ : Differ place_of targets
  pub literals_differ : Differ the_text literals
  pub apart : (c : ℕ) → Under (map all_above classes) c c → ⊥
