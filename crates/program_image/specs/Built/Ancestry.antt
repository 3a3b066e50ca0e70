-- What an image keeps of the classes above each class.
use Rattle.std.specs.Prelude.{◌≡◌, ℕ, List, map}
use Rattle.std.specs.List.{flat_map}
use Rattle.std.specs.Option.{option_to_list}
use Rattle.hierarchy.specs.Hierarchy.{IsWithin, IsRanked}
use Rattle.hierarchy.specs.Closure.{IsClosure}
use Rattle.program_image.specs.declared.info.ClassInfo.{ClassInfo}
use Rattle.program_image.specs.declared.ancestry.Ancestry.{Ancestry}
use Rattle.program_image.specs.Subclass.{above, all_above, part_of}

-- the parts of the arrays in a row
abbrev pub parts_in : List ClassInfo → List ℕ → List ℕ
parts_in classes row = flat_map (λ k. option_to_list (part_of classes k)) row

-- ranks of all that lies above, the sets of classes above, and the parts of the arrays in these
pub record IsAncestry (classes : List ClassInfo) (a : Ancestry) : Type 0 where
  pub within : IsWithin (map all_above classes)
  pub ranked : IsRanked (map all_above classes) a.ranks
  pub closed : IsClosure (map above classes) a.above
  pub parts : a.parts ≡ map (parts_in classes) a.above
