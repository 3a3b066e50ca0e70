-- What a resolver keeps beside a program: walks upwards from each class.
use Rattle.std.specs.Prelude.{◌<◌, ◌^◌, ℕ, List, length}
use Rattle.class_format.specs.declared.class.ClassFile.{ClassFile}
use Rattle.hierarchy.specs.Hierarchy.{IsRanked}
use Rattle.hierarchy.specs.Walks.{IsWalked}
use Rattle.link_rules.specs.Numbers.{super_rows, interface_rows, field_rows}

-- no number lies above itself: each has a rank above those of its row
abbrev pub HasRanks : List (List ℕ) → Type 0
HasRanks rows = (ranks : List ℕ) × IsRanked rows ranks

-- the tables are those of the program, of which no class lies above itself
pub record AreTables (all : List ClassFile) (supers interfaces fields : List (List ℕ)) : Type 0 where
  pub some : 0 < length all
  pub few : length all < 2 ^ 25
  pub super_walks : IsWalked (super_rows all) supers
  pub interface_walks : IsWalked (interface_rows all) interfaces
  pub field_walks : IsWalked (field_rows all) fields
  pub ranked : HasRanks (interface_rows all)
  pub super_ranked : HasRanks (super_rows all)
