-- When one frame lies below another, and which frames and rows are of a program.
use Rattle.std.specs.Prelude.{◌≡◌, ◌<◌, ℕ, true, not, ◌||◌, List, [], ◌∷◌, length, Option}
use Rattle.flow_types.specs.Types.{IsType}
use Rattle.flow_types.specs.TypeLists.{types_fit, is_operand, AreTypes, AreOperands}
use Rattle.instruction_table.specs.declared.row.Need.{Need}
use Rattle.instruction_table.specs.declared.row.Need.TheVariants.{References}
use Rattle.instruction_table.specs.declared.row.Gives.{Gives}
use Rattle.instruction_table.specs.declared.row.Gives.TheVariants as gives
use Rattle.instruction_table.specs.declared.row.Row.{Row}
use Rattle.instruction_table.specs.declared.row.Row.TheVariants as row
use Rattle.instruction_table.specs.declared.work.Work.{Work}
use Rattle.instruction_table.specs.Working.{Site}

-- a frame at work lies below another
pub record Under (supers : List (Option ℕ)) (v w : Work) : Type 0 where
  pub locals : types_fit supers v.locals w.locals ≡ true
  pub stack : types_fit supers v.stack w.stack ≡ true
  pub fresh : (not v.fresh || w.fresh) ≡ true

-- a frame at work of so many locals, of types over the classes
pub record IsWork (supers : List (Option ℕ)) (room : ℕ) (w : Work) : Type 0 where
  pub count : length w.locals ≡ room
  pub locals : AreTypes supers w.locals
  pub stack : AreTypes supers w.stack
  pub operands : AreOperands w.stack

-- what is pushed is an operand's type; a part is of an array below an index
abbrev pub IsGiven : List (Option ℕ) → List Need → Gives → Type 0
IsGiven supers needs gives.Nothing = Unit {0}
IsGiven supers needs (gives.One t) = IsType supers t × (is_operand t ≡ true)
IsGiven supers needs gives.Part = (n : Need) × (needs ≡ n ∷ References ∷ [])

-- what a call of an initialiser pushes is an operand's type
abbrev pub IsInitGiven : List (Option ℕ) → Gives → Type 0
IsInitGiven supers gives.Nothing = Unit {0}
IsInitGiven supers (gives.One t) = IsType supers t × (is_operand t ≡ true)
IsInitGiven supers gives.Part = ⊥

-- what a row pushes is an operand's type
abbrev pub IsRow : List (Option ℕ) → Row → Type 0
IsRow supers (row.Acts needs g) = IsGiven supers needs g
IsRow supers (row.Inits needs c g) = IsInitGiven supers g
IsRow supers _ = Unit {0}

-- the classes of a site are the program's
pub record IsSite (s : Site) : Type 0 where
  pub owner : s.owner < length s.supers
  pub news : (at : ℕ) → s.news at < length s.supers
