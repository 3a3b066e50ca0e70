-- What is kept for a program.
use Rattle.std.specs.List.{list_any}
use Rattle.std.specs.Prelude.{◌≡◌, ℕ, ◌<◌, Bool, List, length, slice_get, Some}
use Rattle.jvm_base.specs.Words.{from}
use Rattle.program_image.specs.declared.info.FieldInfo.{FieldInfo}
use Rattle.program_image.specs.Program.{Program}
use Rattle.program_image.specs.Words.{fields_of}
use Rattle.machine_state.specs.Classes.{array_class_of, array_class_over, thread_run}
use Rattle.machine_state.specs.PreMade.{arguments}
use Rattle.program_reads.specs.declared.tables.Tables.{Tables}
use Rattle.program_reads.specs.Finding.{is_constant_at}
use Rattle.program_reads.specs.Whole.{IsWhole}

-- the classes of arrays of the kinds of `newarray`, by their numbers, of which none is above the last
-- that is kept
abbrev pub AreKinds : Program → List ℕ → Type 0
AreKinds p kinds = (k : ℕ) → from 0 (λ c. c) (slice_get kinds k) ≡ array_class_of p k

-- the classes of arrays of each class
pub record AreOver (p : Program) (over : List ℕ) : Type 0 where
  pub count : length over ≡ length p.classes
  pub each : (c : ℕ) → c < length p.classes → slice_get over c ≡ Some (array_class_over p c)

-- for the first places, as many as there are fields, whether the static there is final and has a
-- constant
pub record AreMarksOf (fields : List FieldInfo) (marks : List Bool) : Type 0 where
  pub count : length marks ≡ length fields
  pub each : (place : ℕ) →
      place < length fields → slice_get marks place ≡ Some (list_any (is_constant_at place) fields)

-- of each class
pub record AreConstants (p : Program) (rows : List (List Bool)) : Type 0 where
  pub count : length rows ≡ length p.classes
  pub each : (c : ℕ) (marks : List Bool) →
      slice_get rows c ≡ Some marks → AreMarksOf (fields_of p c) marks

-- all of it
pub record IsKept (p : Program) (t : Tables) : Type 0 where
  pub whole : IsWhole p
  pub kinds : AreKinds p t.kinds
  pub over : AreOver p t.over
  pub constants : AreConstants p t.constants
  pub run : t.run ≡ thread_run p
  pub array : t.arguments ≡ arguments p
