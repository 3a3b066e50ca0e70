use Rattle.std.proofs.Common.{◌≡◌, ℕ, Bool, List, length, Some}
use Rattle.std.specs.Prelude.{slice_get}
use Rattle.program_image.specs.Words.{fields_of}
use Rattle.program_reads.specs.Kept.{AreMarksOf}
use Rattle.program_reads.proofs.constants.constants.Given as goal

abbrev pub invariant-loop-class : goal.invariant-loop-class
invariant-loop-class l = record {
  count : length l.rows ≡ l.class;
  each : (c : ℕ) (marks : List Bool) → slice_get l.rows c ≡ Some marks → AreMarksOf (fields_of l.image c) marks;
}
