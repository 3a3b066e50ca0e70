use Rattle.std.proofs.Common.{◌≡◌, ℕ, length, Some}
use Rattle.std.specs.Prelude.{slice_get}
use Rattle.machine_state.specs.Classes.{array_class_of}
use Rattle.program_reads.proofs.arrays.kinds.Given as goal

abbrev pub invariant-loop-kind : goal.invariant-loop-kind
invariant-loop-kind l = record {
  count : length l.kinds ≡ l.kind;
  each : (k c : ℕ) → slice_get l.kinds k ≡ Some c → c ≡ array_class_of l.image k;
}
