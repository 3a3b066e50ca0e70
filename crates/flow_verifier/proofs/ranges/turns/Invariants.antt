use Rattle.std.proofs.Common.{◌≡◌, ℕ, ◌<◌, drop, length}
use Rattle.std.specs.Prelude.{◌||◌}
use Rattle.std.specs.List.{list_any}
use Rattle.flow_verifier.specs.Methods.{ops_of}
use Rattle.flow_verifier.specs.Worklist.Ranges.{flag_at, turns_at}
use Rattle.flow_verifier.proofs.ranges.turns.Given as goal

abbrev pub invariant-loop-k : goal.invariant-loop-k
invariant-loop-k l = record {
  long : length l.flags ≡ length (ops_of l.image l.m.number);
  flags : (i : ℕ) → i < length l.flags → (flag_at l.flags i || list_any (turns_at (ops_of l.image l.m.number) i) (drop l.k l.handlers)) ≡ list_any (turns_at (ops_of l.image l.m.number) i) l.handlers;
}
