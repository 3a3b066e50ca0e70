use Rattle.std.proofs.Common.{◌≡◌, ℕ, drop, length}
use Rattle.std.specs.Prelude.{◌||◌}
use Rattle.std.specs.List.{list_any}
use Rattle.flow_verifier.specs.Methods.{ops_of}
use Rattle.flow_verifier.specs.Given.{is_bad_at}
use Rattle.flow_verifier.specs.Worklist.Ranges.{flag_at}
use Rattle.flow_verifier.proofs.facts.bad_places.Given as goal

abbrev pub invariant-loop-k : goal.invariant-loop-k
invariant-loop-k l = record {
  long : length l.bad ≡ length (ops_of l.image l.m.number);
  flags : (i : ℕ) → (flag_at l.bad i || list_any (is_bad_at l.image i) (drop l.k l.handlers)) ≡ list_any (is_bad_at l.image i) l.handlers;
}
