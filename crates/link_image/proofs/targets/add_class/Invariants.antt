use Rattle.std.proofs.Common.{◌≡◌, ◌+◌, ◌++◌, drop}
use Rattle.link_rules.specs.Numbers.{numbered}
use Rattle.link_image.specs.Seen.{seen_lookup}
use Rattle.link_image.specs.Targets.{method_targets}
use Rattle.link_image.proofs.targets.add_class.Given as goal

abbrev pub invariant-loop-i : goal.invariant-loop-i
invariant-loop-i l = record {
  number : l.number ≡ l.first + l.i;
  targets : l.initial.targets ++ numbered (λ i x. method_targets (seen_lookup l.lookup) l.file (l.first + i) x) 0 l.file.methods ≡ l.targets ++ numbered (λ i x. method_targets (seen_lookup l.lookup) l.file (l.first + i) x) l.i (drop l.i l.file.methods);
}
