use Rattle.std.proofs.Common.{◌≡◌, ◌++◌, drop}
use Rattle.link_rules.specs.Numbers.{numbered}
use Rattle.link_image.specs.Methods.{first_method}
use Rattle.link_image.specs.Seen.{seen_lookup}
use Rattle.link_image.specs.Targets.{class_targets, all_targets}
use Rattle.link_image.proofs.targets.all_targets.Given as goal

abbrev pub invariant-loop-c : goal.invariant-loop-c
invariant-loop-c l = record {
  first : l.first ≡ first_method l.lookup.resolver.now l.c;
  targets : all_targets (seen_lookup l.lookup) ≡ l.targets ++ numbered (λ c f. class_targets (seen_lookup l.lookup) (first_method l.lookup.resolver.now c) f) l.c (drop l.c l.lookup.resolver.now);
}
