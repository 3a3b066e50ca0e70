use Rattle.std.proofs.Common.{◌≡◌, ◌+◌, ◌++◌, drop}
use Rattle.link_rules.specs.Numbers.{numbered}
use Rattle.link_image.specs.Seen.{seen_lookup}
use Rattle.link_image.specs.Targets.{entry_target}
use Rattle.link_image.proofs.targets.add_table.Given as goal

abbrev pub invariant-loop-entry : goal.invariant-loop-entry
invariant-loop-entry l = record {
  at : l.at ≡ 65536 + l.entry-index;
  targets : l.initial.targets ++ numbered (entry_target (seen_lookup l.lookup) l.file l.method) 0 l.table ≡ l.targets ++ numbered (entry_target (seen_lookup l.lookup) l.file l.method) l.entry-index (drop l.entry-index l.table);
}
