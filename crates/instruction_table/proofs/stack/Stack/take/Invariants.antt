use Rattle.std.proofs.Common.{◌≡◌, drop}
use Rattle.flow_types.specs.Tree.{superclasses}
use Rattle.instruction_table.specs.LowestRule.{lower, lowest}
use Rattle.instruction_table.specs.Needs.{needs_rules}
use Rattle.instruction_table.proofs.stack.Stack.take.Given as goal

abbrev pub invariant-loop-i : goal.invariant-loop-i
invariant-loop-i l = record {
  rules : lower l.broken (lowest (needs_rules (superclasses l.image) l.owner (drop l.i l.needs) l.self)) ≡ lowest (needs_rules (superclasses l.image) l.owner l.needs l.initial.self);
  rest : l.self ≡ drop l.i l.initial.self;
}
