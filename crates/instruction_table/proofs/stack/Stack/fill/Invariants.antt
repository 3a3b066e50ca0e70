use Rattle.std.proofs.Common.{◌≡◌, ◌++◌}
use Rattle.std.specs.Prelude.{replicate}
use Rattle.flow_types.specs.declared.flow_type.FlowType.TheVariants.{Null}
use Rattle.instruction_table.proofs.stack.Stack.fill.Given as goal

abbrev pub invariant-loop : goal.invariant-loop
invariant-loop l = l.self ≡ replicate l.counter Null ++ l.initial.self
