use Rattle.std.proofs.Common.{◌∙◌, sym, ap}
use Rattle.shared_types.specs.Trees.{longs}
use Rattle.instruction_table.proofs.Beginning.{longs_begun}
use Rattle.instruction_table.proofs.stack.Stack.begin.Goals as goal

pub invariant_of-self-2 : goal.invariant_of-self-2
invariant_of-self-2 c =
    c.self.invariant
    ∙ sym (ap longs c.in_ok-begin_all.ensures.ok ∙ longs_begun c.args.was c.args.now c.self.inside.items c.requires)
