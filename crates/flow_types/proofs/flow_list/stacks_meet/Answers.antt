use Rattle.std.proofs.Common.{sym}
use Rattle.flow_types.specs.Tree.{superclasses}
use Rattle.flow_types.proofs.Lists.{unlike_meet}
use Rattle.flow_types.proofs.flow_list.stacks_meet.Goals as goal

pub returns-then-a-b : goal.returns-then-a-b
returns-then-a-b c = sym (unlike_meet (superclasses c.args.image.now) c.args.a.now c.args.b.now c.if-a-b.true)
