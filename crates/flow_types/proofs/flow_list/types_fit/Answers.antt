use Rattle.std.proofs.Common.{sym}
use Rattle.flow_types.specs.Tree.{superclasses}
use Rattle.flow_types.proofs.Lists.{unlike_fit}
use Rattle.flow_types.proofs.flow_list.types_fit.Goals as goal

pub returns-then-low-high : goal.returns-then-low-high
returns-then-low-high c = sym (unlike_fit (superclasses c.args.image.now) c.args.low.now c.args.high.now c.if-low-high.true)
