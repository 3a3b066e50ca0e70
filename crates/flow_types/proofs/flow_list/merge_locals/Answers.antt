use Rattle.std.proofs.Common.{◌∙◌, sym, ap, List, ◌++◌, arith}
use mathlib.Core.List.{append-nil}
use Rattle.flow_types.specs.Tree.{superclasses}
use Rattle.flow_types.specs.declared.flow_type.FlowType.{FlowType}
use Rattle.flow_types.proofs.Lists.{joined_past}
use Rattle.flow_types.proofs.flow_list.merge_locals.Goals as goal

pub returns : goal.returns
returns c =
    sym (append-nil c.loop-i.out) ∙ ap (λ (z : List FlowType). c.loop-i.out ++ z) (sym (joined_past (superclasses c.args.image.now) c.loop-i.i c.args.a.now c.args.b.now (omega arith))) ∙ c.loop-i.invariant
