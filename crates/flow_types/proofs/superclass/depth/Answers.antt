use Rattle.std.proofs.Common.{◌≡◌, ◌∙◌, sym, length, suc, ◌+◌, ◌-◌, arith}
use Rattle.flow_types.specs.Tree.{superclasses}
use Rattle.flow_types.specs.TypeRank.{steps_up}
use Rattle.flow_types.proofs.Supers.{count}
use Rattle.flow_types.proofs.CommonLaws.{step-up}
use Rattle.flow_types.proofs.superclass.depth.Goals as goal

pub loop-i-preserved : goal.loop-i-preserved
loop-i-preserved c =
    let n : length (superclasses c.args.image.now) ≡ length c.args.image.now.classes = count c.args.image.now in
    let e : steps_up (length (superclasses c.args.image.now) - c.loop-i.i) (superclasses c.args.image.now) c.loop-i.at ≡ suc (steps_up (length (superclasses c.args.image.now) - (c.loop-i.i + 1)) (superclasses c.args.image.now) c.in-Some.up) = step-up (superclasses c.args.image.now) _ _ c.loop-i.at c.in-Some.up (omega arith) (sym c.parent.ensures ∙ c.in-Some.is) in
    omega (arith, e, c.loop-i.invariant)
