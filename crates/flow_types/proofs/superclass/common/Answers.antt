use Rattle.std.proofs.Common.{◌≡◌, ◌∙◌, sym, suc, ◌<◌, ◌≤◌, Some, arith}
use Rattle.flow_types.specs.Tree.{superclass, superclasses}
use Rattle.flow_types.specs.TypeRank.{depth}
use Rattle.flow_types.proofs.CommonLaws.{lift-first, lift-second, depth-next}
use Rattle.flow_types.proofs.superclass.common.Goals as goal

pub loop-low-preserved-then-other_depth-low_depth : goal.loop-low-preserved-then-other_depth-low_depth
loop-low-preserved-then-other_depth-low_depth c =
    let i = c.loop-low.invariant in
    let le : depth (superclasses c.args.image.now) c.loop-low.other ≤ depth (superclasses c.args.image.now) c.loop-low.low = omega (arith, i.low, i.other, c.if-other_depth-low_depth.true) in
    let up : superclass (superclasses c.args.image.now) c.loop-low.low ≡ Some c.in-Some.up = sym c.parent.ensures ∙ c.in-Some.is in
    let next : depth (superclasses c.args.image.now) c.loop-low.low ≡ suc (depth (superclasses c.args.image.now) c.in-Some.up) = depth-next (superclasses c.args.image.now) c.requires.tree c.loop-low.low c.in-Some.up up in
    record {
      same = sym (lift-first (superclasses c.args.image.now) c.requires.tree c.loop-low.low c.loop-low.other c.in-Some.up c.loop-low-test.true le up) ∙ i.same;
      low = omega (arith, i.low, next);
      other = i.other;
    }

pub loop-low-preserved : goal.loop-low-preserved
loop-low-preserved c =
    let i = c.loop-low.invariant in
    let lt : depth (superclasses c.args.image.now) c.loop-low.low < depth (superclasses c.args.image.now) c.loop-low.other = omega (arith, i.low, i.other, c.if-other_depth-low_depth.false) in
    let up : superclass (superclasses c.args.image.now) c.loop-low.other ≡ Some c.in-Some-parent.up = sym c.parent-else-other_depth-low_depth.ensures ∙ c.in-Some-parent.is in
    let next : depth (superclasses c.args.image.now) c.loop-low.other ≡ suc (depth (superclasses c.args.image.now) c.in-Some-parent.up) = depth-next (superclasses c.args.image.now) c.requires.tree c.loop-low.other c.in-Some-parent.up up in
    record {
      same = sym (lift-second (superclasses c.args.image.now) c.requires.tree c.loop-low.low c.loop-low.other c.in-Some-parent.up lt up) ∙ i.same;
      low = i.low;
      other = omega (arith, i.other, next);
    }
