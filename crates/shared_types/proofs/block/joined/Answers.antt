use Rattle.std.proofs.Common.{◌∙◌, arith}
use Rattle.std.proofs.lemmas.Option.{slice_get-get_or}
use Rattle.flow_types.specs.Tree.{superclasses}
use Rattle.shared_types.proofs.Laws.{joined_more}
use Rattle.shared_types.proofs.block.joined.Goals as goal

pub loop-i-preserved : goal.loop-i-preserved
loop-i-preserved c =
    c.in_ok-push.ensures.ok ∙ rw c.merge_type.ensures (joined_more (superclasses c.args.image.now) c.loop-i.i _ _ c.args.high.now c.args.low.now c.loop-i.out (slice_get-get_or c.args.high.now c.loop-i.i _ c.loop-i-test.true) (slice_get-get_or c.args.low.now c.loop-i.i _ (omega (arith, c.requires.alike, c.loop-i-test.true))) c.loop-i.invariant)
