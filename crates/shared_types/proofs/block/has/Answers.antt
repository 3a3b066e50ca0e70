use Rattle.std.proofs.Common.{arith}
use Rattle.std.proofs.lemmas.List.{take_all}
use Rattle.std.proofs.lemmas.Option.{slice_get-get_or}
use Rattle.shared_types.proofs.Laws.{lacks_next, lacks_kept}
use Rattle.shared_types.proofs.block.has.Goals as goal

pub loop-i-preserved : goal.loop-i-preserved
loop-i-preserved c =
    lacks_next c.args.t c.args.types.now c.loop-i.i _ c.args.used.now (slice_get-get_or c.args.used.now c.loop-i.i _ c.loop-i-test.true) (c.is_there.ensures c.if-is_there.false) c.loop-i.invariant

pub returns : goal.returns
returns c e u =
    lacks_kept c.args.t u c.args.types.now c.requires.usable (rw (take_all c.loop-i.i c.args.used.now (omega (arith, c.loop-i-test.false)), c.requires.used) at c.loop-i.invariant)
