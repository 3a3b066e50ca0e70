use Rattle.std.proofs.Common.{◌+◌, sym, ◌∙◌}
use Rattle.step_serve.proofs.Rows.{new-next}
use Rattle.step_serve.proofs.arrays.level_is_new.Goals as goal

pub loop-index-preserved : goal.loop-index-preserved
loop-index-preserved g c =
    c.loop-index.invariant
    ∙ new-next (g.N.Names.heap c.args.names.now) c.args.level.node c.args.level.class c.loop-index.index
    (c.args.level.index + c.args.level.count) c.loop-index-test.true (sym c.has.ensures ∙ c.if-has.false)
