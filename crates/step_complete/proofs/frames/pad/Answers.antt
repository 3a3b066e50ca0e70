use Rattle.std.proofs.Common.{sym, ◌∙◌, arith}
use Rattle.step_complete.proofs.Locals.{filled, padded-enough}
use Rattle.step_complete.proofs.frames.pad.Goals as goal

pub returns-in_ok-resize : goal.returns-in_ok-resize
returns-in_ok-resize c =
    c.in_ok-resize.ensures.items
    ∙ filled c.args.locals.now.items _ c.args.count c.args.locals.now.ok.0
    (omega (arith, c.len.ensures, c.if-len-count.true))

pub returns-else-len-count : goal.returns-else-len-count
returns-else-len-count c =
    sym (padded-enough c.args.locals.now.items c.args.count
    (omega (arith, c.len.ensures, c.if-len-count.false, c.args.locals.now.ok.0)))
