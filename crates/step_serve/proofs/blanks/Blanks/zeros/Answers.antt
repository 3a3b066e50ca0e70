use Rattle.step_serve.proofs.Zeros.{zeros_done}
use Rattle.step_serve.proofs.blanks.Blanks.zeros.Goals as goal

pub returns : goal.returns
returns c =
    zeros_done c.args.image.now c.args.self.now c.loop-top.zeros c.loop-top.supers c.args.class
    c.requires c.in_default.ensures.0 c.loop-top.invariant
