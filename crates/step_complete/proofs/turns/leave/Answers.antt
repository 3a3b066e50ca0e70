use Rattle.std.proofs.Common.{sym}
use Rattle.step_complete.proofs.Tops.{no_return}
use Rattle.step_complete.proofs.turns.leave.Goals as goal

pub complete_at-requires : goal.complete_at-requires
complete_at-requires c =
    c.requires.takes c.in-Some.placed.now (sym c.in-Some.ensures.instruction)
    (no_return c.in-Some.placed.now.op c.in_default.not-Return)
