use Rattle.std.proofs.Common.{sym}
use Rattle.step_complete.proofs.turns.advance.Goals as goal

pub step_at-requires : goal.step_at-requires
step_at-requires c = c.requires.runs c.in-Some.placed.now (sym c.in-Some.ensures.instruction)
