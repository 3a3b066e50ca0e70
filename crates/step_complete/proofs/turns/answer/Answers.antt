use Rattle.std.proofs.Common.{sym}
use Rattle.step_complete.proofs.turns.answer.Goals as goal

pub complete_at-requires : goal.complete_at-requires
complete_at-requires c = c.requires.takes c.in-Some.placed.now (sym c.in-Some.ensures.instruction)
