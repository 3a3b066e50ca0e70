use Rattle.std.proofs.Common.{sym}
use Rattle.program_reads.proofs.lookups.instruction_at.Goals as goal

pub placed_at-requires : goal.placed_at-requires
placed_at-requires c = c.requires.rising c.args.method c.in_ok-code.code.now (sym c.in_ok-code.ensures.code)
