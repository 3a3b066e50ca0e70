use Rattle.std.proofs.Common.{sym}
use Rattle.program_reads.proofs.lookups.instruction_near.Goals as goal

pub placed_near-requires : goal.placed_near-requires
placed_near-requires c = c.requires.rising c.args.method c.in_ok-code.code.now (sym c.in_ok-code.ensures.code)
