use Rattle.std.proofs.Common.{take}
use Rattle.code_table.proofs.Flags.{Marks}
use Rattle.code_table.proofs.target.starts.Given as goal

abbrev pub invariant-loop-placed : goal.invariant-loop-placed
invariant-loop-placed l = Marks l.flags.items (take l.placed-index l.ops) l.len
