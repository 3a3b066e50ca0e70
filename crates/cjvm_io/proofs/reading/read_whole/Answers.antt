use Rattle.std.proofs.Common.{rules}
use Rattle.cjvm_io.proofs.ReadLemmas.{too_long, reads_all}
use Rattle.cjvm_io.proofs.reading.read_whole.Goals as goal

pub returns-in-Ok : goal.returns-in-Ok
returns-in-Ok g c = too_long c.args.limit c.saturating_add-most.result c.read_to_end.new.buf.items (g.R.Read.remaining c.args.reader.now) (search rules) (search rules)

pub returns-in-Ok-2 : goal.returns-in-Ok-2
returns-in-Ok-2 g c = reads_all c.args.limit c.saturating_add-most.result c.read_to_end.new.buf.items (g.R.Read.remaining c.args.reader.now) (search rules) (search rules) (search rules)
