use Rattle.one_jvm.proofs.LoadLemmas.{judged}
use Rattle.one_jvm.proofs.loading.read_file.Goals as goal

pub returns-clause-answer : goal.returns-clause-answer
returns-clause-answer g c = judged c.args.name.now (g.S.Shelf.files c.args.shelf.now) c.args.file (g.S.Shelf.faults c.args.shelf.now) (g.S.Shelf.faults c.read_bytes.new.shelf) c.in_ok-bytes.bytes.items c.class_of.result c.in_ok-bytes.ensures.answer (rw c.as_slice.ensures.value at c.class_of.ensures)
