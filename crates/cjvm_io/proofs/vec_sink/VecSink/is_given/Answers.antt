use Rattle.cjvm_io.specs.Faults.{next_count}
use Rattle.cjvm_io.proofs.CallLemmas.{contains_tells}
use Rattle.cjvm_io.proofs.vec_sink.VecSink.is_given.Goals as goal

pub returns : goal.returns
returns c = contains_tells c.args.self.now.fails.items (next_count c.args.self.now.calls) c.contains.result (rw (c.deref.ensures.value, c.saturating_add.ensures) at c.contains.ensures.cases)
