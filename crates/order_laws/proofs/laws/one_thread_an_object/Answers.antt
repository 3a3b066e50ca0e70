use Rattle.order_laws.proofs.ThreadLaws.{one_thread_law}
use Rattle.order_laws.proofs.laws.one_thread_an_object.Goals as goal

pub returns : goal.returns
returns c = one_thread_law
