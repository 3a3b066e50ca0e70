-- An accepted program has few classes, and its orders name no others.
use Rattle.class_link.specs.Linked.{linked}
use Rattle.runnable_programs.proofs.Runnables.{runnable_law}
use Rattle.order_laws.proofs.NameLaws.{have_texts_law}
use Rattle.written_orders.specs.Written.{WrittenLaw}
use Rattle.written_orders.proofs.Few.{few_law}

pub written_law : WrittenLaw
written_law files main formed accepted = have_texts_law (linked files main) (runnable_law files main formed accepted).whole (few_law files main accepted)
