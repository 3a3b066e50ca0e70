use Rattle.order_laws.proofs.NameLaws.{have_texts_law}
use Rattle.order_laws.proofs.laws.orders_have_text.Goals as goal

pub returns : goal.returns
returns c = have_texts_law
