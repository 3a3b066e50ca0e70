use Rattle.order_text.proofs.OneReading.{order_is_one}
use Rattle.order_text.proofs.laws.one_order.Goals as goal

pub returns : goal.returns
returns c text a b x y = order_is_one text a b x y
