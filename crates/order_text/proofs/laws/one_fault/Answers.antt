use Rattle.order_text.proofs.OneReading.{fault_is_one}
use Rattle.order_text.proofs.laws.one_fault.Goals as goal

pub returns : goal.returns
returns c text a b x y = fault_is_one text a b x y
