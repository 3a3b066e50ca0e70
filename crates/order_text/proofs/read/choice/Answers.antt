use Rattle.order_text.proofs.Fronts.{choice_is}
use Rattle.order_text.proofs.read.choice.Goals as goal

pub returns : goal.returns
returns c = choice_is c.args.bytes.now c.in_ok-thread.thread c.in_ok-thread.rest c.in_ok-pick.pick c.in_ok-pick.rest c.in_ok-name.name c.in_ok-name.rest c.in_ok-thread.ensures c.in_ok-pick.ensures c.in_ok-name.ensures
