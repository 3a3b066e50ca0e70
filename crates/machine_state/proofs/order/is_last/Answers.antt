use Rattle.std.proofs.Common.{rules, sym}
use Rattle.machine_state.proofs.order.is_last.Goals as goal

pub returns-in-Some : goal.returns-in-Some
returns-in-Some c = λ e. (c.in-Some.row.now, sym c.in-Some.ensures.value, search rules)
