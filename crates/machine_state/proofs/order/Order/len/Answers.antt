use Rattle.std.proofs.Common.{◌∙◌, ap}
use Rattle.machine_state.specs.OrderRows.{end_of_rows}
use Rattle.machine_state.proofs.OrderLaws.{row_count}
use Rattle.machine_state.proofs.order.Order.len.Goals as goal

pub returns : goal.returns
returns c = c.end.ensures ∙ ap (end_of_rows 0) c.as_slice.ensures ∙ row_count c.self.inside.rows c.args.self.now c.self.invariant c.self.view_is
