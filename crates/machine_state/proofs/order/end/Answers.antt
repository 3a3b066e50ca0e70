use Rattle.std.proofs.Common.{sym, ◌<◌, ◌-◌, length, arith}
use Rattle.std.proofs.lemmas.Option.{slice_get_within}
use Rattle.machine_state.proofs.OrderLaws.{last_end}
use Rattle.machine_state.proofs.order.end.Goals as goal

pub returns-in-Some : goal.returns-in-Some
returns-in-Some c =
    let rows = c.args.rows.now in
    let inside : length rows - 1 < length rows = slice_get_within rows (length rows - 1) c.in-Some.row.now (sym c.in-Some.ensures.value) in
    sym (last_end 0 (length rows - 1) rows c.in-Some.row.now (omega arith) (sym c.in-Some.ensures.value))
