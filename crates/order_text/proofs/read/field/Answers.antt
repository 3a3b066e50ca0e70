use Rattle.std.proofs.Common.{◌+◌, ◌-◌, length, drop, arith, sym}
use Rattle.std.proofs.lemmas.List.{take_all, length-drop}
use Rattle.order_text.proofs.Fronts.{no_place, no_number, field_is}
use Rattle.order_text.proofs.read.field.Goals as goal

pub returns-in_err-len : goal.returns-in_err-len
returns-in_err-len c = rw c.from_residual.ensures (no_place c.args.limit c.args.behind c.args.bytes.now c.requires.limit c.requires.behind (sym c.in_err-len.ensures))

pub returns-in_err-number : goal.returns-in_err-number
returns-in_err-number c = rw c.from_residual-in_err-number.ensures (no_number c.args.limit c.args.behind c.in_ok-len.len c.args.bytes.now c.requires.limit c.requires.behind (sym c.in_ok-len.ensures) c.in_err-number.ensures)

pub returns : goal.returns
returns c = field_is c.args.limit c.args.behind c.in_ok-len.len c.in_ok-number.number c.args.bytes.now _ c.requires.limit c.requires.behind (sym c.in_ok-len.ensures) c.in_ok-number.ensures (take_all (length c.args.bytes.now - (c.in_ok-len.len + 1)) (drop (c.in_ok-len.len + 1) c.args.bytes.now) (omega (arith, length-drop (c.in_ok-len.len + 1) c.args.bytes.now)))
