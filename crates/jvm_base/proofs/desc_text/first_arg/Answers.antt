use Rattle.std.proofs.Common.{sym, arith}
use Rattle.jvm_base.specs.SeenDescs.{seen_desc}
use Rattle.jvm_base.proofs.Args.{step_end, step_none, step_over, step_next}
use Rattle.jvm_base.proofs.desc_text.first_arg.Goals as goal

pub returns-in-Some : goal.returns-in-Some
returns-in-Some c = step_end c.args.units.now c.in-Some.rest.now c.args.room c.in-Some.ensures

pub returns-in_err-desc : goal.returns-in_err-desc
returns-in_err-desc c = rw c.from_residual.ensures (step_none c.args.units.now c.args.room c.in_default.ensures (sym c.in_err-desc.ensures))

pub returns-in_err-left : goal.returns-in_err-left
returns-in_err-left c = rw c.from_residual-in_err-left.ensures (step_over c.args.units.now (seen_desc c.in_ok-desc.desc, c.in_ok-desc.rest.now) c.args.room (sym c.in_ok-desc.ensures) (grind (arith, c.in_err-left.ensures, c.slots.ensures)))

pub returns : goal.returns
returns c = step_next c.args.units.now (seen_desc c.in_ok-desc.desc, c.in_ok-desc.rest.now) c.args.room c.in_ok-left.left (sym c.in_ok-desc.ensures) (grind (arith, c.in_ok-left.ensures, c.slots.ensures))
