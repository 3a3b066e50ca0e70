use Rattle.std.proofs.lemmas.Result.{err_from_is_err_and}
use Rattle.code_table.proofs.Walk.{holds_first, holds_next, ends, is_done}
use Rattle.code_table.proofs.sequence.instructions_of.Goals as goal

pub loop-at-init : goal.loop-at-init
loop-at-init c = rw c.new-ops.ensures (holds_first c.args.code.now c.args.descs.now)

pub returns-in_err-placed-clause-exact : goal.returns-in_err-placed-clause-exact
returns-in_err-placed-clause-exact c =
    let p = err_from_is_err_and c.from_residual.result c.from_residual.ensures.1 in
    rw (p.1, p.2) (ends c.in_err-placed.field-0.0 c.args.code.now c.args.descs.now c.loop-at.ops c.loop-at.at c.loop-at-test.true c.loop-at.invariant.few c.in_err-placed.ensures.exact c.loop-at.invariant.all)

pub loop-at-preserved : goal.loop-at-preserved
loop-at-preserved c =
    let w = c.in_ok-placed.ensures.within in
    rw c.in_ok-push.ensures.ok (holds_next c.args.code.now c.args.descs.now c.loop-at.ops c.loop-at.at c.in_ok-placed.placed c.loop-at-test.true c.in_ok-placed.ensures.exact w.here w.behind w.within c.loop-at.invariant)

pub returns-clause-exact : goal.returns-clause-exact
returns-clause-exact c = is_done c.args.code.now c.args.descs.now c.loop-at.ops c.loop-at.at c.loop-at-test.false c.loop-at.invariant.all
