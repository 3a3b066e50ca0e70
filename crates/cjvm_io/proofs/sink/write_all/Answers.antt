use Rattle.std.proofs.Common.{arith, length-drop}
use Rattle.std.proofs.lemmas.List.{take_rest}
use Rattle.cjvm_io.proofs.Gains.{appends_on}
use Rattle.cjvm_io.proofs.sink.write_all.Goals as goal

pub loop-done-preserved : goal.loop-done-preserved
loop-done-preserved g c =
    let b = simp (take_rest, length-drop) at c.in_ok-done.ensures.bound.0 in
    let r = c.in_ok-done.ensures.cause.later in
    let h = simp take_rest at c.in_ok-done.ensures.bytes in
    record {
      within = omega (arith, b, c.loop-done.invariant.within, c.loop-done-test.true);
      held = appends_on _ _ _ c.args.bytes.now c.loop-done.done c.in_ok-done.field-0 c.loop-done.invariant.held h;
      later = omega (arith, c.loop-done.invariant.later, r);
    }
