use Rattle.std.proofs.Common.{arith, sym, ◌∙◌}
use Rattle.order_text.proofs.Writing.{is_there, writes_more, writes_all}
use Rattle.order_text.proofs.write.write_order.Goals.{in-Some+in_ok-push_choice, in_default}
use Rattle.order_text.proofs.write.write_order.Goals as goal

pub loop-at-preserved : goal.loop-at-preserved
loop-at-preserved c = elim c.match-get_near.branch [
  | in-Some+in_ok-push_choice w ↦ rw (w.text-is, w.in_ok-push_choice.ensures.line) (writes_more c.args.order.now c.loop-at.at c.loop-at.text w.in-Some.choice (sym w.in-Some.ensures) w.push_choice.ensures.fits c.loop-at.invariant)
  | in_default w ↦ absurd (is_there c.args.order.now c.loop-at.at (omega (arith, c.loop-at-test.true, c.len-at-end.ensures)) (sym c.get_near.ensures ∙ w.in_default.is))
]

pub returns : goal.returns
returns c = rw c.in_ok-append-2.ensures.ok (writes_all c.args.order.now c.loop-at.at c.loop-at.text (omega (arith, c.loop-at-test.false, c.len-at-end.ensures)) c.loop-at.invariant)
