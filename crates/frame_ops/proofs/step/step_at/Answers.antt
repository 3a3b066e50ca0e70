use Rattle.std.proofs.Common.{◌∙◌, arith}
use Rattle.frame_ops.specs.Stepping.{move_at}
use Rattle.frame_ops.proofs.Moving.{answer_is_told, frame_is_told, frame_is_kept}
use Rattle.frame_ops.proofs.step.step_at.Goals as goal

pub returns-clause-answer : goal.returns-clause-answer
returns-clause-answer c = grind (arith, answer_is_told)

pub returns-clause-frame : goal.returns-clause-frame
returns-clause-frame c = grind (arith, frame_is_told)

pub returns-clause-kept : goal.returns-clause-kept
returns-clause-kept c h =
    let m = move_at c.args.placed.now c.args.given c.args.frame.now in
    returns-clause-frame c ∙ frame_is_kept m c.args.placed.now.next c.args.frame.now (λ q. h (returns-clause-answer c ∙ q))
