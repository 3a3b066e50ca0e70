use Rattle.std.proofs.Common.{◌∙◌, ap}
use Rattle.step_serve.specs.Blank.{own_zeros}
use Rattle.step_serve.proofs.Zeros.{rows_next}
use Rattle.step_serve.proofs.blanks.Blanks.new.Goals as goal

pub loop-class-preserved : goal.loop-class-preserved
loop-class-preserved c =
    rows_next c.args.image.now.classes c.loop-class.class c.class.result.now c.loop-class.rows
    c.push.new.self c.in_ok-own_zeros.field-0 c.loop-class.invariant c.class.ensures
    (c.in_ok-own_zeros.ensures ∙ ap own_zeros c.as_slice.ensures) c.in_ok-push.ensures.ok
