use Rattle.std.proofs.Common.{◌∙◌}
use Rattle.frame_ops.proofs.FamilyLaws.{on_operands_alone, alone_otherwise}
use Rattle.frame_ops.proofs.Moving.{locals_are_kept}
use Rattle.frame_ops.proofs.step.run.Goals as goal

pub returns-in_default : goal.returns-in_default
returns-in_default c =
    let e = on_operands_alone c.args.op.now c.args.given c.args.locals.now c.args.stack.now.values (alone_otherwise _ (λ q. c.in_default.not-Told (c.family_of.ensures ∙ q)) (λ q. c.in_default.not-Locals (c.family_of.ensures ∙ q))) in
    rw e (record { moved = c.on_operands.ensures.moved; locals = locals_are_kept _ _ c.on_operands.ensures.kept; stack = c.on_operands.ensures.stack })
