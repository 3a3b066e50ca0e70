use Rattle.std.proofs.Common.{refl, sym, ◌∙◌}
use Rattle.one_machine.specs.Gliding.{frame_move}
use Rattle.one_machine.proofs.Gliding.{moves_on}
use Rattle.one_machine.proofs.glide.glide_frame.Goals as goal

pub loop-taken-init : goal.loop-taken-init
loop-taken-init c = refl

pub move_frame-requires-clause-can : goal.move_frame-requires-clause-can
move_frame-requires-clause-can c = c.requires.can c.loop-taken.taken c.loop-taken.frame c.loop-taken.invariant

pub loop-taken-preserved : goal.loop-taken-preserved
loop-taken-preserved c =
    moves_on (frame_move c.args.image.now) c.loop-taken.taken c.args.frame.now c.loop-taken.frame c.move_frame.new.frame
    c.loop-taken.invariant (sym c.if-not-move_frame.false ∙ c.move_frame.ensures.moved) c.move_frame.ensures.frame
