use Rattle.one_machine.proofs.GlideLevels.{level_can, level_moves}
use Rattle.one_machine.proofs.glide.glide_level.Goals as goal

pub glide_frame-requires-clause-can : goal.glide_frame-requires-clause-can
glide_frame-requires-clause-can c =
    level_can c.args.image.now c.args.level.now c.in-Code.frame c.in-Code.is c.requires.can

pub returns-in-Code : goal.returns-in-Code
returns-in-Code c =
    level_moves c.args.image.now c.args.level.now c.in-Code.frame c.glide_frame.new.frame _ _ c.in-Code.is c.glide_frame.ensures
