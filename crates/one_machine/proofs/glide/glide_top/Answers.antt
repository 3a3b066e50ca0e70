use Rattle.std.proofs.Common.{refl}
use Rattle.one_machine.proofs.GlideLevels.{top_can, top_moves}
use Rattle.one_machine.proofs.glide.glide_top.Goals as goal

pub glide_level-requires-clause-can : goal.glide_level-requires-clause-can
glide_level-requires-clause-can c =
    top_can c.args.image.now c.args.levels.now.items _ _ c.in-Some.top.now refl c.args.levels.now.ok.0
    (c.in-Some.ensures.variant.0 refl) c.in-Some.ensures.value c.requires.can

pub returns-in-Some : goal.returns-in-Some
returns-in-Some c =
    top_moves c.args.image.now c.args.levels.now.items _ _ c.in-Some.top.now c.glide_level.new.level _ _ refl
    c.args.levels.now.ok.0 (c.in-Some.ensures.variant.0 refl) c.in-Some.ensures.value c.glide_level.ensures
