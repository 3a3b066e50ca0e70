use Rattle.std.proofs.Common.{refl}
use Rattle.step_complete.proofs.Tops.{turned-set}
use Rattle.step_complete.proofs.turns.turn_top.Goals as goal

pub returns-in-Some-clause-levels : goal.returns-in-Some-clause-levels
returns-in-Some-clause-levels c =
    turned-set c.args.image.now c.args.turn c.args.levels.now.items _ _ c.in-Some.top.now
    c.turn_level.new.level refl c.args.levels.now.ok.0 (c.in-Some.ensures.variant.0 refl)
    c.in-Some.ensures.value c.turn_level.ensures
