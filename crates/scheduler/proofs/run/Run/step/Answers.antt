-- One step more leads on from where those in a row led.
use Rattle.scheduler.proofs.Turns.{turns_further, lead_further, go_further}
use Rattle.scheduler.proofs.run.Run.step.Goals as goal

pub returns-clause-later : goal.returns-clause-later
returns-clause-later c =
    lead_further c.args.image.now _ _ _ _ _ _ c.take_one.result c.in_ok-glide.ensures.later
    c.take_one.ensures.later

pub returns-clause-turn : goal.returns-clause-turn
returns-clause-turn c =
    turns_further c.args.image.now _ _ _ _ _ _ c.take_one.new.self c.take_one.result
    c.in_ok-glide.ensures.later c.glide.ensures.limit c.take_one.ensures.turn

pub returns-clause-err : goal.returns-clause-err
returns-clause-err c =
    go_further c.args.image.now _ _ _ _ c.take_one.new.self c.take_one.result c.in_ok-glide.ensures.later
    c.take_one.ensures.err
