-- Steps lead on from where those before them led.
use Rattle.std.proofs.Common.{◌<◌, length, refl, ◌∙◌, arith}
use Rattle.scheduler.proofs.Runs.{leads_nowhere, leads_further, goes_further}
use Rattle.scheduler.proofs.Turns.{on_err, turn_longer}
use Rattle.scheduler.proofs.run.Run.burst.Goals as goal

pub loop-init : goal.loop-init
loop-init c = record {
  run = c.requires;
  later = leads_nowhere c.args.image.now _ _ _ _ refl refl;
  longer = omega arith;
  limit = refl;
}

pub returns-in_err-stop-clause-err : goal.returns-in_err-stop-clause-err
returns-in_err-stop-clause-err c =
    on_err c.from_residual.result (goes_further c.loop.invariant.later c.in_err-stop.ensures.err)

pub returns-in-Some-clause-later : goal.returns-in-Some-clause-later
returns-in-Some-clause-later c = leads_further c.loop.invariant.later c.in_ok-stop.ensures.later

pub loop-preserved : goal.loop-preserved
loop-preserved c =
    let more : length c.loop.self.order < length c.step.new.self.order =
    turn_longer c.args.image.now c.loop.self.limit c.loop.self.order c.step.new.self
    c.in_ok-stop.field-0 c.in_default.not-Some c.in_ok-stop.ensures.turn in
    record {
      run = c.in_ok-stop.ensures.run;
      later = leads_further c.loop.invariant.later c.in_ok-stop.ensures.later;
      longer = omega (arith, c.loop.invariant.longer);
      limit = c.step.ensures.limit ∙ c.loop.invariant.limit;
    }
