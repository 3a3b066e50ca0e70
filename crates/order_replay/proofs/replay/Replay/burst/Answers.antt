-- Steps lead on from where those before them led.
use Rattle.std.proofs.Common.{◌<◌, refl, arith}
use Rattle.order_replay.proofs.Taking.{takes_none, takes_further, none_takes}
use Rattle.order_replay.proofs.replay.Replay.burst.Goals as goal

pub loop-init : goal.loop-init
loop-init c = record {
  ready = c.requires.ready;
  later = takes_none c.args.image.now c.args.order.now _ _ refl refl c.requires.few;
  longer = omega arith;
}

pub returns-in_err-ending-clause-later : goal.returns-in_err-ending-clause-later
returns-in_err-ending-clause-later c =
    takes_further c.loop.invariant.later c.in_err-ending.ensures.later

pub returns-in-Some-clause-later : goal.returns-in-Some-clause-later
returns-in-Some-clause-later c =
    takes_further c.loop.invariant.later c.in_ok-ending.ensures.later

pub loop-preserved : goal.loop-preserved
loop-preserved c =
    let more : c.loop.self.taken < c.step.new.self.taken =
    none_takes c.args.image.now c.args.order.now c.loop.self c.step.new.self c.in_ok-ending.field-0
    c.in_default.not-Some c.in_ok-ending.ensures.turn in
    record {
      ready = c.in_ok-ending.ensures.ready;
      later = takes_further c.loop.invariant.later c.in_ok-ending.ensures.later;
      longer = omega (arith, c.loop.invariant.longer);
    }
