use Rattle.std.proofs.Common.{◌+◌, ◌≤◌}
use Rattle.one_machine.specs.Ready.{IsReady}
use Rattle.order_replay.specs.Replaying.{TakesOn}
use Rattle.order_replay.proofs.replay.Replay.burst.Given as goal

-- each step so far led on
abbrev pub invariant-loop : goal.invariant-loop
invariant-loop l = record {
  ready : IsReady l.image l.self.machine;
  later : TakesOn l.image l.order l.fn.self l.self;
  longer : l.counter + l.fn.self.taken ≤ l.self.taken;
}
