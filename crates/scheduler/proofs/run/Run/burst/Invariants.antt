use Rattle.std.proofs.Common.{◌≡◌, ◌+◌, ◌≤◌, length}
use Rattle.scheduler.specs.Running.{IsRun, LeadsOn}
use Rattle.scheduler.proofs.run.Run.burst.Given as goal

-- each step so far led on
abbrev pub invariant-loop : goal.invariant-loop
invariant-loop l = record {
  run : IsRun l.image l.self;
  later : LeadsOn l.image l.fn.self.machine.state l.fn.self.order l.self.order l.self.machine.state;
  longer : l.counter + length l.fn.self.order ≤ length l.self.order;
  limit : l.self.limit ≡ l.fn.self.limit;
}
