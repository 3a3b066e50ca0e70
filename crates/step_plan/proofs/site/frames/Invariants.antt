use Rattle.std.proofs.Common.{◌≡◌, ◌≤◌, take}
use Rattle.machine_state.specs.Frames.{frames}
use Rattle.step_plan.proofs.site.frames.Given as goal

abbrev pub invariant-loop-level : goal.invariant-loop-level
invariant-loop-level l = record {
  counted : l.count ≡ frames (take l.level-index l.levels);
  few : l.count ≤ l.level-index;
}
