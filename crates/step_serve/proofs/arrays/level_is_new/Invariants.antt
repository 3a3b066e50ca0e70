use Rattle.std.proofs.Common.{◌≡◌, ◌-◌}
use Rattle.std.specs.Prelude.{replicate}
use Rattle.machine_state.specs.Serve.{all_new}
use Rattle.step_serve.proofs.arrays.level_is_new.Given as goal

abbrev pub invariant-loop-index : goal.invariant-loop-index
invariant-loop-index g l =
    all_new (g.N.Names.heap l.names) l.level.node l.level.index (replicate l.level.count l.level.class)
    ≡ all_new (g.N.Names.heap l.names) l.level.node l.index (replicate (l.index-end - l.index) l.level.class)
