use Rattle.std.proofs.Common.{◌≡◌, ◌-◌, ◌++◌}
use Rattle.machine_state.specs.Making.{references}
use Rattle.step_serve.proofs.arrays.references.Given as goal

abbrev pub invariant-loop-index : goal.invariant-loop-index
invariant-loop-index l =
    l.elements.items ++ references l.below.node l.below.class l.index (l.index-end - l.index)
    ≡ references l.below.node l.below.class l.first l.size
