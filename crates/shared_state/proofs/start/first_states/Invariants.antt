use Rattle.std.proofs.Common.{◌≡◌, ◌++◌, drop}
use Rattle.machine_state.specs.Start.{first_states}
use Rattle.shared_state.proofs.start.first_states.Given as goal

abbrev pub invariant-loop-class : goal.invariant-loop-class
invariant-loop-class l = l.states.items ++ first_states l.class (drop l.class l.image.classes) ≡ first_states 0 l.image.classes
