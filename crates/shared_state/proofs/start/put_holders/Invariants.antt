use Rattle.std.proofs.Common.{◌≡◌, drop}
use Rattle.machine_state.specs.PreMade.{holders}
use Rattle.machine_state.specs.Start.{all_put}
use Rattle.shared_state.proofs.start.put_holders.Given as goal

abbrev pub invariant-loop-class : goal.invariant-loop-class
invariant-loop-class l = all_put (holders l.image l.class (drop l.class l.image.classes)) l.heap ≡ all_put (holders l.image 0 l.image.classes) l.fn.heap
