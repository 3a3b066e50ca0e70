use Rattle.std.proofs.Common.{◌≡◌, ◌≤◌, take, length}
use Rattle.shared_state.specs.Making.{all_unmade}
use Rattle.shared_state.proofs.made.unmake.Given as goal

abbrev pub invariant-loop-left : goal.invariant-loop-left
invariant-loop-left l = (l.left ≤ length l.effects) × (all_unmade (take l.left l.effects) l.heap ≡ all_unmade (take l.fn.count l.effects) l.fn.heap)

abbrev pub decreases-loop-left : goal.decreases-loop-left
decreases-loop-left l = l.left
