use Rattle.std.proofs.Common.{◌≡◌, take, drop, length}
use Rattle.std.specs.Prelude.{ℕ, List}
use Rattle.machine_state.specs.State.{Heap}
use Rattle.machine_state.specs.declared.served.Effect.{Effect}
use Rattle.shared_state.specs.Making.{all_made, AllNew, all_unmade}
use Rattle.shared_state.proofs.made.make_all.Given as goal

-- the first objects are made, and can be taken out again
pub record IsAt (at : ℕ) (heap : Heap) (es : List Effect) (now : Heap) (marked : List Effect) : Type 0 where
  pub count : length marked ≡ length es
  pub undone : all_unmade (take at marked) now ≡ heap
  pub rest_new : AllNew now (drop at marked)
  pub rest_made : all_made (drop at marked) now ≡ all_made es heap

abbrev pub invariant-loop-i : goal.invariant-loop-i
invariant-loop-i l = IsAt l.i l.fn.heap l.fn.effects l.heap l.effects
