use Rattle.std.proofs.Common.{ℕ, List, [], ◌∷◌, refl, ap}
use Rattle.machine_state.specs.Changes.{Change, Printed}
use Rattle.step_serve.proofs.threads.print.Goals as goal

pub returns : goal.returns
returns c = λ heap.
    c.changing.ensures heap _
    (record { makes = refl; waiters = refl; changes = ap (λ (bytes : List ℕ). Printed bytes ∷ []) c.in_ok-bytes.ensures; answers = refl })
