use Rattle.std.proofs.Common.{◌≡◌, ◌∙◌, ap, subst, None}
use Rattle.machine_state.specs.State.{owner_at}
use Rattle.machine_state.specs.Changes.{without_owner}
use Rattle.shared_state.proofs.WaiterLaws.{one_goes}
use Rattle.shared_state.proofs.owners.Owners.free.Goals as goal

pub returns : goal.returns
returns c =
    let r = c.remove.ensures in
    let gone = subst (λ es. owner_at es c.args.lock ≡ None) r.entries r.updates.1 in
    r.entries ∙ (one_goes c.args.lock c.self.inside.locks.entries gone ∙ ap (without_owner c.args.lock) c.self.view_is)
