use Rattle.std.proofs.Common.{◌∙◌, ap}
use Rattle.std.specs.Prelude.{option_map}
use Rattle.machine_state.specs.State.{body_at}
use Rattle.shared_state.specs.Stored.{stored_body}
use Rattle.shared_state.proofs.StoredLaws.{found_there}
use Rattle.shared_state.proofs.heap.Heap.object.Goals as goal

pub returns : goal.returns
returns c = ap (option_map stored_body) c.get.ensures.value ∙ (found_there c.args.name c.self.inside.objects.entries ∙ ap (λ h. body_at h c.args.name) c.self.view_is)
