use Rattle.std.proofs.Common.{◌∙◌, ap}
use Rattle.std.specs.Map.{remove_entry}
use Rattle.std.specs.BTreeMap.{is_at}
use Rattle.jvm_base.specs.Names.{name_cmp}
use Rattle.shared_state.specs.Stored.{heap_of}
use Rattle.shared_state.proofs.StoredLaws.{removed_there}
use Rattle.shared_state.proofs.heap.Heap.unmake.Goals as goal

pub returns : goal.returns
returns c = ap heap_of c.remove.ensures.entries ∙ (removed_there c.args.name c.self.inside.objects.entries ∙ ap (remove_entry (is_at (name_cmp c.args.name))) c.self.view_is)
