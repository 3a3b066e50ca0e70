use Rattle.std.proofs.Common.{◌∙◌, ap}
use Rattle.jvm_base.specs.Maps.{put}
use Rattle.jvm_base.specs.Names.{name_cmp}
use Rattle.shared_state.specs.Stored.{heap_of, stored_body}
use Rattle.shared_state.proofs.StoredLaws.{put_there}
use Rattle.shared_state.proofs.heap.Heap.put.Goals as goal

pub returns-clause-ok : goal.returns-clause-ok
returns-clause-ok c =
    let n = c.args.name in
    let es = c.self.inside.objects.entries in
    ap heap_of c.in_ok-insert.ensures.entries ∙ (put_there n c.args.object es ∙ ap (put name_cmp n (stored_body c.args.object)) c.self.view_is)
