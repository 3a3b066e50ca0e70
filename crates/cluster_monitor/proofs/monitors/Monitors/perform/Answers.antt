use Rattle.std.proofs.Common.{ap, sym, refl, subst, ◌≡◌, ◌<◌, length, Some}
use Rattle.std.specs.Prelude.{slice_get}
use Rattle.std.proofs.lemmas.Option.{slice_get_read}
use Rattle.cluster_monitor.proofs.OwnerLaws.{is_owned, one_test}
use Rattle.cluster_monitor.proofs.monitors.Monitors.perform.Goals as goal

pub returns-clause-owners : goal.returns-clause-owners
returns-clause-owners c =
    let r = c.remove-request.result in
    let v = ap (λ s. s.items.queue) c.self.view_is in
    let g = slice_get_read c.self.inside.queue.items _ c.args.place r refl (subst (λ qs. c.args.place < length qs) (sym v) c.requires) c.remove-request.ensures.value in
    rw (subst (λ qs. slice_get qs c.args.place ≡ Some r) v g) (is_owned _ c.self.inside.owners c.insert.new.self one_test c.in-Ok.ensures.updates (ap (λ s. s.items.owners) c.self.view_is))
