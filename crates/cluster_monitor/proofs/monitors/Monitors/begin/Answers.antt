use Rattle.std.proofs.Common.{◌∙◌, ap}
use Rattle.cluster_monitor.proofs.OwnerLaws.{is_owned, one_test}
use Rattle.cluster_monitor.proofs.monitors.Monitors.begin.Goals as goal

pub returns-clause-owners : goal.returns-clause-owners
returns-clause-owners c =
    is_owned _ c.self.inside.owners c.insert.new.self one_test c.in_ok-insert.ensures.updates (ap (λ s. s.items.owners) c.self.view_is ∙ ap (λ m. m.owners) c.reserve.ensures.items)
