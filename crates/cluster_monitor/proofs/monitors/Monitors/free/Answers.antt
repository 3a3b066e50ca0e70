use Rattle.std.proofs.Common.{ap}
use Rattle.cluster_monitor.proofs.OwnerLaws.{is_owned, one_test}
use Rattle.cluster_monitor.proofs.monitors.Monitors.free.Goals as goal

pub returns-clause-owners : goal.returns-clause-owners
returns-clause-owners c =
    is_owned _ c.self.inside.owners c.swap_remove.new.self one_test c.swap_remove.ensures.updates (ap (λ s. s.items.owners) c.self.view_is)
