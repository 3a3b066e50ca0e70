use Rattle.std.proofs.Common.{ap, rules}
use Rattle.cluster_monitor.proofs.OwnerLaws.{is_written, one_test}
use Rattle.cluster_monitor.proofs.monitors.Monitors.recount.Goals as goal
use Rattle.cluster_monitor.proofs.monitors.Monitors.recount.Goals.{in-Some, in_default}

pub returns-clause-owners : goal.returns-clause-owners
returns-clause-owners c = elim c.match-get_mut.branch [
  | in-Some w ↦ rw (ap (λ x. x.owners.entries) w.self-inside-is) (is_written _ c.self.inside.owners (c.get_mut.follows.lender _) one_test (c.get_mut.follows.holds _) c.requires (ap (λ s. s.items.owners) c.self.view_is))
  | in_default w ↦ search rules
]
