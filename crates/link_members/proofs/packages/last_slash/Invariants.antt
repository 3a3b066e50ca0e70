use Rattle.std.proofs.Common.{◌≡◌, ◌≤◌, length}
use Rattle.link_rules.specs.Packages.{last_slash}
use Rattle.link_members.proofs.packages.last_slash.Given as goal

abbrev pub invariant-loop-end : goal.invariant-loop-end
invariant-loop-end l = (l.end ≤ length l.name) × (last_slash (length l.name) l.name ≡ last_slash l.end l.name)

abbrev pub decreases-loop-end : goal.decreases-loop-end
decreases-loop-end l = l.end
