use Rattle.std.proofs.Common.{◌≡◌, ◌≤◌, length}
use Rattle.program_image.specs.Selection.{last_slash}
use Rattle.program_image.proofs.alike.package.Given as goal

abbrev pub invariant-loop-end : goal.invariant-loop-end
invariant-loop-end l = (l.end ≤ length l.name) × (last_slash (length l.name) l.name ≡ last_slash l.end l.name)

abbrev pub decreases-loop-end : goal.decreases-loop-end
decreases-loop-end l = l.end
