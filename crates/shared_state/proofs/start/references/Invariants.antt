use Rattle.std.proofs.Common.{◌≡◌, ◌++◌, drop}
use Rattle.machine_state.specs.PreMade.{text_references}
use Rattle.shared_state.proofs.start.references.Given as goal

abbrev pub invariant-loop-content : goal.invariant-loop-content
invariant-loop-content l = l.values ++ text_references l.index (drop l.content-index l.contents) ≡ text_references l.first l.contents
