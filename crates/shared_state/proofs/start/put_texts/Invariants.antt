use Rattle.std.proofs.Common.{◌≡◌, drop}
use Rattle.machine_state.specs.PreMade.{texts}
use Rattle.machine_state.specs.Start.{all_put}
use Rattle.shared_state.proofs.start.put_texts.Given as goal

abbrev pub invariant-loop-content : goal.invariant-loop-content
invariant-loop-content l = all_put (texts l.index (drop l.content-index l.contents)) l.heap ≡ all_put (texts l.first l.contents) l.fn.heap
