use Rattle.std.proofs.Common.{◌∙◌, sym, ap, refl, ℕ, List, [], ◌∷◌, ◌++◌, length, Some, None, false}
use Rattle.std.proofs.Math.ListN.{length-replicate}
use Rattle.flow_verifier.proofs.Worklist.{none-flagged, set-length}
use Rattle.flow_verifier.proofs.rising.Rising.start.Goals as goal

pub returns : goal.returns
returns c =
    let n : ℕ = length c.ops_of-count.result.now in record {
      frames = c.set.ensures ∙ rw (c.in_ok-frames.ensures, c.in_ok-entry.ensures, c.ops_of-count.ensures) refl;
      todo = c.in_ok-push.ensures.ok ∙ ap (λ (z : List ℕ). z ++ (0 ∷ [])) c.new-todo.ensures;
      marked = record {
        wide =
            (ap length c.in_ok-queued.ensures ∙ length-replicate n false)
            ∙ sym (ap length c.set.ensures ∙ set-length c.in_ok-frames.frames 0 (Some c.in_ok-entry.field-0) ∙ ap length c.in_ok-frames.ensures ∙ length-replicate n None);
        flags = none-flagged c.in_ok-queued.queued n c.push.new.self c.in_ok-queued.ensures;
      };
      uncaught = c.in_ok-catches.ensures;
    }
