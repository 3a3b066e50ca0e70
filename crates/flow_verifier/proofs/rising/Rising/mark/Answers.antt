use Rattle.std.proofs.Common.{refl, inr}
use Rattle.flow_verifier.proofs.Worklist.{flagged-in}
use Rattle.flow_verifier.proofs.Ways.{on_ok}
use Rattle.flow_verifier.proofs.Visits.{mark-more}
use Rattle.flow_verifier.proofs.rising.Rising.mark.Goals as goal

pub returns-then-is_queued-clause-todo : goal.returns-then-is_queued-clause-todo
returns-then-is_queued-clause-todo c =
    inr (refl, flagged-in c.args.self.now.queued c.args.self.now.todo c.args.to c.requires.marked.flags (c.is_queued.ensures.0 c.if-is_queued.true))

pub returns-clause-marked : goal.returns-clause-marked
returns-clause-marked c =
    on_ok c.push.result _ _ c.push.ensures.ok (λ h. mark-more c.args.self.now _ c.args.to c.requires.marked c.requires.within refl c.set.ensures h)
