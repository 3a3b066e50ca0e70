use Rattle.std.proofs.Common.{◌≡◌, Some, sym, ap, subst}
use Rattle.machine_state.specs.Instructions.{returns}
use Rattle.step_plan.specs.declared.plan.Plan.{Plan}
use Rattle.step_plan.specs.Ways.{GoesBy}
use Rattle.step_plan.proofs.Going.{outward_goes}
use Rattle.step_plan.proofs.Outward.{returns_outward}
use Rattle.step_plan.proofs.bodies.instruction_plan.Goals as goal

pub returns-in-Leave-clause-goes : goal.returns-in-Leave-clause-goes
returns-in-Leave-clause-goes g c =
    let p = c.args.site.now.image.now in
    let f = c.args.frame.now in
    let v = c.in-Leave.value in
    let e : c.plain-in-Leave.result.next ≡ c.returns.result = ap (λ (q : Plan). q.next) c.plain-in-Leave.ensures in
    subst (λ t. GoesBy p (Some f) t) (sym e) (outward_goes p f c.returns.result (returns f.lock v) (c.returns.ensures p (Some f)) (returns_outward f.lock v))
