use Rattle.std.proofs.Common.{Some}
use Rattle.machine_state.specs.Plan.{unwinds}
use Rattle.step_plan.proofs.Going.{outward_goes}
use Rattle.step_plan.proofs.Outward.{unwinds_outward}
use Rattle.step_plan.proofs.unwinding.raises_in.Goals as goal

pub returns-in-None-clause-goes : goal.returns-in-None-clause-goes
returns-in-None-clause-goes c =
    let p = c.args.image.now in
    let f = c.args.frame.now in
    outward_goes p f c.unwinds.result (unwinds f.phase f.lock) (c.unwinds.ensures p (Some f)) (unwinds_outward f.phase f.lock)
