-- Where the run ends it stays as it is.
use Rattle.std.proofs.Common.{subst}
use Rattle.scheduler.specs.Progress.{IsProgress}
use Rattle.scheduler.specs.declared.run.Progress.{Progress}
use Rattle.scheduler.proofs.Turns.{leads_stop}
use Rattle.scheduler.proofs.run.Run.take_one.Goals as goal

pub returns-in-Stops-clause-later : goal.returns-in-Stops-clause-later
returns-in-Stops-clause-later c =
    let stops = subst (λ (x : Progress). IsProgress c.args.image.now c.args.self.now
    c.self.inside.thread c.advance.new.self x) c.in-Stops.is c.in_ok-advance.ensures.progress in
    leads_stop c.args.image.now c.args.self.now c.advance.new.self c.self.inside.thread
    c.in-Stops.stop stops
