use Rattle.std.proofs.Common.{refl}
use Rattle.scheduler.proofs.Turns.{start_run}
use Rattle.scheduler.proofs.run.Run.new.Goals as goal

pub returns-clause-run : goal.returns-clause-run
returns-clause-run c = start_run c.args.image.now c.args.args.now _ c.in_ok-new.ensures.start refl
    c.in_ok-new.ensures.ready
