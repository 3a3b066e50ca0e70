-- The thread in turn has gone on, and the run can.
use Rattle.std.proofs.Common.{refl, subst, sym}
use Rattle.scheduler.specs.Running.{Run, IsRun, GoesOn}
use Rattle.scheduler.proofs.Breaks.{unglided}
use Rattle.scheduler.proofs.Turns.{glided_run, on_err}
use Rattle.scheduler.proofs.run.Run.glide.Goals as goal

pub returns-clause-run : goal.returns-clause-run
returns-clause-run c =
    let run : Run = record {
      machine = c.glide-taken.new.self;
      order = c.push_many.new.self;
      printed = c.self.inside.printed;
      limit = c.self.inside.limit;
    } in
    glided_run c.args.image.now _ run c.self.inside.machine.state c.glide-taken.new.self.state
    c.self.inside.thread c.from-most.result c.glide-taken.result refl refl refl refl
    (subst (λ (a : Run). IsRun c.args.image.now a) (sym c.self.view_is) c.requires)
    c.glide-taken.ensures.glides c.glide-taken.ensures.ready

pub returns-in_err-push_many-clause-err : goal.returns-in_err-push_many-clause-err
returns-in_err-push_many-clause-err c =
    let p = c.args.image.now in
    let before : Run = record {
      machine = c.self.inside.machine;
      order = c.self.inside.order;
      printed = c.self.inside.printed;
      limit = c.self.inside.limit;
    } in
    let run : Run = record {
      machine = c.glide-taken.new.self;
      order = c.push_many.new.self;
      printed = c.self.inside.printed;
      limit = c.self.inside.limit;
    } in
    on_err c.from_residual.result
    (subst (λ (a : Run). GoesOn p a.machine.state a.order run) c.self.view_is
    (unglided p before run c.self.inside.machine.state c.glide-taken.new.self.state
    c.self.inside.thread c.from-most.result c.self.inside.limit c.glide-taken.result
    (subst (λ (a : Run). IsRun p a) (sym c.self.view_is) c.requires) refl refl
    c.glide-taken.ensures.glides c.in_err-push_many.ensures.err refl))
