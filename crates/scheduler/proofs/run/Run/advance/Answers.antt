-- A step leads on; a refused one leaves the run as it was.
use Rattle.std.proofs.Common.{◌++◌, ◌∷◌, [], length, subst, sym, ap, ◌∙◌}
use Rattle.one_machine.specs.Ready.{Machine, IsReady}
use Rattle.scheduler.specs.Running.{Run}
use Rattle.scheduler.proofs.Breaks.{unmoved, unkept}
use Rattle.scheduler.proofs.Turns.{on_ok, on_err, same_run, if_ok, if_err, step_run, step_progress, passed_progress}
use Rattle.scheduler.proofs.run.Run.advance.Goals as goal
use Rattle.scheduler.proofs.run.Run.advance.Goals.{in-BadName, in_default}

pub returns-in_err-took-clause-err : goal.returns-in_err-took-clause-err
returns-in_err-took-clause-err c =
    let run : Run = record {
      machine = c.advance.new.self;
      order = c.self.inside.order;
      printed = c.self.inside.printed;
      limit = c.self.inside.limit;
    } in
    on_err c.from_residual.result
    (unmoved c.args.image.now c.args.self.now run c.requires.run
    (ap (λ (m : Machine). m.state) c.in_err-took.ensures.err
    ∙ ap (λ (a : Run). a.machine.state) c.self.view_is)
    (ap (λ (a : Run). a.order) c.self.view_is) (ap (λ (a : Run). a.printed) c.self.view_is))

pub returns-in_err-keep-in-Steps-clause-err : goal.returns-in_err-keep-in-Steps-clause-err
returns-in_err-keep-in-Steps-clause-err c =
    let went = rw c.in-Steps.is at c.in_ok-took.ensures.went in
    on_err c.from_residual-in_err-keep-in-Steps.result
    (unkept c.args.image.now c.args.self.now c.keep.new.self c.self.inside.machine.state
    c.advance.new.self.state c.in-Steps.took.choice c.requires.run
    (sym (ap (λ (a : Run). a.machine.state) c.self.view_is))
    (ap (λ (m : Machine). m.state) c.keep.ensures.machine) went.0.steps
    (c.in_err-keep-in-Steps.ensures.err ∙ ap (λ (a : Run). a.order) c.self.view_is)
    (c.in_err-keep-in-Steps.ensures.unprinted ∙ ap (λ (a : Run). a.printed) c.self.view_is))

pub returns-in_ok-keep-in-Steps-clause-progress : goal.returns-in_ok-keep-in-Steps-clause-progress
returns-in_ok-keep-in-Steps-clause-progress c =
    let took = c.in-Steps.took in
    let went = rw c.in-Steps.is at c.in_ok-took.ensures.went in
    step_progress c.args.image.now c.args.self.now c.keep.new.self c.self.inside.machine.state
    c.advance.new.self.state c.args.thread c.unwrap_or-index.result took
    (sym (ap (λ (a : Run). a.machine.state) c.self.view_is))
    (ap (λ (m : Machine). m.state) c.keep.ensures.machine)
    (c.in_ok-keep-in-Steps.ensures.ok
    ∙ ap (λ (a : Run). a.order ++ took.choice ∷ []) c.self.view_is) went.0

pub returns-in_ok-keep-in-Steps-clause-run : goal.returns-in_ok-keep-in-Steps-clause-run
returns-in_ok-keep-in-Steps-clause-run c =
    let went = rw c.in-Steps.is at c.in_ok-took.ensures.went in
    step_run c.args.image.now c.args.self.now c.keep.new.self c.self.inside.machine.state
    c.advance.new.self.state c.args.thread c.unwrap_or-index.result c.in-Steps.took
    (sym (ap (λ (a : Run). a.machine.state) c.self.view_is))
    (ap (λ (m : Machine). m.state) c.keep.ensures.machine)
    (c.keep.ensures.limit ∙ ap (λ (a : Run). a.limit) c.self.view_is) c.requires.run
    c.requires.unspent went.0 went.1
    (c.in_ok-keep-in-Steps.ensures.printed
    ∙ ap (λ (m : Machine). length m.state.output) (sym c.keep.ensures.machine))
    (subst (λ (m : Machine). IsReady c.args.image.now m)
    (sym c.keep.ensures.machine) c.advance.ensures.ready)

pub returns-in-Full-clause-run : goal.returns-in-Full-clause-run
returns-in-Full-clause-run c =
    let went = rw c.in-Full.is at c.in_ok-took.ensures.went in
    let run : Run = record {
      machine = c.advance.new.self;
      order = c.self.inside.order;
      printed = c.self.inside.printed;
      limit = c.self.inside.limit;
    } in
    same_run c.args.image.now c.args.self.now run c.self.inside.machine.state
    (sym (ap (λ (a : Run). a.machine.state) c.self.view_is)) went.1
    (ap (λ (a : Run). a.limit) c.self.view_is) (ap (λ (a : Run). a.printed) c.self.view_is)
    c.requires.run c.advance.ensures.ready

pub returns-after-reason-clause-run : goal.returns-after-reason-clause-run
returns-after-reason-clause-run c =
    let went = rw c.in-Refused.is at c.in_ok-took.ensures.went in
    let run : Run = record {
      machine = c.advance.new.self;
      order = c.self.inside.order;
      printed = c.self.inside.printed;
      limit = c.self.inside.limit;
    } in
    on_ok c.match-reason.result
    (same_run c.args.image.now c.args.self.now run c.self.inside.machine.state
    (sym (ap (λ (a : Run). a.machine.state) c.self.view_is)) went.1
    (ap (λ (a : Run). a.limit) c.self.view_is) (ap (λ (a : Run). a.printed) c.self.view_is)
    c.requires.run c.advance.ensures.ready)

pub returns-after-reason-clause-progress : goal.returns-after-reason-clause-progress
returns-after-reason-clause-progress c =
    let went = rw c.in-Refused.is at c.in_ok-took.ensures.went in
    let run : Run = record {
      machine = c.advance.new.self;
      order = c.self.inside.order;
      printed = c.self.inside.printed;
      limit = c.self.inside.limit;
    } in
    elim c.match-reason.branch [
      | in-BadName w ↦ if_err _ c.match-reason.result _ w.result-is
      | in_default w ↦ if_ok _ c.match-reason.result _ w.result-is
          (passed_progress c.args.image.now c.args.self.now run c.self.inside.machine.state
          c.args.thread c.unwrap_or-index.result c.in-Refused.reason
          (sym (ap (λ (a : Run). a.machine.state) c.self.view_is)) went.1
          (ap (λ (a : Run). a.order) c.self.view_is) w.in_default.not-BadName went.0)
    ]

pub returns-after-reason-clause-err : goal.returns-after-reason-clause-err
returns-after-reason-clause-err c =
    let went = rw c.in-Refused.is at c.in_ok-took.ensures.went in
    let run : Run = record {
      machine = c.advance.new.self;
      order = c.self.inside.order;
      printed = c.self.inside.printed;
      limit = c.self.inside.limit;
    } in
    on_err c.match-reason.result
    (unmoved c.args.image.now c.args.self.now run c.requires.run
    (went.1 ∙ ap (λ (a : Run). a.machine.state) c.self.view_is)
    (ap (λ (a : Run). a.order) c.self.view_is) (ap (λ (a : Run). a.printed) c.self.view_is))
