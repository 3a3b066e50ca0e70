-- Where no thread steps the run stays as it is.
use Rattle.std.proofs.Common.{refl, subst}
use Rattle.scheduler.specs.Running.{Run, LeadsOn}
use Rattle.scheduler.specs.Progress.{IsProgress}
use Rattle.scheduler.specs.declared.run.Progress.{Progress}
use Rattle.scheduler.proofs.Breaks.{unmoved}
use Rattle.scheduler.proofs.Runs.{leads_nowhere}
use Rattle.scheduler.proofs.Turns.{on_err, leads_stop}
use Rattle.scheduler.proofs.run.Run.change_turn.Goals as goal

pub returns-in_err-next-clause-err : goal.returns-in_err-next-clause-err
returns-in_err-next-clause-err c =
    on_err c.from_residual.result
    (unmoved c.args.image.now c.args.self.now c.args.self.now c.requires refl refl refl)

pub returns-in_err-standstill-clause-err : goal.returns-in_err-standstill-clause-err
returns-in_err-standstill-clause-err c =
    on_err c.from_residual-in_err-standstill.result
    (unmoved c.args.image.now c.args.self.now c.args.self.now c.requires refl refl refl)

pub returns-in_default-clause-later : goal.returns-in_default-clause-later
returns-in_default-clause-later c = leads_nowhere c.args.image.now _ _ _ _ refl refl

pub returns-then-is_spent-clause-later : goal.returns-then-is_spent-clause-later
returns-then-is_spent-clause-later c = leads_nowhere c.args.image.now _ _ _ _ refl refl

pub returns-in-Stops-clause-later : goal.returns-in-Stops-clause-later
returns-in-Stops-clause-later c =
    let before : Run = record {
      machine = c.self.inside.machine;
      order = c.self.inside.order;
      printed = c.self.inside.printed;
      limit = c.self.inside.limit;
    } in
    let stops = subst (λ (x : Progress). IsProgress c.args.image.now before c.in-Some.next
    c.advance.new.self x) c.in-Stops.is c.in_ok-advance.ensures.progress in
    subst (λ (a : Run). LeadsOn c.args.image.now a.machine.state a.order c.advance.new.self.order
    c.advance.new.self.machine.state) c.self.view_is
    (leads_stop c.args.image.now before c.advance.new.self c.in-Some.next c.in-Stops.stop stops)
