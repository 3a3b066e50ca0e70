use Rattle.std.proofs.Common.{◌≡◌, None, Some, ap, ◌∙◌, subst}
use Rattle.machine_state.specs.Reasons.{reason}
use Rattle.machine_state.specs.declared.served.Wish.TheVariants.{Exactly}
use Rattle.one_machine.specs.Going.{IsWent}
use Rattle.one_machine.specs.Ready.{Machine}
use Rattle.one_machine.specs.declared.taking.Went.{Went}
use Rattle.one_machine.proofs.Founds.{exact_reason, same_machine}
use Rattle.one_machine.proofs.machine.Machine.step.Goals as goal

pub returns-in-Ok-Refused-clause-refused : goal.returns-in-Ok-Refused-clause-refused
returns-in-Ok-Refused-clause-refused c =
    let p = c.args.image.now in
    let m = c.step_in_place.new.self.state in
    let same = c.step_in_place.ensures.kept c.if-step_in_place.false in
    let came = subst (λ (x : Went). IsWent p m (Exactly c.args.choice) None x c.take.new.self.state) c.in-Ok-Refused.field-0-is c.in-Ok-Refused.ensures.went in
    subst (λ (a : Machine). reason p a.state c.args.choice ≡ Some c.in-Ok-Refused.reason) same
    (exact_reason p m c.args.choice c.in-Ok-Refused.reason came.0)

pub returns-in-Ok-Refused-clause-err : goal.returns-in-Ok-Refused-clause-err
returns-in-Ok-Refused-clause-err c =
    let p = c.args.image.now in
    let m = c.step_in_place.new.self.state in
    let same = c.step_in_place.ensures.kept c.if-step_in_place.false in
    let came = subst (λ (x : Went). IsWent p m (Exactly c.args.choice) None x c.take.new.self.state) c.in-Ok-Refused.field-0-is c.in-Ok-Refused.ensures.went in
    same_machine c.take.new.self c.args.self.now (came.1 ∙ ap (λ (a : Machine). a.state) same)
    (c.take.ensures.tables ∙ ap (λ (a : Machine). a.tables) same) (c.take.ensures.blanks ∙ ap (λ (a : Machine). a.blanks) same)
