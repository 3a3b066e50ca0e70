use Rattle.std.proofs.Common.{◌≡◌, ℕ, Bool, true, false, Option, Some, None, sym, ap, subst, ◌∙◌}
use Rattle.std.specs.Prelude.{if◌then◌else◌}
use Rattle.machine_state.specs.Runs.{end_of, some_can}
use Rattle.machine_state.specs.declared.state.End.TheVariants.{AllEnded, Dead, Going}
use Rattle.one_machine.specs.Ready.{IsAble}
use Rattle.one_machine.proofs.Ables.{some_of}
use Rattle.one_machine.proofs.machine.Machine.end_of.Goals as goal

pub returns-then-all_ended : goal.returns-then-all_ended
unfolding end_of
returns-then-all_ended c =
    sym (ap (λ b. if b then AllEnded else (if some_can c.args.image.now c.args.self.now.state 0 c.args.self.now.state.threads then Going else Dead)) (sym c.all_ended.ensures ∙ c.if-all_ended.true))

pub returns-in-Some : goal.returns-in-Some
unfolding end_of
returns-in-Some c =
    let m = c.args.self.now.state in
    let one = subst (λ (o : Option ℕ). IsAble c.args.image.now m 0 o) c.in-Some.is c.in_ok-next_able.ensures.able in
    sym (ap (λ b. if b then AllEnded else (if some_can c.args.image.now m 0 m.threads then Going else Dead)) (sym c.all_ended.ensures ∙ c.if-all_ended.false)
    ∙ ap (λ b. if b then Going else Dead) (some_of c.args.image.now m c.in-Some.field-0 one.0 one.1 one.2))

pub returns-in-None : goal.returns-in-None
unfolding end_of
returns-in-None c =
    let m = c.args.self.now.state in
    sym (ap (λ b. if b then AllEnded else (if some_can c.args.image.now m 0 m.threads then Going else Dead)) (sym c.all_ended.ensures ∙ c.if-all_ended.false)
    ∙ ap (λ b. if b then Going else Dead) (subst (λ (o : Option ℕ). IsAble c.args.image.now m 0 o) c.in-None.is c.in_ok-next_able.ensures.able))
