-- A step leads on; where none is taken the replay stays as it is.
use Rattle.std.proofs.Common.{◌∙◌, ap, subst}
use Rattle.machine_state.specs.Step.{step}
use Rattle.one_machine.specs.Ready.{Machine}
use Rattle.order_replay.specs.Replaying.{Replay, TakesOn}
use Rattle.order_replay.proofs.Taking.{refused_none, takes_none, takes_step}
use Rattle.order_replay.proofs.replay.Replay.step.Goals as goal

pub returns-in_err-ending_of-clause-later : goal.returns-in_err-ending_of-clause-later
returns-in_err-ending_of-clause-later c =
    takes_none c.args.image.now c.args.order.now _ _ (ap (λ (a : Replay). a.machine.state) c.self.view_is)
    (ap (λ (a : Replay). a.taken) c.self.view_is) c.requires.few

pub returns-in_default-clause-later : goal.returns-in_default-clause-later
returns-in_default-clause-later c =
    takes_none c.args.image.now c.args.order.now _ _ (ap (λ (a : Replay). a.machine.state) c.self.view_is)
    (ap (λ (a : Replay). a.taken) c.self.view_is) c.requires.few

pub returns-in-Ok-clause-later : goal.returns-in-Ok-clause-later
returns-in-Ok-clause-later c =
    let before : Replay =
    record { machine = c.self.inside.machine; taken = c.self.inside.taken } in
    let now : Replay = record { machine = c.step.new.self; taken = c.in-Some.step } in
    subst (λ (a : Replay). TakesOn c.args.image.now c.args.order.now a now) c.self.view_is
    (takes_step c.args.image.now c.args.order.now before now c.in-Some.choice c.in-Some.ensures.1
    c.in-Ok.ensures.ok c.in-Some.ensures.0)

pub returns-in-Err-NotEnabled-clause-later : goal.returns-in-Err-NotEnabled-clause-later
returns-in-Err-NotEnabled-clause-later c =
    takes_none c.args.image.now c.args.order.now _ _
    (ap (λ (m : Machine). m.state) c.in-Err-NotEnabled.ensures.err
    ∙ ap (λ (a : Replay). a.machine.state) c.self.view_is)
    (ap (λ (a : Replay). a.taken) c.self.view_is) c.requires.few

pub returns-in-Err-NotEnabled-clause-turn : goal.returns-in-Err-NotEnabled-clause-turn
returns-in-Err-NotEnabled-clause-turn c =
    let against = rw c.in-Err-NotEnabled.field-0-is at c.in-Err-NotEnabled.ensures.refused in
    record {
      number = c.in-Some.ensures.0;
      choice = c.in-Some.choice;
      next = c.in-Some.ensures.1;
      refused =
          ap (λ (m : Machine). step c.args.image.now m.state c.in-Some.choice)
          c.in-Err-NotEnabled.ensures.err
          ∙ refused_none c.args.image.now c.self.inside.machine.state c.in-Some.choice
          c.in-Err-NotEnabled.field-0-0 against;
    }

pub returns-in-Err-NoMemory-clause-later : goal.returns-in-Err-NoMemory-clause-later
returns-in-Err-NoMemory-clause-later c =
    takes_none c.args.image.now c.args.order.now _ _
    (ap (λ (m : Machine). m.state) c.in-Err-NoMemory.ensures.err
    ∙ ap (λ (a : Replay). a.machine.state) c.self.view_is)
    (ap (λ (a : Replay). a.taken) c.self.view_is) c.requires.few
