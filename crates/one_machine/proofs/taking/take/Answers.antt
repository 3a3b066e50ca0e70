use Rattle.std.proofs.Common.{List, subst}
use Rattle.std.specs.Prelude.{Result}
use Rattle.shared_state.specs.Parts.{state_of}
use Rattle.shared_state.specs.declared.thread.Thread.{Thread}
use Rattle.step_attempt.specs.declared.going.Going.{Going}
use Rattle.one_machine.specs.Found.{FoundStep, IsFound}
use Rattle.one_machine.specs.declared.taking.Went.{Went}
use Rattle.one_machine.proofs.Founds.{can_go, went_on}
use Rattle.one_machine.proofs.taking.take.Goals as goal

pub perform-requires-clause-can : goal.perform-requires-clause-can
perform-requires-clause-can c =
    let p = c.args.image.now in
    let here = subst (λ (r : Result Going Went). IsFound p (state_of c.args.shared.now c.deref.result.now) c.args.wish c.args.most r) c.in-Ok.is c.in_ok-went.ensures in
    let f = subst (λ (ts : List Thread). FoundStep p (state_of c.args.shared.now ts) c.args.wish c.args.most c.in-Ok.going) c.deref.ensures.value here in
    λ th e. can_go p c.args.shared.now c.args.threads.now.items c.args.wish c.args.most c.in-Ok.going c.requires.ready.types c.requires.ready.accepted c.requires.ready.sound f c.thread_in-at.result c.thread_in-at.ensures th e

pub returns-clause-went : goal.returns-clause-went
returns-clause-went c =
    let p = c.args.image.now in
    let here = subst (λ (r : Result Going Went). IsFound p (state_of c.args.shared.now c.deref.result.now) c.args.wish c.args.most r) c.in-Ok.is c.in_ok-went.ensures in
    let f = subst (λ (ts : List Thread). FoundStep p (state_of c.args.shared.now ts) c.args.wish c.args.most c.in-Ok.going) c.deref.ensures.value here in
    went_on p (state_of c.args.shared.now c.args.threads.now.items) c.args.wish c.args.most c.in-Ok.going f c.made.result (state_of c.perform.new.shared c.perform.new.threads.items) c.made.ensures c.thread_in-at.result c.thread_in-at.ensures c.in_ok-perform.ensures.ok
