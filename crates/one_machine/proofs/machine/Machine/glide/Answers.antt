use Rattle.std.proofs.Common.{map, sym, subst}
use Rattle.shared_state.specs.Parts.{state_of, thread_state}
use Rattle.one_machine.specs.Gliding.{Glides}
use Rattle.one_machine.specs.Ready.{Machine, IsReady}
use Rattle.one_machine.specs.contracts.machine.Machine.{the_view}
use Rattle.one_machine.proofs.GlideRuns.{always_plans, few_glided, glides, ready_glided}
use Rattle.one_machine.proofs.machine.Machine.glide.Goals as goal

pub glide-requires-clause-can : goal.glide-requires-clause-can
glide-requires-clause-can c =
    let p = c.args.image.now in
    let ready = subst (λ (m : Machine). IsReady p m) (sym c.self.view_is) c.requires in
    always_plans p ready.types ready.accepted c.args.thread (state_of c.self.inside.shared c.self.inside.threads.items) ready.sound

pub returns-clause-glides : goal.returns-clause-glides
returns-clause-glides c =
    let p = c.args.image.now in
    let ready = subst (λ (m : Machine). IsReady p m) (sym c.self.view_is) c.requires in
    let m = state_of c.self.inside.shared c.self.inside.threads.items in
    let next = state_of c.self.inside.shared c.glide.new.threads.items in
    subst (λ (a : Machine). Glides p a.state c.args.thread c.args.most c.args.limit c.glide.result next) c.self.view_is
    (glides p ready.types ready.accepted c.args.thread m c.args.most c.args.limit c.glide.result (map thread_state c.glide.new.threads.items) ready.sound c.glide.ensures)

pub returns-clause-ready : goal.returns-clause-ready
returns-clause-ready c =
    let p = c.args.image.now in
    let ready = subst (λ (m : Machine). IsReady p m) (sym c.self.view_is) c.requires in
    let m = state_of c.self.inside.shared c.self.inside.threads.items in
    ready_glided p (the_view c.self.inside) c.args.thread c.args.most c.args.limit c.glide.result _ ready
    (glides p ready.types ready.accepted c.args.thread m c.args.most c.args.limit c.glide.result (map thread_state c.glide.new.threads.items) ready.sound c.glide.ensures)

pub returns-clause-few : goal.returns-clause-few
returns-clause-few c =
    let m = state_of c.self.inside.shared c.self.inside.threads.items in
    few_glided c.args.image.now c.args.thread c.args.most c.args.limit c.glide.result m.threads (map thread_state c.glide.new.threads.items) _ c.glide.ensures
