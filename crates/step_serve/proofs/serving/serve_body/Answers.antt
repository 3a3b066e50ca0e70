use Rattle.std.proofs.Common.{◌≡◌, ℕ, ℤ, List, [], ◌∷◌, Option, None, Bool, w32, sym, subst}
use Rattle.std.specs.Prelude.{option_map, FitsSigned}
use Rattle.std.proofs.Common.{rules}
use Rattle.std.proofs.lemmas.Int.{to_z-of_z}
use Rattle.machine_state.specs.Bodies.{load, store}
use Rattle.machine_state.specs.Changes.{Becomes}
use Rattle.machine_state.specs.Deeds.{changing}
use Rattle.machine_state.specs.Locks.{enter}
use Rattle.machine_state.specs.Requests.{Body, Lock, Class, Threads, Console, OfLock, OfClass, OfConsole, key_of}
use Rattle.machine_state.specs.Serve.{serve, begins, by_runner, joins}
use Rattle.machine_state.specs.State.{waiters_of}
use Rattle.machine_state.specs.declared.request.Request.{Request}
use Rattle.machine_state.specs.declared.state.ClassState.TheVariants as class_state
use Rattle.step_serve.specs.Cells.{IsBodyOf, IsEnded, lent_body, wish_thread}
use Rattle.step_serve.specs.Telling.{TellsOf, TellsSome}
use Rattle.step_serve.proofs.Addressed.{ok_on}
use Rattle.step_serve.proofs.serving.serve_body.Goals as goal

pub returns-in-Get : goal.returns-in-Get
unfolding serve
returns-in-Get g c =
    subst (λ (r : Request). IsBodyOf (g.N.Names.heap c.args.server.now.names.now) r (option_map lent_body c.args.body) → TellsOf (g.N.Names.heap c.args.server.now.names.now) c.args.server.now.wish (λ ch. serve c.args.server.now.image.now (wish_thread c.args.server.now.wish) ch r (Body (option_map lent_body c.args.body))) c.get.result) (sym c.in-Get.is)
    (λ _. c.get.ensures (g.N.Names.heap c.args.server.now.names.now) c.in-Get.field-0)

pub returns-in-Put : goal.returns-in-Put
unfolding serve
returns-in-Put g c =
    subst (λ (r : Request). IsBodyOf (g.N.Names.heap c.args.server.now.names.now) r (option_map lent_body c.args.body) → TellsOf (g.N.Names.heap c.args.server.now.names.now) c.args.server.now.wish (λ ch. serve c.args.server.now.image.now (wish_thread c.args.server.now.wish) ch r (Body (option_map lent_body c.args.body))) c.put.result) (sym c.in-Put.is)
    (λ _. c.put.ensures (g.N.Names.heap c.args.server.now.names.now))

pub returns-in-Load : goal.returns-in-Load
unfolding serve
returns-in-Load g c =
    let fits : FitsSigned w32 c.in-Load.index = search rules in
    ok_on c.load.result
    (λ served told. subst (λ (r : Request). IsBodyOf (g.N.Names.heap c.args.server.now.names.now) r (option_map lent_body c.args.body) → TellsOf (g.N.Names.heap c.args.server.now.names.now) c.args.server.now.wish (λ ch. serve c.args.server.now.image.now (wish_thread c.args.server.now.wish) ch r (Body (option_map lent_body c.args.body))) served) (sym c.in-Load.is) (λ _.
    subst (λ (z : ℤ). TellsOf (g.N.Names.heap c.args.server.now.names.now) c.args.server.now.wish (λ ch. load c.args.server.now.image.now ch.name c.in-Load.field-0 z (option_map lent_body c.args.body)) served) (to_z-of_z w32 c.in-Load.index fits) (told c.in-Load.field-0)))
    c.load.ensures

pub returns-in-Store : goal.returns-in-Store
unfolding serve
returns-in-Store g c =
    let fits : FitsSigned w32 c.in-Store.index = search rules in
    ok_on c.store.result
    (λ served told. subst (λ (r : Request). IsBodyOf (g.N.Names.heap c.args.server.now.names.now) r (option_map lent_body c.args.body) → TellsOf (g.N.Names.heap c.args.server.now.names.now) c.args.server.now.wish (λ ch. serve c.args.server.now.image.now (wish_thread c.args.server.now.wish) ch r (Body (option_map lent_body c.args.body))) served) (sym c.in-Store.is) (λ _.
    subst (λ (z : ℤ). TellsOf (g.N.Names.heap c.args.server.now.names.now) c.args.server.now.wish (λ ch. store c.args.server.now.image.now ch.name c.in-Store.name z c.in-Store.value (option_map lent_body c.args.body)) served) (to_z-of_z w32 c.in-Store.index fits) told))
    c.store.ensures

pub returns-in-Len : goal.returns-in-Len
unfolding serve
returns-in-Len g c =
    subst (λ (r : Request). IsBodyOf (g.N.Names.heap c.args.server.now.names.now) r (option_map lent_body c.args.body) → TellsOf (g.N.Names.heap c.args.server.now.names.now) c.args.server.now.wish (λ ch. serve c.args.server.now.image.now (wish_thread c.args.server.now.wish) ch r (Body (option_map lent_body c.args.body))) c.len.result) (sym c.in-Len.is)
    (λ _. c.len.ensures (g.N.Names.heap c.args.server.now.names.now))
