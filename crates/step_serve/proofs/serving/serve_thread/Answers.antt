use Rattle.std.proofs.Common.{◌≡◌, ℕ, ℤ, List, [], ◌∷◌, Option, None, Bool, w32, sym, subst}
use Rattle.std.specs.Prelude.{option_map, FitsSigned}
use Rattle.std.proofs.Common.{rules}
use Rattle.std.proofs.lemmas.Int.{to_z-of_z}
use Rattle.machine_state.specs.Bodies.{load, store}
use Rattle.machine_state.specs.Changes.{Becomes}
use Rattle.machine_state.specs.Deeds.{changing}
use Rattle.machine_state.specs.Locks.{enter}
use Rattle.machine_state.specs.Requests.{Body, Lock, Class, Threads, Console, OfLock, OfClass, OfConsole, key_of}
use Rattle.machine_state.specs.Serve.{serve, begins, by_runner, joins}
use Rattle.machine_state.specs.State.{waiters_of}
use Rattle.machine_state.specs.declared.request.Request.{Request}
use Rattle.machine_state.specs.declared.state.ClassState.TheVariants as class_state
use Rattle.step_serve.specs.Cells.{IsBodyOf, IsEnded, lent_body, wish_thread}
use Rattle.step_serve.specs.Telling.{TellsOf, TellsSome}
use Rattle.step_serve.proofs.Addressed.{ok_on}
use Rattle.step_serve.proofs.serving.serve_thread.Goals as goal

pub returns-in-Join : goal.returns-in-Join
unfolding serve
returns-in-Join g c =
    λ ts us at. subst (λ (r : Request). IsEnded ts r c.args.ended → TellsOf (g.N.Names.heap c.args.server.now.names.now) c.args.server.now.wish (λ ch. serve c.args.server.now.image.now (wish_thread c.args.server.now.wish) ch r (Threads ts us)) c.join.result) (sym c.in-Join.is)
    (λ e. subst (λ (o : Option Bool). TellsOf (g.N.Names.heap c.args.server.now.names.now) c.args.server.now.wish (λ ch. joins o) c.join.result) e (c.join.ensures (g.N.Names.heap c.args.server.now.names.now))) at
