use Rattle.std.proofs.Common.{◌≡◌, ℕ, ℤ, List, [], ◌∷◌, Option, None, Bool, w32, sym, subst}
use Rattle.std.specs.Prelude.{option_map, FitsSigned}
use Rattle.std.proofs.Common.{rules}
use Rattle.std.proofs.lemmas.Int.{to_z-of_z}
use Rattle.machine_state.specs.Bodies.{load, store}
use Rattle.machine_state.specs.Changes.{Becomes}
use Rattle.machine_state.specs.Deeds.{changing}
use Rattle.machine_state.specs.Locks.{enter}
use Rattle.machine_state.specs.Requests.{Body, Lock, Class, Threads, Console, OfLock, OfClass, OfConsole, key_of}
use Rattle.machine_state.specs.Serve.{serve, begins, by_runner, joins}
use Rattle.machine_state.specs.State.{waiters_of}
use Rattle.machine_state.specs.declared.request.Request.{Request}
use Rattle.machine_state.specs.declared.state.ClassState.TheVariants as class_state
use Rattle.step_serve.specs.Cells.{IsBodyOf, IsEnded, lent_body, wish_thread}
use Rattle.step_serve.specs.Telling.{TellsOf, TellsSome}
use Rattle.step_serve.proofs.Addressed.{ok_on}
use Rattle.step_serve.proofs.serving.serve_class.Goals as goal

pub returns-in-Begin : goal.returns-in-Begin
unfolding serve
returns-in-Begin g c =
    λ k _. subst (λ (r : Request). TellsOf (g.N.Names.heap c.args.server.now.names.now) c.args.server.now.wish (λ ch. serve c.args.server.now.image.now (wish_thread c.args.server.now.wish) ch r (Class c.args.state)) c.begin.result) (sym c.in-Begin.is)
    (subst (λ (u : ℕ). TellsOf (g.N.Names.heap c.args.server.now.names.now) c.args.server.now.wish (λ ch. begins u c.in-Begin.class c.args.state) c.begin.result) c.thread_of-thread.ensures (c.begin.ensures (g.N.Names.heap c.args.server.now.names.now)))

pub returns-in-InitDone : goal.returns-in-InitDone
unfolding serve
returns-in-InitDone g c =
    λ k _. subst (λ (r : Request). TellsOf (g.N.Names.heap c.args.server.now.names.now) c.args.server.now.wish (λ ch. serve c.args.server.now.image.now (wish_thread c.args.server.now.wish) ch r (Class c.args.state)) c.finish.result) (sym c.in-InitDone.is)
    (subst (λ (u : ℕ). TellsOf (g.N.Names.heap c.args.server.now.names.now) c.args.server.now.wish (λ ch. by_runner u c.args.state (changing (Becomes c.in-InitDone.class class_state.Done ∷ []) None)) c.finish.result) c.thread_of-thread.ensures (c.finish.ensures (g.N.Names.heap c.args.server.now.names.now)))
