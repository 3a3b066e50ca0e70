use Rattle.std.proofs.Common.{◌≡◌, ℕ, ℤ, List, [], ◌∷◌, Option, None, Bool, w32, sym, subst}
use Rattle.std.specs.Prelude.{option_map, FitsSigned}
use Rattle.std.proofs.Common.{rules}
use Rattle.std.proofs.lemmas.Int.{to_z-of_z}
use Rattle.machine_state.specs.Bodies.{load, store}
use Rattle.machine_state.specs.Changes.{Printed}
use Rattle.machine_state.specs.Deeds.{changing}
use Rattle.machine_state.specs.Locks.{enter}
use Rattle.machine_state.specs.Requests.{Body, Lock, Class, Threads, Console, OfLock, OfClass, OfConsole, key_of}
use Rattle.machine_state.specs.Serve.{serve, printed}
use Rattle.machine_state.specs.State.{waiters_of}
use Rattle.machine_state.specs.declared.request.Request.{Request}
use Rattle.machine_state.specs.declared.state.ClassState.TheVariants as class_state
use Rattle.step_serve.specs.Cells.{IsBodyOf, IsEnded, lent_body, wish_thread}
use Rattle.step_serve.specs.Telling.{Tells, TellsSome}
use Rattle.step_serve.proofs.Addressed.{ok_on}
use Rattle.step_serve.proofs.serving.serve_console.Goals as goal

pub returns-in_ok-print-in-Print : goal.returns-in_ok-print-in-Print
unfolding serve
returns-in_ok-print-in-Print g c =
    λ bytes _. subst (λ (r : Request). TellsSome (g.N.Names.heap c.args.server.now.names.now) c.args.server.now.wish (serve c.args.server.now.image.now (wish_thread c.args.server.now.wish) c.in_ok-print-in-Print.field-0.choice r (Console bytes)) c.in_ok-print-in-Print.field-0) (sym c.in-Print.is)
    (subst (λ (us : List ℕ). Tells (g.N.Names.heap c.args.server.now.names.now) c.args.server.now.wish (changing (Printed (printed us) ∷ []) None) c.in_ok-print-in-Print.field-0)
    c.as_slice.ensures (c.in_ok-print-in-Print.ensures (g.N.Names.heap c.args.server.now.names.now)))
