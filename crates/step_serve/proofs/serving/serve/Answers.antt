use Rattle.std.proofs.Common.{◌≡◌, ℕ, List, Option, Bool, sym, ap, subst}
use Rattle.std.specs.Prelude.{option_map}
use Rattle.machine_state.specs.Requests.{Cell, NoCell, Body, Lock, Class, Threads, Console, key_of, cell}
use Rattle.machine_state.specs.Serve.{serve}
use Rattle.machine_state.specs.State.{waiters_of}
use Rattle.step_serve.specs.Cells.{IsCell, IsAt, ends_of, lent_body, wish_thread}
use Rattle.step_serve.specs.Telling.{TellsOf}
use Rattle.step_serve.specs.declared.cell.Cell.{Cell as Lent}
use Rattle.step_serve.specs.declared.cell.Cell.TheVariants as lent
use Rattle.step_serve.proofs.Addressed.{ok_on, serving_in, at_nowhere, at_body, body_of, at_lock, at_class, at_thread, at_console}
use Rattle.step_serve.proofs.serving.serve.Goals as goal

pub returns-in-Nowhere : goal.returns-in-Nowhere
returns-in-Nowhere g c =
    ok_on c.serve_making.result
    (λ served told m e at.
    let at' = (subst (λ (x : Lent). IsCell m c.args.request x) c.in-Nowhere.is at) in
    let here = at_nowhere m c.args.request (key_of c.args.request) at' in
    serving_in m (g.N.Names.heap c.args.server.now.names.now) c.args.server.now.wish (λ ch. serve c.args.server.now.image.now (wish_thread c.args.server.now.wish) ch c.args.request (cell m (key_of c.args.request))) served e
    (subst (λ (x : Cell). TellsOf (g.N.Names.heap c.args.server.now.names.now) c.args.server.now.wish (λ ch. serve c.args.server.now.image.now (wish_thread c.args.server.now.wish) ch c.args.request x) served) (sym (here.1)) (told here.0)))
    c.serve_making.ensures

pub returns-in-Body : goal.returns-in-Body
returns-in-Body g c =
    ok_on c.serve_body.result
    (λ served told m e at.
    let at' = (subst (λ (x : Lent). IsCell m c.args.request x) c.in-Body.is at) in
    let here = at_body m c.args.request c.in-Body.body (key_of c.args.request) at' in
    serving_in m (g.N.Names.heap c.args.server.now.names.now) c.args.server.now.wish (λ ch. serve c.args.server.now.image.now (wish_thread c.args.server.now.wish) ch c.args.request (cell m (key_of c.args.request))) served e
    (subst (λ (x : Cell). TellsOf (g.N.Names.heap c.args.server.now.names.now) c.args.server.now.wish (λ ch. serve c.args.server.now.image.now (wish_thread c.args.server.now.wish) ch c.args.request x) served) (sym (here)) (told (body_of m (g.N.Names.heap c.args.server.now.names.now) c.args.request c.in-Body.body e at'))))
    c.serve_body.ensures

pub returns-in-Lock : goal.returns-in-Lock
returns-in-Lock g c =
    ok_on c.serve_lock.result
    (λ served told m e at.
    let at' = (subst (λ (x : Lent). IsCell m c.args.request x) c.in-Lock.is at) in
    let here = at_lock m c.args.request c.in-Lock.owner c.in-Lock.waiting (key_of c.args.request) at' in
    serving_in m (g.N.Names.heap c.args.server.now.names.now) c.args.server.now.wish (λ ch. serve c.args.server.now.image.now (wish_thread c.args.server.now.wish) ch c.args.request (cell m (key_of c.args.request))) served e
    (subst (λ (x : Cell). TellsOf (g.N.Names.heap c.args.server.now.names.now) c.args.server.now.wish (λ ch. serve c.args.server.now.image.now (wish_thread c.args.server.now.wish) ch c.args.request x) served) (sym (here.2)) (told here.0 here.1)))
    c.serve_lock.ensures

pub returns-in-Class : goal.returns-in-Class
returns-in-Class g c =
    ok_on c.serve_class.result
    (λ served told m e at.
    let at' = (subst (λ (x : Lent). IsCell m c.args.request x) c.in-Class.is at) in
    let here = at_class m c.args.request c.in-Class.state (key_of c.args.request) at' in
    serving_in m (g.N.Names.heap c.args.server.now.names.now) c.args.server.now.wish (λ ch. serve c.args.server.now.image.now (wish_thread c.args.server.now.wish) ch c.args.request (cell m (key_of c.args.request))) served e
    (subst (λ (x : Cell). TellsOf (g.N.Names.heap c.args.server.now.names.now) c.args.server.now.wish (λ ch. serve c.args.server.now.image.now (wish_thread c.args.server.now.wish) ch c.args.request x) served) (sym (here.2)) (told here.0 here.1)))
    c.serve_class.ensures

pub returns-in-Thread : goal.returns-in-Thread
returns-in-Thread g c =
    ok_on c.serve_thread.result
    (λ served told m e at.
    let at' = (subst (λ (x : Lent). IsCell m c.args.request x) c.in-Thread.is at) in
    let here = at_thread m c.args.request c.in-Thread.ended (key_of c.args.request) at' in
    serving_in m (g.N.Names.heap c.args.server.now.names.now) c.args.server.now.wish (λ ch. serve c.args.server.now.image.now (wish_thread c.args.server.now.wish) ch c.args.request (cell m (key_of c.args.request))) served e
    (subst (λ (x : Cell). TellsOf (g.N.Names.heap c.args.server.now.names.now) c.args.server.now.wish (λ ch. serve c.args.server.now.image.now (wish_thread c.args.server.now.wish) ch c.args.request x) served) (sym (here.1)) (told (ends_of m) m.uncaught here.0)))
    c.serve_thread.ensures

pub returns-in-Console : goal.returns-in-Console
returns-in-Console g c =
    ok_on c.serve_console.result
    (λ served told m e at.
    let at' = (subst (λ (x : Lent). IsCell m c.args.request x) c.in-Console.is at) in
    let here = at_console m c.args.request (key_of c.args.request) at' in
    serving_in m (g.N.Names.heap c.args.server.now.names.now) c.args.server.now.wish (λ ch. serve c.args.server.now.image.now (wish_thread c.args.server.now.wish) ch c.args.request (cell m (key_of c.args.request))) served e
    (subst (λ (x : Cell). TellsOf (g.N.Names.heap c.args.server.now.names.now) c.args.server.now.wish (λ ch. serve c.args.server.now.image.now (wish_thread c.args.server.now.wish) ch c.args.request x) served) (sym (here.1)) (told m.output here.0)))
    c.serve_console.ensures
