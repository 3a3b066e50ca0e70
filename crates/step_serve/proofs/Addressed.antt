-- What is lent is what a request addresses, so what is told of it is what is served.
use Rattle.std.proofs.Common.{◌≡◌, ℕ, Bool, true, List, Option, Some, None, refl, sym, ap, ◌∙◌}
use Rattle.std.specs.Prelude.{option_map, Result, Ok, Err, IfOk}
use Rattle.jvm_base.specs.declared.name.Name.{Name}
use Rattle.machine_state.specs.Deeds.{Deed}
use Rattle.machine_state.specs.Requests.{Key, Nowhere, OfBody, OfLock, OfClass, OfThreads, OfConsole, NoCell, Body, Lock, Class, Threads, Console, key_of, cell}
use Rattle.machine_state.specs.Serve.{name_fits}
use Rattle.machine_state.specs.Serving.{IsServed, IsServing, changes_of}
use Rattle.machine_state.specs.State.{State, Heap, body_at, waiters_of}
use Rattle.machine_state.specs.declared.request.Request.{Request}
use Rattle.machine_state.specs.declared.request.Request.TheVariants.{Buffer}
use Rattle.machine_state.specs.declared.served.Served.{Served}
use Rattle.machine_state.specs.declared.served.Wish.{Wish}
use Rattle.machine_state.specs.declared.state.Choice.{Choice}
use Rattle.jvm_base.specs.declared.value.ObjectBody.{ObjectBody}
use Rattle.machine_state.specs.declared.state.ClassState.{ClassState}
use Rattle.machine_state.specs.declared.state.MonitorState.{MonitorState}
use Rattle.machine_state.specs.declared.state.Waiter.{Waiter}
use Rattle.std.proofs.Common.{Bor}
use Rattle.step_serve.specs.declared.cell.BodyRef.{BodyRef}
use Rattle.step_serve.specs.Cells.{IsAt, IsBodyOf, IsEnded, ends_of, lent_body}
use Rattle.step_serve.specs.Telling.{Tells, TellsOf, TellsSome}
use Rattle.step_serve.specs.declared.cell.Cell.{Cell}
use Rattle.step_serve.specs.declared.cell.Cell.TheVariants as lent

-- what follows from an answer
pub ok_on : {A E : Type 0} {P Q : A → Type 0} (r : Result A E) → ((a : A) → P a → Q a) → IfOk r P → IfOk r Q
ok_on (Ok a) f h = f a h
ok_on (Err e) f h = tt

-- ---- what is told, of a machine with the heap

served_in : (m : State) (heap : Heap) (w : Wish) (d : Deed) (s : Served) → m.heap ≡ heap → Tells heap w d s → IsServed m w d s
served_in m heap w d s e h = record {
  choice = h.choice;
  pick = h.pick;
  name = h.name ∙ ap (λ (x : Heap). name_fits x s.choice.name d.makes) (sym e);
  changes = λ fits. ap (λ (x : Heap). changes_of x s.effects) e ∙ h.changes fits;
  answer = h.answer;
}

some_in : (m : State) (heap : Heap) (w : Wish) (s : Served) (o p : Option Deed) → m.heap ≡ heap → p ≡ o → TellsSome heap w o s → (d : Deed) × (p ≡ Some d) × IsServed m w d s
some_in m heap w s None p e is h = absurd h
some_in m heap w s (Some d) p e is h = (d, is, served_in m heap w d s e h)

pub serving_in : (m : State) (heap : Heap) (w : Wish) (deed : Choice → Option Deed) (served : Option Served) → m.heap ≡ heap → TellsOf heap w deed served → IsServing m w deed served
serving_in m heap w deed None e h = h
serving_in m heap w deed (Some s) e h = some_in m heap w s (deed s.choice) (deed s.choice) e refl h

-- ---- by what is lent

pub at_nowhere : (m : State) (r : Request) (k : Key) → IsAt m r k lent.Nowhere → (k ≡ Nowhere) × (cell m k ≡ NoCell)
at_nowhere m r Nowhere h = (refl, refl)
at_nowhere m r (OfBody n) h = absurd h
at_nowhere m r (OfLock n) h = absurd h
at_nowhere m r (OfClass j) h = absurd h
at_nowhere m r OfThreads h = absurd h
at_nowhere m r OfConsole h = absurd h

pub at_body : (m : State) (r : Request) (b : Option BodyRef) (k : Key) → IsAt m r k (lent.Body b) → cell m k ≡ Body (option_map lent_body b)
at_body m r b Nowhere h = absurd h
at_body m r b (OfBody n) h = ap (λ (x : Option ObjectBody). Body x) (sym h)
at_body m r b (OfLock n) h = absurd h
at_body m r b (OfClass j) h = absurd h
at_body m r b OfThreads h = absurd h
at_body m r b OfConsole h = absurd h

pub body_of : (m : State) (heap : Heap) (r : Request) (b : Option BodyRef) → m.heap ≡ heap → IsAt m r (key_of r) (lent.Body b) → IsBodyOf heap r (option_map lent_body b)
body_of m heap (Buffer n k us) b e h = ap (λ (x : Heap). body_at x n) (sym e) ∙ sym h
body_of m heap _ b e h = tt

pub at_lock : (m : State) (r : Request) (o : Option MonitorState) (ws : Bor (List Waiter)) (k : Key) → IsAt m r k (lent.Lock o ws) → (n : Name) × (k ≡ OfLock n) × (cell m k ≡ Lock o (waiters_of n ws.now))
at_lock m r o ws Nowhere h = absurd h
at_lock m r o ws (OfBody n) h = absurd h
at_lock m r o ws (OfLock n) h = (n, refl, ap (λ (x : Option MonitorState). Lock x (waiters_of n m.waiting)) (sym h.0) ∙ ap (λ (x : List ℕ). Lock o x) (sym h.1))
at_lock m r o ws (OfClass j) h = absurd h
at_lock m r o ws OfThreads h = absurd h
at_lock m r o ws OfConsole h = absurd h

pub at_class : (m : State) (r : Request) (s : Option ClassState) (k : Key) → IsAt m r k (lent.Class s) → (j : ℕ) × (k ≡ OfClass j) × (cell m k ≡ Class s)
at_class m r s Nowhere h = absurd h
at_class m r s (OfBody n) h = absurd h
at_class m r s (OfLock n) h = absurd h
at_class m r s (OfClass j) h = (j, refl, ap (λ (x : Option ClassState). Class x) (sym h))
at_class m r s OfThreads h = absurd h
at_class m r s OfConsole h = absurd h

pub at_thread : (m : State) (r : Request) (ended : Option Bool) (k : Key) → IsAt m r k (lent.Thread ended) → IsEnded (ends_of m) r ended × (cell m k ≡ Threads (ends_of m) m.uncaught)
at_thread m r ended Nowhere h = absurd h
at_thread m r ended (OfBody n) h = absurd h
at_thread m r ended (OfLock n) h = absurd h
at_thread m r ended (OfClass j) h = absurd h
at_thread m r ended OfThreads h = (h, refl)
at_thread m r ended OfConsole h = absurd h

pub at_console : (m : State) (r : Request) (k : Key) → IsAt m r k lent.Console → (k ≡ OfConsole) × (cell m k ≡ Console m.output)
at_console m r Nowhere h = absurd h
at_console m r (OfBody n) h = absurd h
at_console m r (OfLock n) h = absurd h
at_console m r (OfClass j) h = absurd h
at_console m r OfThreads h = absurd h
at_console m r OfConsole h = (refl, refl)
