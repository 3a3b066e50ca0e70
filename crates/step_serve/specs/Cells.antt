-- What is lent is what a request addresses.
use Rattle.std.specs.Prelude.{◌≡◌, ℕ, Bool, List, Option, map, option_map, slice_get}
use Rattle.jvm_base.specs.declared.name.Name.{Name}
use Rattle.jvm_base.specs.declared.value.ObjectBody.{ObjectBody}
use Rattle.jvm_base.specs.declared.value.ObjectBody.TheVariants.{Fields, Array, Text}
use Rattle.machine_state.specs.declared.request.Request.{Request}
use Rattle.machine_state.specs.declared.request.Request.TheVariants.{Start, Join, Buffer}
use Rattle.machine_state.specs.declared.served.Wish.{Wish}
use Rattle.machine_state.specs.declared.served.Wish.TheVariants as wish
use Rattle.machine_state.specs.Requests.{Key, Nowhere, OfBody, OfLock, OfClass, OfThreads, OfConsole, key_of}
use Rattle.machine_state.specs.Serve.{thread_of}
use Rattle.machine_state.specs.State.{State, Heap, body_at, owner_at, waiters_of, is_ended}
use Rattle.step_serve.specs.declared.cell.BodyRef.{BodyRef}
use Rattle.step_serve.specs.declared.cell.BodyRef.TheVariants as lent
use Rattle.step_serve.specs.declared.cell.Cell.{Cell}
use Rattle.step_serve.specs.declared.cell.Cell.TheVariants as cell

-- the body that is lent
abbrev pub lent_body : BodyRef → ObjectBody
lent_body (lent.Fields vs) = Fields vs.now
lent_body (lent.Array vs) = Array vs.now
lent_body (lent.Text us) = Text us.now

-- a body is the one that a buffer's request addresses
abbrev pub IsBodyOf : Heap → Request → Option ObjectBody → Type 0
IsBodyOf heap (Buffer n k us) b = body_at heap n ≡ b
IsBodyOf heap _ b = Unit {0}

-- an end is that of the thread that is asked for
abbrev pub IsEnded : List (Name × Bool) → Request → Option Bool → Type 0
IsEnded ts (Start n) ended = ended ≡ thread_of n ts
IsEnded ts (Join n) ended = ended ≡ thread_of n ts
IsEnded ts _ ended = Unit {0}

-- the Thread objects, with whether their threads have ended
abbrev pub ends_of : State → List (Name × Bool)
ends_of m = map (λ t. (t.object, is_ended t.mode)) m.threads

-- what is lent lies at the key, of a request
abbrev pub IsAt : State → Request → Key → Cell → Type 0
IsAt m r Nowhere cell.Nowhere = Unit {0}
IsAt m r (OfBody n) (cell.Body b) = option_map lent_body b ≡ body_at m.heap n
IsAt m r (OfLock n) (cell.Lock o ws) =
    (o ≡ owner_at m.monitors n) × (waiters_of n ws.now ≡ waiters_of n m.waiting)
IsAt m r (OfClass k) (cell.Class s) = s ≡ slice_get m.classes k
IsAt m r OfThreads (cell.Thread ended) = IsEnded (ends_of m) r ended
IsAt m r OfConsole cell.Console = Unit {0}
IsAt m r _ _ = ⊥

-- it is what the request addresses
abbrev pub IsCell : State → Request → Cell → Type 0
IsCell m r c = IsAt m r (key_of r) c

-- the thread of a wish
abbrev pub wish_thread : Wish → ℕ
wish_thread (wish.Exactly c) = c.thread
wish_thread (wish.Fresh t node index) = t
