-- How a request is served at its cell: its deed, or none where it isn't enabled.
use Rattle.std.specs.Prelude.{ℕ, ◌+◌, ◌^◌, Bool, true, false, ◌==◌, ◌&&◌, not, if◌then◌else◌, List, [], ◌∷◌, length, Option, Some, None, nat_le, is_none, flat_map, find}
use Rattle.jvm_base.specs.Names.{name_eq, named, no_name}
use Rattle.jvm_base.specs.Text.{unit_bytes}
use Rattle.jvm_base.specs.Words.{from}
use Rattle.jvm_base.specs.declared.name.Name.{Name}
use Rattle.hierarchy.specs.Walks.{has}
use Rattle.program_image.specs.Program.{Program}
use Rattle.machine_state.specs.declared.state.Choice.{Choice}
use Rattle.machine_state.specs.declared.state.ClassState.{ClassState}
use Rattle.machine_state.specs.declared.state.ClassState.TheVariants as class_state
use Rattle.machine_state.specs.BootClasses.{monitor_state, thread_state, initializer_error}
use Rattle.machine_state.specs.PreMade.{no_node}
use Rattle.machine_state.specs.State.{Heap, body_at}
use Rattle.machine_state.specs.declared.request.Request.{Request}
use Rattle.machine_state.specs.declared.request.Request.TheVariants.{Get, Put, Load, Store, Len, Make, MakeText, Fault, Enter, Exit, Wait, Notify, NotifyAll, Begin, InitDone, InitFail, Start, Join, Finish, Buffer, Print}
use Rattle.machine_state.specs.Requests.{Cell, NoCell, Body, Lock, Class, Threads, Console}
use Rattle.machine_state.specs.Changes.{Becomes, Started, Finished, Lost, Printed}
use Rattle.machine_state.specs.Deeds.{Deed, quiet, changing, with_change, faulted, making_text}
use Rattle.machine_state.specs.Making.{made_objects, making}
use Rattle.machine_state.specs.Bodies.{get, put, load, store, len, buffer}
use Rattle.machine_state.specs.Locks.{enter, by_owner, leaves, sleeps, notifies, notifies_all}

-- ---- classes

-- a class is begun once
abbrev pub begins : ℕ → ℕ → Option ClassState → Option Deed
begins t k (Some class_state.Untouched) =
    Some (changing (Becomes k (class_state.Running t) ∷ []) None)
begins t k s = None

-- and ended by the thread that began it
abbrev pub by_runner : ℕ → Option ClassState → Deed → Option Deed
by_runner t (Some (class_state.Running u)) d = if u == t then Some d else None
by_runner t s d = None

-- where its initialisation fails, a thread raises a new exception in place of one that is no Error
abbrev pub failing : Program → Name → Bool → Deed
failing p name true = faulted p name initializer_error
failing p name false = quiet None

-- and the class has failed
abbrev pub fails : Program → Name → ℕ → Bool → Deed
fails p name c made = with_change (Becomes c class_state.Failed) (failing p name made)

-- ---- threads

-- whether the thread of a Thread object has ended, where there is one
abbrev pub thread_of : Name → List (Name × Bool) → Option Bool
thread_of n ts = from None (λ t. Some t.1) (find (λ t. name_eq t.0 n) ts)

-- a Thread object is started once
abbrev pub starts : Program → Name → Name → Option Bool → Deed
starts p name n None = changing (Started n ∷ []) None
starts p name n (Some b) = faulted p name thread_state

-- a thread is waited for until it has ended; one that was never started isn't
abbrev pub joins : Option Bool → Option Deed
joins (Some false) = None
joins _ = Some (quiet None)

-- a thread ends, with the exception that it raised, if any
abbrev pub ends : ℕ → Option Name → Deed
ends t None = changing (Finished t ∷ []) None
ends t (Some e) =
    changing (Lost (record { thread = t; class = e.class }) ∷ Finished t ∷ []) None

-- ---- output: a unit's bytes are those of modified UTF-8, but unit 0 is one zero byte

-- the bytes of a unit
abbrev pub printed_unit : ℕ → List ℕ
printed_unit u = if u == 0 then 0 ∷ [] else unit_bytes u

-- the bytes of a text
abbrev pub printed : List ℕ → List ℕ
printed us = flat_map printed_unit us

-- ---- all together

-- by request, for a thread and a choice; none where the cell is of another kind
unfoldable pub serve : Program → ℕ → Choice → Request → Cell → Option Deed
serve p t c (Get n i) (Body b) = get n i b
serve p t c (Put n i v) (Body b) = put n i v b
serve p t c (Load n i) (Body b) = load p c.name n i b
serve p t c (Store n i v) (Body b) = store p c.name n i v b
serve p t c (Len n) (Body b) = len b
serve p t c (Make k sizes) NoCell = Some (making c.name (made_objects p c.name k sizes))
serve p t c (MakeText us) NoCell = Some (making_text c.name [] us)
serve p t c (Fault k) NoCell = Some (faulted p c.name k)
serve p t c (Enter n) (Lock o ws) = enter t n o
serve p t c (Exit n raising) (Lock o ws) =
    Some (by_owner t o (if raising then quiet None else faulted p c.name monitor_state) (leaves n))
serve p t c (Wait n) (Lock o ws) =
    Some (by_owner t o (faulted p c.name monitor_state) (sleeps t n))
serve p t c (Notify n) (Lock o ws) =
    Some (by_owner t o (faulted p c.name monitor_state) (λ o. notifies n c.pick ws))
serve p t c (NotifyAll n) (Lock o ws) =
    Some (by_owner t o (faulted p c.name monitor_state) (λ o. notifies_all n))
serve p t c (Begin k) (Class s) = begins t k s
serve p t c (InitDone k) (Class s) = by_runner t s (changing (Becomes k class_state.Done ∷ []) None)
serve p t c (InitFail k made) (Class s) = by_runner t s (fails p c.name k made)
serve p t c (Start n) (Threads ts us) = Some (starts p c.name n (thread_of n ts))
serve p t c (Join n) (Threads ts us) = joins (thread_of n ts)
serve p t c (Finish e) (Threads ts us) = Some (ends t e)
serve p t c (Buffer n k us) (Body b) = buffer c.name n k us b
serve p t c (Print us) (Console bytes) = Some (changing (Printed (printed us) ∷ []) None)
serve p t c _ _ = None

-- ---- whether the choice's pick and name are those that the deed wants

-- one of the waiters, or 0 where nobody is to be picked
abbrev pub pick_fits : ℕ → List ℕ → Bool
pick_fits pick [] = pick == 0
pick_fits pick (w ∷ ws) = has (w ∷ ws) pick

-- no object has one of the names of these classes with indices from this one on
abbrev pub all_new : Heap → ℕ → ℕ → List ℕ → Bool
all_new heap node index [] = true
all_new heap node index (c ∷ cs) =
    is_none (body_at heap (named node c index)) && all_new heap node (index + 1) cs

-- the names of the made objects follow one another from the choice's; they are new, of a node that
-- makes objects, and have indices below 2^32
abbrev pub name_fits : Heap → Name → List ℕ → Bool
name_fits heap name [] = name_eq name no_name
name_fits heap name (c ∷ cs) =
    not (name.node == no_node) && (name.class == c
    && (nat_le (name.index + (1 + length cs)) (2 ^ 32)
    && all_new heap name.node name.index (c ∷ cs)))
