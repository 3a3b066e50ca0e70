-- Where a step's deed comes from: it is none, or a request was served at its cell.
use Rattle.std.proofs.Common.{◌≡◌, ℕ, Bool, true, false, ◌==◌, if◌then◌else◌, List, Option, Some, None, refl, subst}
use Rattle.std.specs.Prelude.{slice_get}
use Rattle.jvm_base.specs.declared.name.Name.{Name}
use Rattle.jvm_base.specs.declared.frame.Level.{Level}
use Rattle.machine_state.specs.declared.state.Choice.{Choice}
use Rattle.machine_state.specs.declared.state.Mode.{Mode}
use Rattle.machine_state.specs.declared.state.Mode.TheVariants.{Entry, Running, Raising, Waiting, Ended}
use Rattle.machine_state.specs.declared.state.ThreadState.{ThreadState}
use Rattle.machine_state.specs.declared.state.ClassState.{ClassState}
use Rattle.machine_state.specs.declared.state.ClassState.TheVariants as class_state
use Rattle.program_image.specs.Program.{Program}
use Rattle.jvm_base.specs.Words.{from}
use Rattle.machine_state.specs.State.{State, owner_at, waiters_of}
use Rattle.machine_state.specs.declared.request.Request.{Request}
use Rattle.machine_state.specs.declared.request.Request.TheVariants.{Begin, Fault}
use Rattle.machine_state.specs.Requests.{key_of, cell}
use Rattle.machine_state.specs.Deeds.{Deed, quiet}
use Rattle.machine_state.specs.Next.{Next, Alone, Throws, Calls, Leaves, Drops, Needs, Wants, Stuck, Plan}
use Rattle.machine_state.specs.Serve.{serve}
use Rattle.machine_state.specs.Locks.{retakes}
use Rattle.machine_state.specs.Complete.{Stand, answer_top}
use Rattle.jvm_base.specs.Tops.{below, with_top}
use Rattle.machine_state.specs.Step.{Taken, taken, alone, served, performed, asked, planned, attempt, by_mode, retaken, granted, allowed, taken_by}
use Rattle.machine_state.specs.Frames.{called}
use Rattle.machine_state.proofs.NameTests.{some_is}
use Rattle.machine_state.specs.BootClasses.{no_class_found}

-- a deed is none, a served request, or a lock that is taken again
pub data Source (image : Program) (m : State) (c : Choice) : Deed → Type 0 where
  idle : Source image m c (quiet None)
  asks : (r : Request) (d : Deed) → serve image c.thread c r (cell m (key_of r)) ≡ Some d → Source image m c d
  wakes : (n : Name) (k : ℕ) (d : Deed) → retakes c.thread n k (owner_at m.monitors n) (waiters_of n m.waiting) ≡ Some d → Source image m c d

-- what is taken has a source
abbrev pub HasSource : Program → State → Choice → Option Taken → Type 0
HasSource image m c o = (k : Taken) → o ≡ Some k → Source image m c k.deed

-- a step of the thread alone
of_alone : (image : Program) (m : State) (c : Choice) (o : Option Stand) → HasSource image m c (alone o)
of_alone image m c None k h = absurd cc
of_alone image m c (Some s) k h = subst (λ (y : Taken). Source image m c y.deed) (some_is h) idle

-- a served request
of_served : (image : Program) (m : State) (c : Choice) (mode : Mode) (ls : List Level) (r : Request) → HasSource image m c (served image m c mode ls r)
unfolding served
of_served image m c mode ls r k h = by_deed (serve image c.thread c r (cell m (key_of r))) refl h
  where
    by_deed : (o : Option Deed) → serve image c.thread c r (cell m (key_of r)) ≡ o → from None (λ d. Some (taken image r mode ls d)) o ≡ Some k → Source image m c k.deed
    by_deed None e h = absurd cc
    by_deed (Some d) e h = subst (λ (y : Taken). Source image m c y.deed) (some_is h) (asks r d e)

-- what comes next
of_performed : (image : Program) (m : State) (c : Choice) (mode : Mode) (ls : List Level) (n : Next) → HasSource image m c (performed image m c mode ls n)
of_performed image m c mode ls (Alone f) = of_alone image m c (Some (Running, with_top f ls))
of_performed image m c mode ls (Throws e) = of_alone image m c (Some (Raising e, ls))
of_performed image m c mode ls (Calls f vs) = of_alone image m c (called image f vs ls)
of_performed image m c mode ls (Leaves v) = of_alone image m c (Some (mode, answer_top image v (below ls)))
of_performed image m c mode ls Drops = of_alone image m c (Some (mode, below ls))
of_performed image m c mode ls (Needs r) = of_served image m c mode ls r
of_performed image m c mode ls (Wants n) = λ k h. absurd cc
of_performed image m c mode ls Stuck = λ k h. absurd cc

-- after a class was asked for
of_asked : (image : Program) (m : State) (c : Choice) (mode : Mode) (ls : List Level) (n : Next) (q : ℕ) (o : Option ClassState) → HasSource image m c (asked image m c mode ls n q o)
of_asked image m c mode ls n q None = λ k h. absurd cc
of_asked image m c mode ls n q (Some class_state.Done) = of_performed image m c mode ls n
of_asked image m c mode ls n q (Some (class_state.Running u)) = by_test (u == c.thread)
  where
    by_test : (b : Bool) → HasSource image m c (if b then performed image m c mode ls n else None)
    by_test true = of_performed image m c mode ls n
    by_test false = λ k h. absurd cc
of_asked image m c mode ls n q (Some class_state.Untouched) = of_served image m c mode ls (Begin q)
of_asked image m c mode ls n q (Some class_state.Failed) = of_served image m c mode ls (Fault no_class_found)

-- a plan
of_planned : (image : Program) (m : State) (c : Choice) (mode : Mode) (ls : List Level) (p : Plan) → HasSource image m c (planned image m c mode ls p)
of_planned image m c mode ls p = by_ask p.asks
  where
    by_ask : (o : Option ℕ) → HasSource image m c (from (performed image m c mode ls p.next) (λ k. asked image m c mode ls p.next k (slice_get m.classes k)) o)
    by_ask None = of_performed image m c mode ls p.next
    by_ask (Some q) = of_asked image m c mode ls p.next q (slice_get m.classes q)

-- a lock that is taken again
of_retaken : (image : Program) (m : State) (c : Choice) (ls : List Level) (n : Name) (k : ℕ) → HasSource image m c (retaken m c ls n k)
of_retaken image m c ls n k = by_deed (retakes c.thread n k (owner_at m.monitors n) (waiters_of n m.waiting)) refl
  where
    by_deed : (o : Option Deed) → retakes c.thread n k (owner_at m.monitors n) (waiters_of n m.waiting) ≡ o → HasSource image m c (from None (λ d. Some (record { deed = d; stand = (Running, ls) })) o)
    by_deed None e j h = absurd cc
    by_deed (Some d) e j h = subst (λ (y : Taken). Source image m c y.deed) (some_is h) (wakes n k d e)

-- what is granted
of_granted : (image : Program) (m : State) (c : Choice) (th : ThreadState) (o : Option Taken) → HasSource image m c o → HasSource image m c (granted m c o)
of_granted image m c th None s = λ k h. absurd cc
of_granted image m c th (Some k) s = by_test (allowed m c k)
  where
    by_test : (b : Bool) → HasSource image m c (if b then Some k else None)
    by_test true = s
    by_test false = λ j h. absurd cc

-- what is taken
pub of_taken : (image : Program) (m : State) (c : Choice) (th : ThreadState) → HasSource image m c (taken_by image m c th)
unfolding taken_by attempt
of_taken image m c th = of_granted image m c th (by_mode image m c th th.mode) (of_mode th.mode)
  where
    of_mode : (mode : Mode) → HasSource image m c (by_mode image m c th mode)
    of_mode (Waiting n k) = of_retaken image m c th.levels n k
    of_mode Ended = λ k h. absurd cc
    of_mode Entry = of_planned image m c th.mode th.levels _
    of_mode Running = of_planned image m c th.mode th.levels _
    of_mode (Raising e) = of_planned image m c th.mode th.levels _
