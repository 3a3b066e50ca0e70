-- What a step of a thread is, by its mode: alone, a request, or a lock taken again.
use Rattle.std.proofs.Common.{◌≡◌, ℕ, Bool, true, false, ◌==◌, ◌&&◌, if◌then◌else◌, List, [], ◌∷◌, Option, Some, None, refl, sym, subst}
use Rattle.std.specs.Prelude.{slice_get}
use Rattle.jvm_base.specs.declared.name.Name.{Name}
use Rattle.jvm_base.specs.declared.frame.Level.{Level}
use Rattle.code_table.specs.declared.code.Code.{Code as CodeInfo}
use Rattle.machine_state.specs.declared.state.Choice.{Choice}
use Rattle.machine_state.specs.declared.state.Mode.{Mode}
use Rattle.machine_state.specs.declared.state.Mode.TheVariants.{Entry, Running, Raising, Waiting, Ended}
use Rattle.machine_state.specs.declared.state.ThreadState.{ThreadState}
use Rattle.machine_state.specs.declared.state.ClassState.{ClassState}
use Rattle.machine_state.specs.declared.state.ClassState.TheVariants as class_state
use Rattle.program_image.specs.Program.{Program}
use Rattle.jvm_base.specs.Words.{from}
use Rattle.program_image.specs.Handlers.{code_of}
use Rattle.machine_state.specs.State.{State, owner_at, waiters_of}
use Rattle.machine_state.specs.declared.request.Request.{Request}
use Rattle.machine_state.specs.declared.request.Request.TheVariants.{Fault, Exit, Wait, Begin, InitDone, InitFail, Finish}
use Rattle.machine_state.specs.Requests.{key_of, cell}
use Rattle.machine_state.specs.declared.request.Answer.{Answer}
use Rattle.machine_state.specs.declared.request.Answer.TheVariants.{Gives, Raises, Slept}
use Rattle.machine_state.specs.Deeds.{Deed, quiet}
use Rattle.machine_state.specs.Next.{Next, Alone, Throws, Calls, Leaves, Drops, Needs, Wants, Stuck, Plan}
use Rattle.machine_state.specs.Plan.{plan}
use Rattle.machine_state.specs.Serve.{serve, pick_fits, name_fits}
use Rattle.machine_state.specs.Locks.{retakes}
use Rattle.machine_state.specs.Complete.{below_init, Stand, answer_top, complete, given, raised_by, after_init}
use Rattle.jvm_base.specs.Tops.{below, with_top}
use Rattle.machine_state.specs.Step.{Taken, taken, alone as alone_if, served, performed, asked, planned, attempt, by_mode, retaken, granted, taken_by, who}
use Rattle.machine_state.proofs.NameTests.{some_is}
use Rattle.machine_state.proofs.LockDeeds.{NotSlept}
use Rattle.machine_state.specs.BootClasses.{no_class_found}

-- the mode isn't that of a thread that waits
abbrev pub NotWaiting : Mode → Type 0
NotWaiting (Waiting n k) = ⊥
NotWaiting mode = Unit {0}

-- what a thread takes, with its mode before and after
pub data Acts (image : Program) (m : State) (c : Choice) (mode : Mode) : Taken → Type 0 where
  alone : {k : Taken} → NotWaiting mode → k.deed ≡ quiet None → NotWaiting k.stand.0 → Acts image m c mode k
  asks : {k : Taken} (r : Request) (ls : List Level) → NotWaiting mode → serve image c.thread c r (cell m (key_of r)) ≡ Some k.deed → k.stand ≡ complete image r k.deed.answer mode ls → Acts image m c mode k
  wakes : {k : Taken} (n : Name) (j : ℕ) → mode ≡ Waiting n j → retakes c.thread n j (owner_at m.monitors n) (waiters_of n m.waiting) ≡ Some k.deed → NotWaiting k.stand.0 → Acts image m c mode k

-- what is taken acts so
abbrev pub ActsIf : Program → State → Choice → Mode → Option Taken → Type 0
ActsIf image m c mode o = (k : Taken) → o ≡ Some k → Acts image m c mode k

module _ (image : Program) (m : State) (c : Choice) (mode : Mode) (ls : List Level) (awake : NotWaiting mode) where
  of_stand : (s : Stand) → NotWaiting s.0 → ActsIf image m c mode (alone_if (Some s))
  of_stand s n k h = subst (λ (y : Taken). Acts image m c mode y) (some_is h) (alone awake refl n)

  of_call : (o : Option CodeInfo) (f : CodeInfo → List Level) → ActsIf image m c mode (alone_if (from None (λ x. Some (Running, f x)) o))
  of_call None f = λ k h. absurd cc
  of_call (Some x) f = of_stand (Running, f x) tt

  of_served : (r : Request) → ActsIf image m c mode (served image m c mode ls r)
  unfolding served
  of_served r k h = by_deed (serve image c.thread c r (cell m (key_of r))) refl h
    where
      by_deed : (o : Option Deed) → serve image c.thread c r (cell m (key_of r)) ≡ o → from None (λ d. Some (taken image r mode ls d)) o ≡ Some k → Acts image m c mode k
      by_deed None e h = absurd cc
      by_deed (Some d) e h = subst (λ (y : Taken). Acts image m c mode y) (some_is h) (asks r ls awake e refl)

  of_performed : (n : Next) → ActsIf image m c mode (performed image m c mode ls n)
  of_performed (Alone f) = of_stand (Running, with_top f ls) tt
  of_performed (Throws e) = of_stand (Raising e, ls) tt
  of_performed (Calls f vs) = of_call (code_of image f) _
  of_performed (Leaves v) = of_stand (mode, answer_top image v (below ls)) awake
  of_performed Drops = of_stand (mode, below ls) awake
  of_performed (Needs r) = of_served r
  of_performed (Wants n) = λ k h. absurd cc
  of_performed Stuck = λ k h. absurd cc

  of_asked : (n : Next) (q : ℕ) (o : Option ClassState) → ActsIf image m c mode (asked image m c mode ls n q o)
  of_asked n q None = λ k h. absurd cc
  of_asked n q (Some class_state.Done) = of_performed n
  of_asked n q (Some (class_state.Running u)) = by_test (u == c.thread)
    where
      by_test : (b : Bool) → ActsIf image m c mode (if b then performed image m c mode ls n else None)
      by_test true = of_performed n
      by_test false = λ k h. absurd cc
  of_asked n q (Some class_state.Untouched) = of_served (Begin q)
  of_asked n q (Some class_state.Failed) = of_served (Fault no_class_found)

  of_planned : (p : Plan) → ActsIf image m c mode (planned image m c mode ls p)
  of_planned p = by_ask p.asks
    where
      by_ask : (o : Option ℕ) → ActsIf image m c mode (from (performed image m c mode ls p.next) (λ k. asked image m c mode ls p.next k (slice_get m.classes k)) o)
      by_ask None = of_performed p.next
      by_ask (Some q) = of_asked p.next q (slice_get m.classes q)

-- a lock that is taken again
of_retaken : (image : Program) (m : State) (c : Choice) (ls : List Level) (n : Name) (j : ℕ) → ActsIf image m c (Waiting n j) (retaken m c ls n j)
of_retaken image m c ls n j = by_deed (retakes c.thread n j (owner_at m.monitors n) (waiters_of n m.waiting)) refl
  where
    by_deed : (o : Option Deed) → retakes c.thread n j (owner_at m.monitors n) (waiters_of n m.waiting) ≡ o → ActsIf image m c (Waiting n j) (from None (λ d. Some (record { deed = d; stand = (Running, ls) })) o)
    by_deed None e k h = absurd cc
    by_deed (Some d) e k h = subst (λ (y : Taken). Acts image m c (Waiting n j) y) (some_is h) (wakes n j refl e tt)

-- a step that a choice takes: what it is, and that its pick is one that it may be
pub record Taking (image : Program) (m : State) (c : Choice) (mode : Mode) (k : Taken) : Type 0 where
  pub acts : Acts image m c mode k
  pub picks : pick_fits c.pick k.deed.waiters ≡ true

-- what is granted acts so
granted_is : (image : Program) (m : State) (c : Choice) (th : ThreadState) (mode : Mode) (o : Option Taken) → ActsIf image m c mode o → (k : Taken) → granted m c o ≡ Some k → Taking image m c mode k
granted_is image m c th mode None a k h = absurd cc
granted_is image m c th mode (Some x) a k h = by_test (pick_fits c.pick x.deed.waiters) (name_fits m.heap c.name x.deed.makes) refl h
  where
    by_test : (p q : Bool) → pick_fits c.pick x.deed.waiters ≡ p → (if p && q then Some x else None) ≡ Some k → Taking image m c mode k
    by_test true true e h = subst (λ (y : Taken). Taking image m c mode y) (some_is h) (record { acts = a x refl; picks = e })
    by_test true false e h = absurd cc
    by_test false q e h = absurd cc

-- so does what is taken
pub taking : (image : Program) (m : State) (c : Choice) (th : ThreadState) (k : Taken) → taken_by image m c th ≡ Some k → Taking image m c th.mode k
unfolding taken_by attempt
taking image m c th k h = granted_is image m c th th.mode (by_mode image m c th th.mode) (of_mode th.mode refl) k h
  where
    of_mode : (mode : Mode) → th.mode ≡ mode → ActsIf image m c th.mode (by_mode image m c th mode)
    of_mode Entry e = subst (λ (x : Mode). ActsIf image m c x (planned image m c x th.levels (plan image (who m.heap c.thread th) x th.levels))) (sym e) (of_planned image m c Entry th.levels tt _)
    of_mode Running e = subst (λ (x : Mode). ActsIf image m c x (planned image m c x th.levels (plan image (who m.heap c.thread th) x th.levels))) (sym e) (of_planned image m c Running th.levels tt _)
    of_mode (Raising x) e = subst (λ (y : Mode). ActsIf image m c y (planned image m c y th.levels (plan image (who m.heap c.thread th) y th.levels))) (sym e) (of_planned image m c (Raising x) th.levels tt _)
    of_mode (Waiting n j) e = subst (λ (x : Mode). ActsIf image m c x (retaken m c th.levels n j)) (sym e) (of_retaken image m c th.levels n j)
    of_mode Ended e = λ k h. absurd cc

-- the mode after a request that didn't sleep
pub mode_after : (image : Program) (r : Request) (a : Answer) (mode : Mode) (ls : List Level) → NotWaiting mode → NotSlept a → NotWaiting (complete image r a mode ls).0
unfolding complete
mode_after image r (Gives v) mode ls w s = by_request r
  where
    after : (ls : List Level) → NotWaiting (after_init ls)
    after [] = tt
    after (l ∷ ls) = tt

    by_request : (r : Request) → NotWaiting (given image r v mode ls).0
    by_request (Finish e) = w
    by_request (InitDone k) = after (below_init ls)
    by_request (Begin k) = tt
    by_request (Wait n) = tt
    by_request (Exit n true) = w
    by_request (Exit n false) = w
    by_request _ = w
mode_after image r (Raises e) mode ls w s = by_request r
  where
    by_request : (r : Request) → NotWaiting (raised_by r e ls).0
    by_request (InitFail k made) = tt
    by_request _ = tt
mode_after image r (Slept k) mode ls w s = absurd s

-- who falls asleep waits
pub mode_asleep : (image : Program) (n : Name) (k : ℕ) (mode : Mode) (ls : List Level) → (complete image (Wait n) (Slept k) mode ls).0 ≡ Waiting n k
unfolding complete
mode_asleep image n k mode ls = refl
