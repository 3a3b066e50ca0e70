-- Each choice of a run names a class of the program, or nothing.
use Rattle.std.proofs.Common.{◌≡◌, inl, inr, ℕ, ◌<◌, ◌≤◌, ◌^◌, Bool, true, false, List, [], ◌∷◌, length, Option, Some, None, refl, sym, subst, arith}
use Rattle.std.specs.Prelude.{◌==◌, ◌&&◌, if◌then◌else◌, slice_get}
use Rattle.std.specs.List.{AllByRecursion}
use Rattle.std.proofs.lemmas.Bool.Decides.{Decides-eqb}
use Rattle.jvm_base.specs.Names.{no_name}
use Rattle.jvm_base.specs.Words.{from}
use Rattle.jvm_base.specs.declared.frame.Level.{Level}
use Rattle.jvm_base.specs.declared.name.Name.{Name}
use Rattle.jvm_base.proofs.NameLaws.{name_eq-true}
use Rattle.program_image.specs.Program.{Program}
use Rattle.machine_state.specs.declared.request.Request.{Request}
use Rattle.machine_state.specs.declared.request.Request.TheVariants.{Begin, Fault}
use Rattle.machine_state.specs.declared.state.Choice.{Choice}
use Rattle.machine_state.specs.declared.state.ClassState.{ClassState}
use Rattle.machine_state.specs.declared.state.ClassState.TheVariants as class_state
use Rattle.machine_state.specs.declared.state.Mode.{Mode}
use Rattle.machine_state.specs.declared.state.Mode.TheVariants.{Entry, Running, Raising, Waiting, Ended}
use Rattle.machine_state.specs.declared.state.ThreadState.{ThreadState}
use Rattle.machine_state.specs.BootClasses.{no_class_found}
use Rattle.machine_state.specs.Complete.{Stand}
use Rattle.machine_state.specs.Deeds.{Deed}
use Rattle.machine_state.specs.Frames.{called}
use Rattle.machine_state.specs.Locks.{retakes}
use Rattle.machine_state.specs.Next.{Next, Alone, Throws, Calls, Leaves, Drops, Needs, Wants, Stuck, Plan}
use Rattle.machine_state.specs.Plan.{plan}
use Rattle.machine_state.specs.Requests.{key_of, cell}
use Rattle.machine_state.specs.Runs.{run}
use Rattle.machine_state.specs.Serve.{serve, name_fits}
use Rattle.machine_state.specs.Start.{start}
use Rattle.machine_state.specs.State.{State, Heap, owner_at, waiters_of}
use Rattle.machine_state.specs.Step.{Taken, taken, alone, served, performed, asked, planned, retaken, awake, by_mode, attempt, who, allowed, granted, taken_by, moved_on, step_of, step}
use Rattle.program_reads.specs.Whole.{IsWhole}
use Rattle.order_text.specs.Spelling.{HasClass}
use Rattle.order_laws.specs.Naming.{IsNamed, NamesLaw, HaveTextsLaw}
use Rattle.order_laws.proofs.DeedLaws.{FirstWithin, MakesWithin, served_within, retakes_within}
use Rattle.order_laws.proofs.PlanLaws.{AsksWithin, Within, boot_within, plan_within}

-- what a thread takes makes objects of classes of the program, the first of them at least
abbrev TakesWithin : Program → Option Taken → Type 0
TakesWithin p None = Unit {0}
TakesWithin p (Some k) = FirstWithin p k.deed.makes

-- ---- what a thread takes

module _ (p : Program) (whole : IsWhole p) (m : State) (c : Choice) where
  -- nothing is made
  of_alone : (o : Option Stand) → TakesWithin p (alone o)
  of_alone None = tt
  of_alone (Some s) = tt

  -- what is served
  of_deed : (f : Deed → Taken) → ((d : Deed) → (f d).deed ≡ d) → (o : Option Deed) → MakesWithin p o → TakesWithin p (from None (λ d. Some (f d)) o)
  of_deed f same None h = tt
  of_deed f same (Some d) h = subst (λ (x : Deed). FirstWithin p x.makes) (sym (same d)) h

  module _ (mode : Mode) (ls : List Level) where
    of_served : (r : Request) → AsksWithin p r → TakesWithin p (served p m c mode ls r)
    unfolding served
    of_served r h = of_deed (taken p r mode ls) (λ d. refl) (serve p c.thread c r (cell m (key_of r))) (served_within p whole c.thread m c r h)

    of_performed : (n : Next) → Within p n → TakesWithin p (performed p m c mode ls n)
    of_performed (Alone f) h = tt
    of_performed (Throws e) h = tt
    of_performed (Calls k vs) h = of_alone (called p k vs ls)
    of_performed (Leaves v) h = tt
    of_performed Drops h = tt
    of_performed (Needs r) h = of_served r h
    of_performed (Wants n) h = tt
    of_performed Stuck h = tt

    of_asked : (n : Next) (k : ℕ) (o : Option ClassState) → Within p n → TakesWithin p (asked p m c mode ls n k o)
    of_asked n k None h = tt
    of_asked n k (Some class_state.Done) h = of_performed n h
    of_asked n k (Some (class_state.Running u)) h = by_test (u == c.thread)
      where
        by_test : (b : Bool) → TakesWithin p (if b then performed p m c mode ls n else None)
        by_test true = of_performed n h
        by_test false = tt
    of_asked n k (Some class_state.Untouched) h = of_served (Begin k) tt
    of_asked n k (Some class_state.Failed) h = of_served (Fault no_class_found) (boot_within p whole 27 (omega arith))

    of_planned : (what : Plan) → Within p what.next → TakesWithin p (planned p m c mode ls what)
    of_planned what h = by_class what.asks
      where
        by_class : (o : Option ℕ) → TakesWithin p (from (performed p m c mode ls what.next) (λ k. asked p m c mode ls what.next k (slice_get m.classes k)) o)
        by_class None = of_performed what.next h
        by_class (Some k) = of_asked what.next k (slice_get m.classes k) h

  of_retaken : (ls : List Level) (n : Name) (k : ℕ) → TakesWithin p (retaken m c ls n k)
  of_retaken ls n k = of_deed (λ d. record { deed = d; stand = (Running, ls) }) (λ d. refl) (retakes c.thread n k (owner_at m.monitors n) (waiters_of n m.waiting)) (retakes_within p whole c.thread n k _ _)

  -- whatever the thread is about
  of_attempt : (th : ThreadState) → TakesWithin p (attempt p m c th)
  unfolding attempt
  of_attempt th = of_mode th.mode
    where
      of_awake : TakesWithin p (awake p m c th)
      of_awake = of_planned th.mode th.levels (plan p (who m.heap c.thread th) th.mode th.levels) (plan_within p whole (who m.heap c.thread th) th.mode th.levels)

      of_mode : (mode : Mode) → TakesWithin p (by_mode p m c th mode)
      of_mode Entry = of_awake
      of_mode Running = of_awake
      of_mode (Raising e) = of_awake
      of_mode (Waiting n k) = of_retaken th.levels n k
      of_mode Ended = tt

-- ---- the choice of a step

-- both tests pass
both : (a b : Bool) → (a && b) ≡ true → (a ≡ true) × (b ≡ true)
both true b e = (refl, e)
both false b e = absurd cc

-- a name that fits is that of the first object, or none where nothing is made
fitting_is_named : (p : Program) (c : Choice) (heap : Heap) (makes : List ℕ) → FirstWithin p makes → name_fits heap c.name makes ≡ true → IsNamed p c
fitting_is_named p c heap [] h e = inl (name_eq-true c.name no_name e)
fitting_is_named p c heap (k ∷ ks) h e =
    let parts = both _ _ e in
    let same : c.name.class ≡ k = (Decides-eqb c.name.class k).0 (both _ _ parts.1).0 in
    inr (subst (λ (n : ℕ). n < length p.classes) (sym same) h)

-- a choice that is a step has a name that fits
step_is_named : (p : Program) → IsWhole p → (m l : State) (c : Choice) → step p m c ≡ Some l → IsNamed p c
unfolding step taken_by
step_is_named p whole m l c e = by_thread (slice_get m.threads c.thread) e
  where
    by_allowed : (th : ThreadState) (k : Taken) → FirstWithin p k.deed.makes → (b : Bool) → allowed m c k ≡ b → from None (λ j. Some (moved_on m c.thread th j)) (if b then Some k else None) ≡ Some l → IsNamed p c
    by_allowed th k h false a e = absurd cc
    by_allowed th k h true a e = fitting_is_named p c m.heap k.deed.makes h (both _ _ a).1

    by_attempt : (th : ThreadState) (o : Option Taken) → TakesWithin p o → from None (λ j. Some (moved_on m c.thread th j)) (granted m c o) ≡ Some l → IsNamed p c
    by_attempt th None h e = absurd cc
    by_attempt th (Some k) h e = by_allowed th k h (allowed m c k) refl e

    by_thread : (o : Option ThreadState) → step_of p m c o ≡ Some l → IsNamed p c
    by_thread None e = absurd cc
    by_thread (Some th) e = by_attempt th (attempt p m c th) (of_attempt p whole m c th) e

-- ---- every choice of a run

-- so has each of a legal order
run_is_named : (p : Program) → IsWhole p → (m last : State) (order : List Choice) → run p m order ≡ Some last → AllByRecursion (IsNamed p) order
unfolding run
run_is_named p whole m last [] e = tt
run_is_named p whole m last (c ∷ cs) e = by_step (step p m c) refl (λ l. run_is_named p whole l last cs) e
  where
    by_step : (o : Option State) → step p m c ≡ o → ((l : State) → run p l cs ≡ Some last → AllByRecursion (IsNamed p) cs) → from None (λ next. run p next cs) o ≡ Some last → AllByRecursion (IsNamed p) (c ∷ cs)
    by_step None s f e = absurd cc
    by_step (Some l) s f e = (step_is_named p whole m l c s, f l e)

pub names_law : NamesLaw
names_law p args order last whole leads = run_is_named p whole (start p args) last order leads

-- ---- so it has a text

-- 24 bits are enough for the number of its class
has_text : (p : Program) → length p.classes ≤ 2 ^ 24 → (c : Choice) → IsNamed p c → HasClass c
has_text p few c (inl e) = subst (λ (n : Name). n.class < 2 ^ 24) (sym e) (omega arith)
has_text p few c (inr l) = omega (arith, l, few)

-- one by one
have_texts : (p : Program) → length p.classes ≤ 2 ^ 24 → (order : List Choice) → AllByRecursion (IsNamed p) order → AllByRecursion HasClass order
have_texts p few [] h = tt
have_texts p few (c ∷ cs) h = (has_text p few c h.0, have_texts p few cs h.1)

pub have_texts_law : HaveTextsLaw
have_texts_law p whole few args order last leads = have_texts p few order (names_law p args order last whole leads)
