-- What is told of a step is right.
use Rattle.std.proofs.Common.{◌≡◌, ℕ, Bool, true, List, [], ◌∷◌, Option, Some, None, refl, sym, ap, subst, ◌∙◌}
use Rattle.std.specs.Prelude.{option_map}
use Rattle.jvm_base.specs.Names.{no_name}
use Rattle.jvm_base.specs.Words.{from}
use Rattle.jvm_base.specs.declared.name.Name.{Name}
use Rattle.jvm_base.specs.declared.frame.Level.{Level}
use Rattle.program_image.specs.Program.{Program}
use Rattle.machine_state.specs.declared.request.Answer.{Answer}
use Rattle.machine_state.specs.declared.request.Answer.TheVariants.{Gives}
use Rattle.machine_state.specs.declared.request.Request.{Request}
use Rattle.machine_state.specs.declared.request.Request.TheVariants.{Fault}
use Rattle.machine_state.specs.declared.served.Served.{Served}
use Rattle.machine_state.specs.declared.served.Wish.{Wish}
use Rattle.machine_state.specs.declared.served.Wish.TheVariants as wish
use Rattle.machine_state.specs.declared.state.Choice.{Choice}
use Rattle.machine_state.specs.declared.state.Mode.{Mode}
use Rattle.machine_state.specs.declared.state.Mode.TheVariants.{Entry, Running}
use Rattle.machine_state.specs.declared.state.ThreadState.{ThreadState}
use Rattle.machine_state.specs.Changes.{Change}
use Rattle.machine_state.specs.Complete.{Stand, complete}
use Rattle.machine_state.specs.Deeds.{Deed, quiet}
use Rattle.machine_state.specs.Requests.{key_of, cell}
use Rattle.machine_state.specs.Serve.{serve, name_fits}
use Rattle.machine_state.specs.Serving.{Meets, IsServed, IsServing, changes_of}
use Rattle.machine_state.specs.State.{State, owner_at, waiters_of}
use Rattle.machine_state.specs.Locks.{retakes}
use Rattle.machine_state.specs.Step.{Taken, taken, taken_alone, served, retaken, who, planned, awake}
use Rattle.shared_state.specs.Orderly.{IsOrderly}
use Rattle.shared_state.proofs.Orders.{served_orderly, retakes_orderly}
use Rattle.step_after.specs.Conditions.{LevelsAsk, RaisesFault}
use Rattle.step_after.specs.Going.{stand_of}
use Rattle.step_after.specs.Laws.{CompletesOne, GoesSo}
use Rattle.step_after.specs.declared.after.After.{After}
use Rattle.step_after.specs.declared.after.After.TheVariants as after
use Rattle.step_complete.specs.Asked.{request_like, asked_for}
use Rattle.step_complete.specs.declared.asked.Asked.{Asked}
use Rattle.step_serve.specs.Cells.{wish_thread}
use Rattle.step_serve.specs.Telling.{in_heap, TellsOf, TellsSome}
use Rattle.machine_state.specs.Next.{Needs, Plan, Who}
use Rattle.machine_state.specs.Plan.{plan}
use Rattle.step_after.proofs.Needing.{needs_asks}
use Rattle.step_plan.specs.Shown.{shown, shown_next}
use Rattle.step_plan.specs.declared.plan.Plan.{Plan as ToldPlan}
use Rattle.jvm_base.specs.declared.frame.Frame.{Frame}
use Rattle.step_attempt.specs.Going.{IsGoing, IsTold}
use Rattle.step_attempt.specs.declared.going.Going.{Going}

-- the choice that is wished is of the wish's thread
pub meets_thread : (w : Wish) (d : Deed) (c : Choice) → Meets w d c → c.thread ≡ wish_thread w
meets_thread (wish.Exactly x) d c h = ap (λ (k : Choice). k.thread) h
meets_thread (wish.Fresh t node index) d c h = ap (λ (k : Choice). k.thread) h

-- a step that touches nothing that threads share
pub goes_alone : (p : Program) (m : State) (w : Wish) (th : ThreadState) (a : After) (s : Stand) (told : Served) → IsServed (in_heap m.heap) w (quiet None) told → s ≡ stand_of p a (Gives None) th.mode th.levels → GoesSo p a (Gives None) th.levels → IsGoing p m w th (taken_alone s) (record { served = told; after = a })
goes_alone p m w th a s told h stand goes = record {
  thread = meets_thread w (quiet None) told.choice h.choice;
  served = record { choice = h.choice; pick = h.pick; name = h.name; changes = h.changes; answer = h.answer };
  stand = stand;
  goes = goes;
  orderly = λ fits. subst (λ (cs : List Change). IsOrderly m.heap cs) (sym (h.changes fits)) tt;
}

-- a fault that is served is raised
raises : (p : Program) (m : State) (t : ℕ) (c : Choice) (r : Request) (d : Deed) → serve p t c r (cell m (key_of r)) ≡ Some d → RaisesFault r d.answer
unfolding serve
raises p m t c (Fault k) d e = subst (λ (o : Option Deed). RaisesFault (Fault k) (from (Gives None) (λ x. x.answer) o)) e tt
raises p m t c _ d e = tt

-- a request that was served, and the thread that its answer completes
pub goes_asked : (p : Program) (m : State) (w : Wish) (th : ThreadState) (r : Request) (a : Asked) (told : Served) (d : Deed)
    → a ≡ asked_for r
    → ((x : Answer) → complete p r x th.mode th.levels ≡ complete p (request_like a) x th.mode th.levels)
    → LevelsAsk p r th.levels → serve p (wish_thread w) told.choice r (cell m (key_of r)) ≡ Some d → IsServed m w d told
    → IsGoing p m w th (taken p r th.mode th.levels d) (record { served = told; after = after.Completes a })
unfolding stand_of
goes_asked p m w th r a told d is alike asks e h = record {
  thread = meets_thread w d told.choice h.choice;
  served = h;
  stand = alike d.answer;
  goes = record { request = r; is_asked = is; asks = asks; raises = raises p m (wish_thread w) told.choice r d e };
  orderly = λ fits. subst (λ (cs : List Change). IsOrderly m.heap cs) (sym (h.changes fits)) (served_orderly p (wish_thread w) m told.choice r d e (sym h.name ∙ fits));
}

-- what is told of a request
pub told_asked : (p : Program) (m : State) (w : Wish) (th : ThreadState) (r : Request) (a : Asked) (o : Option Served)
    → a ≡ asked_for r
    → ((x : Answer) → complete p r x th.mode th.levels ≡ complete p (request_like a) x th.mode th.levels)
    → LevelsAsk p r th.levels → IsServing m w (λ c. serve p (wish_thread w) c r (cell m (key_of r))) o
    → IsTold p m w th (λ c. served p m c th.mode th.levels r) (option_map (λ s. record { served = s; after = after.Completes a }) o)
unfolding served
told_asked p m w th r a None is alike asks none =
    λ c same. ap (λ x. from None (λ d. Some (taken p r th.mode th.levels d)) x) (ap (λ t. serve p t c r (cell m (key_of r))) same ∙ none c)
told_asked p m w th r a (Some s) is alike asks (d, e, h) =
    let thread = meets_thread w d s.choice h.choice in (
      taken p r th.mode th.levels d,
      ap (λ x. from None (λ d. Some (taken p r th.mode th.levels d)) x) (ap (λ t. serve p t s.choice r (cell m (key_of r))) thread ∙ e),
      goes_asked p m w th r a s d is alike asks e h,
    )

-- a thread that woke takes its lock
goes_woken : (p : Program) (m : State) (w : Wish) (th : ThreadState) (n : Name) (k : ℕ) (told : Served) (d : Deed)
    → retakes (wish_thread w) n k (owner_at m.monitors n) (waiters_of n m.waiting) ≡ Some d → IsServed (in_heap m.heap) w d told
    → IsGoing p m w th (record { deed = d; stand = (Running, th.levels) }) (record { served = told; after = after.Retakes })
unfolding stand_of
goes_woken p m w th n k told d e h = record {
  thread = meets_thread w d told.choice h.choice;
  served = record { choice = h.choice; pick = h.pick; name = h.name; changes = h.changes; answer = h.answer };
  stand = refl;
  goes = tt;
  orderly = λ fits. subst (λ (cs : List Change). IsOrderly m.heap cs) (sym (h.changes fits)) (retakes_orderly m.heap told.choice.name (wish_thread w) n k (owner_at m.monitors n) (waiters_of n m.waiting) d e (sym h.name ∙ fits));
}

-- what is told of it
pub told_woken : (p : Program) (m : State) (w : Wish) (th : ThreadState) (n : Name) (k : ℕ) (o : Option Served)
    → TellsOf m.heap w (λ c. retakes (wish_thread w) n k (owner_at m.monitors n) (waiters_of n m.waiting)) o
    → IsTold p m w th (λ c. retaken m c th.levels n k) (option_map (λ s. record { served = s; after = after.Retakes }) o)
told_woken p m w th n k None none =
    λ c same. ap (λ t. from None (λ d. Some (record { deed = d; stand = (Running, th.levels) })) (retakes t n k (owner_at m.monitors n) (waiters_of n m.waiting))) same ∙ ap (λ x. from None (λ d. Some (record { deed = d; stand = (Running, th.levels) })) x) (none no_choice)
  where
    no_choice : Choice
    no_choice = record { thread = 0; pick = 0; name = no_name }
told_woken p m w th n k (Some s) tells = by_deed (retakes (wish_thread w) n k (owner_at m.monitors n) (waiters_of n m.waiting)) refl tells
  where
    by_deed : (x : Option Deed) → retakes (wish_thread w) n k (owner_at m.monitors n) (waiters_of n m.waiting) ≡ x → TellsSome m.heap w x s → IsTold p m w th (λ c. retaken m c th.levels n k) (Some (record { served = s; after = after.Retakes }))
    by_deed None e bad = absurd bad
    by_deed (Some d) e h =
        let thread = meets_thread w d s.choice h.choice in (
          record { deed = d; stand = (Running, th.levels) },
          ap (λ t. from None (λ x. Some (record { deed = x; stand = (Running, th.levels) })) (retakes t n k (owner_at m.monitors n) (waiters_of n m.waiting))) thread ∙ ap (λ x. from None (λ y. Some (record { deed = y; stand = (Running, th.levels) })) x) e,
          goes_woken p m w th n k s d e h,
        )

-- what is asked can be answered where it is asked
pub plan_asks : (p : Program) (by : Who) (mode : Mode) (ls : List Level) (f : Option Frame) (t : ToldPlan) → shown p f t ≡ plan p by mode ls → (mode ≡ Entry → ls ≡ []) → (r : Request) → shown_next p f t.next ≡ Needs r → LevelsAsk p r ls
plan_asks p by mode ls f t is entry r e = needs_asks p by mode ls r entry (ap (λ (x : Plan). x.next) (sym is) ∙ e)

-- what is told by one word is told by another that says the same of the thread's choices
told_as : (p : Program) (m : State) (w : Wish) (th : ThreadState) (f g : Choice → Option Taken) (o : Option Going) → ((c : Choice) → c.thread ≡ wish_thread w → f c ≡ g c) → IsTold p m w th f o → IsTold p m w th g o
told_as p m w th f g None same none = λ c e. sym (same c e) ∙ none c e
told_as p m w th f g (Some x) same (k, e, h) = (k, sym (same x.served.choice h.thread) ∙ e, h)

-- a thread that neither waits nor has ended does what it plans
pub told_awake : (p : Program) (m : State) (w : Wish) (th : ThreadState) (t : ℕ) (f : Option Frame) (x : ToldPlan) (o : Option Going) → t ≡ wish_thread w → shown p f x ≡ plan p (who m.heap t th) th.mode th.levels
    → IsTold p m w th (λ c. planned p m c th.mode th.levels (shown p f x)) o → IsTold p m w th (λ c. awake p m c th) o
told_awake p m w th t f x o is_thread is =
    told_as p m w th (λ c. planned p m c th.mode th.levels (shown p f x)) (λ c. awake p m c th) o
    (λ c e. ap (planned p m c th.mode th.levels) (is ∙ ap (λ u. plan p (who m.heap u th) th.mode th.levels) (is_thread ∙ sym e)))
