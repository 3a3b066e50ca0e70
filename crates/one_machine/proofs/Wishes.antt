-- What comes of a wish for a step.
use Rattle.std.proofs.Common.{◌≡◌, ℕ, suc, Bool, true, false, ◌&&◌, ◌||◌, List, [], ◌∷◌, ◌++◌, length, Option, Some, None, refl, sym, ap, subst, ◌∙◌}
use Rattle.std.specs.Prelude.{Result, Ok, Err, not, if◌then◌else◌, slice_get, filter, map, nat_le}
use Rattle.std.specs.List.{list_any}
use Rattle.program_image.specs.Program.{Program}
use Rattle.machine_state.specs.declared.request.Answer.{Answer}
use Rattle.machine_state.specs.declared.served.Effect.{Effect}
use Rattle.machine_state.specs.declared.served.Effect.TheVariants as effect
use Rattle.machine_state.specs.declared.served.Effects.{Effects}
use Rattle.machine_state.specs.declared.served.Wish.{Wish}
use Rattle.machine_state.specs.declared.state.Choice.{Choice}
use Rattle.machine_state.specs.declared.state.Mode.{Mode}
use Rattle.machine_state.specs.declared.state.Mode.TheVariants.{Entry, Running, Raising, Waiting, Ended}
use Rattle.machine_state.specs.declared.state.Reason.{Reason}
use Rattle.machine_state.specs.declared.state.Reason.TheVariants.{NoThread, Over, Blocked, BadPick, BadName}
use Rattle.machine_state.specs.declared.state.ThreadState.{ThreadState}
use Rattle.machine_state.specs.Changes.{Change}
use Rattle.machine_state.specs.Reasons.{reason, reason_thread, reason_taken}
use Rattle.machine_state.specs.Serve.{pick_fits, name_fits}
use Rattle.machine_state.specs.Serving.{changes_of, change_of, effect_list}
use Rattle.machine_state.specs.State.{State, Heap, is_ended}
use Rattle.machine_state.specs.Step.{Taken, attempt, allowed, moved_on, step}
use Rattle.step_after.proofs.Stepped.{steps}
use Rattle.step_serve.specs.Cells.{wish_thread}
use Rattle.step_attempt.specs.Going.{IsAttempt, IsGoing}
use Rattle.step_attempt.specs.declared.going.Going.{Going}
use Rattle.one_machine.specs.Doing.{is_made}
use Rattle.one_machine.specs.Found.{IsFound}
use Rattle.one_machine.specs.Going.{SomeRefused, AllRefused, IsFull, IsStep, is_start, is_started, starts_one, is_full, is_making, judged}
use Rattle.one_machine.specs.declared.taking.Took.{Took}
use Rattle.one_machine.specs.declared.taking.Went.TheVariants as went

-- ---- no step, whatever the choice

pub no_thread : (p : Program) (m : State) (w : Wish) → slice_get m.threads (wish_thread w) ≡ None → AllRefused p m w NoThread
unfolding reason
no_thread p m w none c same = ap (reason_thread p m c) (ap (slice_get m.threads) same ∙ none)

module _ (p : Program) (m : State) (w : Wish) (th : ThreadState) (at : slice_get m.threads (wish_thread w) ≡ Some th) where
  -- the reason against a choice of the thread
  of_thread : (c : Choice) → c.thread ≡ wish_thread w → reason p m c ≡ reason_thread p m c (Some th)
  unfolding reason
  of_thread c same = ap (reason_thread p m c) (ap (slice_get m.threads) same ∙ at)

  pub over : is_ended th.mode ≡ true → AllRefused p m w Over
  over ended c same = of_thread c same ∙ ap (λ b. if b then Some Over else reason_taken m c (attempt p m c th)) ended

  -- where it goes on
  going : is_ended th.mode ≡ false → (c : Choice) → c.thread ≡ wish_thread w → reason p m c ≡ reason_taken m c (attempt p m c th)
  going goes c same = of_thread c same ∙ ap (λ b. if b then Some Over else reason_taken m c (attempt p m c th)) goes

  pub blocked : is_ended th.mode ≡ false → ((c : Choice) → c.thread ≡ wish_thread w → attempt p m c th ≡ None) → AllRefused p m w Blocked
  blocked goes none c same = going goes c same ∙ ap (reason_taken m c) (none c same)

  -- ---- a step that can be taken, as it is told

  module _ (goes : is_ended th.mode ≡ false) (g : Going) (k : Taken) (can : attempt p m g.served.choice th ≡ Some k) (told : IsGoing p m w th k g) where
    here : slice_get m.threads g.served.choice.thread ≡ Some th
    here = ap (slice_get m.threads) told.thread ∙ at

    taken : reason p m g.served.choice ≡ reason_taken m g.served.choice (Some k)
    taken = going goes g.served.choice told.thread ∙ ap (reason_taken m g.served.choice) can

    pub bad_pick : g.served.pick_fits ≡ false → SomeRefused p m w BadPick
    bad_pick bad = record {
      thread = th;
      choice = g.served.choice;
      taken = k;
      of_thread = told.thread;
      is_thread = here;
      is_taken = can;
      meets = told.served.choice;
      refused = taken ∙ ap (λ b. if not b then Some BadPick else (if not (name_fits m.heap g.served.choice.name k.deed.makes) then Some BadName else None)) (sym told.served.pick ∙ bad);
    }

    pub bad_name : g.served.pick_fits ≡ true → g.served.name_fits ≡ false → SomeRefused p m w BadName
    bad_name fine bad = record {
      thread = th;
      choice = g.served.choice;
      taken = k;
      of_thread = told.thread;
      is_thread = here;
      is_taken = can;
      meets = told.served.choice;
      refused = taken
          ∙ ap (λ b. if not b then Some BadPick else (if not (name_fits m.heap g.served.choice.name k.deed.makes) then Some BadName else None)) (sym told.served.pick ∙ fine)
          ∙ ap (λ b. if not b then Some BadName else None) (sym told.served.name ∙ bad);
    }

    -- it starts a thread
    starts_alike : (h : Heap) (e : Effect) → is_start (change_of h e) ≡ is_started e
    starts_alike h (effect.Started n) = refl
    starts_alike h _ = refl

    starts_among : (h : Heap) (es : List Effect) → list_any is_start (map (change_of h) es) ≡ list_any is_started es
    starts_among h [] = refl
    starts_among h (e ∷ es) = ap (λ b. b || list_any is_start (map (change_of h) es)) (starts_alike h e) ∙ ap (λ b. is_started e || b) (starts_among h es)

    pub starts : g.served.name_fits ≡ true → list_any is_start k.deed.changes ≡ starts_one g.served.effects
    starts fine = ap (list_any is_start) (sym (told.served.changes fine)) ∙ starts_among m.heap (effect_list g.served.effects)

    pub full : (most : Option ℕ) → g.served.name_fits ≡ true → is_full (length m.threads) most ≡ true → starts_one g.served.effects ≡ true → IsFull p m w most
    full most fine many one = record {
      many = many;
      thread = th;
      choice = g.served.choice;
      taken = k;
      of_thread = told.thread;
      is_thread = here;
      is_taken = can;
      starts = starts fine ∙ one;
    }

    -- of both, each
    both : (a b : Bool) → (a && b) ≡ true → (a ≡ true) × (b ≡ true)
    both true b h = (refl, h)
    both false b h = absurd cc

    pub full_one : (most : Option ℕ) → g.served.name_fits ≡ true → (is_full (length m.threads) most && starts_one g.served.effects) ≡ true → IsFull p m w most
    full_one most fine h =
        let (many, one) = both (is_full (length m.threads) most) (starts_one g.served.effects) h in
        full most fine many one

    pub is_allowed : g.served.pick_fits ≡ true → g.served.name_fits ≡ true → allowed m g.served.choice k ≡ true
    is_allowed pick name = ap (λ b. b && name_fits m.heap g.served.choice.name k.deed.makes) (sym told.served.pick ∙ pick) ∙ (sym told.served.name ∙ name)

    -- as many are made as the effects say
    makes_alike : (h : Heap) (e : Effect) → is_making (change_of h e) ≡ is_made e
    makes_alike h (effect.Made n b) = refl
    makes_alike h _ = refl

    head : (e : Effect) (es : List Effect) (h : Heap) → length (filter is_making (map (change_of h) es)) ≡ length (filter is_made es) → (a b : Bool) → a ≡ b → length (if a then change_of h e ∷ filter is_making (map (change_of h) es) else filter is_making (map (change_of h) es)) ≡ length (if b then e ∷ filter is_made es else filter is_made es)
    head e es h tail true true q = ap suc tail
    head e es h tail false false q = tail
    head e es h tail true false q = absurd cc
    head e es h tail false true q = absurd cc

    counted : (h : Heap) (es : List Effect) → length (filter is_making (map (change_of h) es)) ≡ length (filter is_made es)
    counted h [] = refl
    counted h (e ∷ es) = head e es h (counted h es) (is_making (change_of h e)) (is_made e) (makes_alike h e)

    pub is_step : (made : ℕ) (next : State) → g.served.pick_fits ≡ true → g.served.name_fits ≡ true → made ≡ length (filter is_made (effect_list g.served.effects)) → next ≡ moved_on m (wish_thread w) th k → IsStep p m w (record { choice = g.served.choice; made = made }) next
    is_step made next pick name count moved = record {
      thread = th;
      taken = k;
      of_thread = told.thread;
      is_thread = here;
      is_taken = can;
      meets = told.served.choice;
      made = count ∙ sym (counted m.heap (effect_list g.served.effects)) ∙ ap (λ cs. length (filter is_making cs)) (told.served.changes name);
      steps = steps p m g.served.choice th k here can (is_allowed pick name) ∙ ap (λ t. Some (moved_on m t th k)) told.thread ∙ ap (λ x. Some x) (sym moved);
    }

-- a thread that hasn't ended goes on
pub goes_on : (mode : Mode) → (mode ≡ Ended → ⊥) → is_ended mode ≡ false
goes_on Entry h = refl
goes_on Running h = refl
goes_on (Raising e) h = refl
goes_on (Waiting n k) h = refl
goes_on Ended h = absurd (h refl)

-- what is judged of a step that can be taken
module _ (p : Program) (m : State) (w : Wish) (th : ThreadState) (at : slice_get m.threads (wish_thread w) ≡ Some th) (goes : is_ended th.mode ≡ false) (most : Option ℕ) where
  by_judge : (g : Going) (k : Taken) → attempt p m g.served.choice th ≡ Some k → IsGoing p m w th k g → (pick name full : Bool) → g.served.pick_fits ≡ pick → g.served.name_fits ≡ name → (is_full (length m.threads) most && starts_one g.served.effects) ≡ full
      → IsFound p m w most (if not pick then Err (went.Refused BadPick) else (if not name then Err (went.Refused BadName) else (if full then Err went.Full else Ok g)))
  by_judge g k can told false name full x y z = (bad_pick p m w th at goes g k can told x, refl)
  by_judge g k can told true false full x y z = (bad_name p m w th at goes g k can told x y, refl)
  by_judge g k can told true true true x y z = (full_one p m w th at goes g k can told most y z, refl)
  by_judge g k can told true true false x y z = record { thread = th; taken = k; is_thread = at; goes = goes; is_taken = can; told = told; pick = x; name = y; few = z }

  pub found : (g : Going) → IsAttempt p m w th (Some g) → IsFound p m w most (judged g (length m.threads) most)
  found g (k, can, told) = by_judge g k can told g.served.pick_fits g.served.name_fits (is_full (length m.threads) most && starts_one g.served.effects) refl refl refl
