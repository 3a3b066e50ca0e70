-- A step that was found, and is done.
use Rattle.std.proofs.Common.{◌≡◌, ℕ, Bool, true, false, ◌&&◌, List, Option, Some, None, refl, sym, ap, subst, ◌∙◌}
use Rattle.jvm_base.specs.declared.memory.NoMemory.{NoMemory}
use Rattle.std.specs.Prelude.{Result, Ok, Err, IfOk, OnErr, filter, length, map, reverse, slice_get}
use Rattle.jvm_base.specs.declared.frame.Level.{Level}
use Rattle.program_image.specs.Program.{Program}
use Rattle.machine_state.specs.declared.request.Answer.{Answer}
use Rattle.machine_state.specs.declared.served.Wish.{Wish}
use Rattle.machine_state.specs.declared.served.Wish.TheVariants.{Exactly}
use Rattle.machine_state.specs.declared.state.Choice.{Choice}
use Rattle.machine_state.specs.declared.state.Reason.{Reason}
use Rattle.machine_state.specs.declared.state.Reason.TheVariants.{NoThread, Over, Blocked, BadPick, BadName}
use Rattle.machine_state.specs.Reasons.{reason}
use Rattle.machine_state.specs.declared.state.ThreadState.{ThreadState}
use Rattle.machine_state.specs.Changes.{Change}
use Rattle.machine_state.specs.Serving.{changes_of, effect_list}
use Rattle.machine_state.specs.State.{State}
use Rattle.machine_state.specs.Step.{moved_on, step}
use Rattle.frame_soundness.specs.AcceptedProgram.{Types, Accepted}
use Rattle.machine_soundness.specs.Sound.{Sound}
use Rattle.shared_state.specs.Orderly.{IsOrderly}
use Rattle.shared_state.specs.Parts.{Parts, state_of, thread_state}
use Rattle.shared_state.specs.declared.thread.Thread.{Thread}
use Rattle.step_after.specs.Going.{stand_of, CanGoOn}
use Rattle.step_after.proofs.Following.{can_go_on}
use Rattle.step_serve.specs.Cells.{wish_thread}
use Rattle.step_attempt.specs.declared.going.Going.{Going}
use Rattle.step_soundness.proofs.StepLaws.{sound-step}
use Rattle.one_machine.specs.Doing.{IsNextState, is_made}
use Rattle.one_machine.specs.Found.{FoundStep}
use Rattle.one_machine.specs.Going.{IsFull, IsRefused, IsStep, IsWent, StayFew, is_full}
use Rattle.one_machine.specs.Ready.{Machine, IsReady}
use Rattle.one_machine.specs.declared.taking.Went.{Went}
use Rattle.one_machine.specs.declared.taking.Went.TheVariants as went
use Rattle.one_machine.specs.declared.taking.Took.{Took}
use Rattle.one_machine.proofs.Doing.{get_state}
use Rattle.one_machine.proofs.Counting.{stay_few}
use Rattle.one_machine.proofs.Wishes.{is_allowed, is_step, starts}

-- its changes can be done together
pub orderly_found : (p : Program) (m : State) (w : Wish) (most : Option ℕ) (g : Going) → FoundStep p m w most g → IsOrderly m.heap (changes_of m.heap g.served.effects)
orderly_found p m w most g f = f.told.orderly f.name

-- its thread can go on
pub can_go : (p : Program) (shared : Parts) (ts : List Thread) (w : Wish) (most : Option ℕ) (g : Going) (types : Types) → Accepted p types → Sound p types (state_of shared ts)
    → FoundStep p (state_of shared ts) w most g → (t : ℕ) → t ≡ wish_thread w → (th : Thread) → slice_get ts t ≡ Some th → CanGoOn p g.after g.served.answer (reverse th.levels.items)
can_go p shared ts w most g types a sound f t is th e =
    let m = state_of shared ts in
    let mine : slice_get m.threads t ≡ Some (thread_state th) = get_state ts t th e in
    let both : Some (thread_state th) ≡ Some f.thread = sym mine ∙ ap (slice_get m.threads) is ∙ f.is_thread in
    let one : thread_state th ≡ f.thread = cc in
    let at : slice_get m.threads g.served.choice.thread ≡ Some f.thread = ap (slice_get m.threads) f.told.thread ∙ f.is_thread in
    let go = can_go_on p types a m g.served.choice f.thread f.taken g.after sound at f.is_taken (is_allowed p m w f.thread f.is_thread f.goes g f.taken f.is_taken f.told f.pick f.name) f.told.stand f.told.goes in
    subst (λ (x : Answer). CanGoOn p g.after x (reverse th.levels.items)) (sym f.told.served.answer) (subst (λ (x : ThreadState). CanGoOn p g.after f.taken.deed.answer x.levels) (sym one) go)

-- it was taken
pub went_on : (p : Program) (m : State) (w : Wish) (most : Option ℕ) (g : Going) → FoundStep p m w most g → (made : ℕ) (next : State) → made ≡ length (filter is_made (effect_list g.served.effects)) → (t : ℕ) → t ≡ wish_thread w → IsNextState p m t g next
    → IsWent p m w most (went.Steps (record { choice = g.served.choice; made = made })) next
went_on p m w most g f made next count t is to =
    let at : slice_get m.threads t ≡ Some f.thread = ap (slice_get m.threads) is ∙ f.is_thread in
    let stand = f.told.stand ∙ ap (λ (x : Answer). stand_of p g.after x f.thread.mode f.thread.levels) (sym f.told.served.answer) in
    let moved : next ≡ moved_on m t f.thread f.taken = to f.thread f.taken at (f.told.served.changes f.name) stand in
    let orderly = subst (λ (cs : List Change). IsOrderly m.heap cs) (f.told.served.changes f.name) (f.told.orderly f.name) in
    let few = ap (λ (b : Bool). is_full (length m.threads) most && b) (starts p m w f.thread f.is_thread f.goes g f.taken f.is_taken f.told f.name) ∙ f.few in (
      is_step p m w f.thread f.is_thread f.goes g f.taken f.is_taken f.told made next f.pick f.name count (moved ∙ ap (λ (u : ℕ). moved_on m u f.thread f.taken) is),
      subst (λ (x : State). StayFew most m x) (sym moved) (stay_few most m t f.thread f.taken orderly few),
    )

-- the machine stays sound
pub sound_after : (p : Program) (types : Types) → Accepted p types → (m : State) (w : Wish) (k : Took) (next : State) → Sound p types m → IsStep p m w k next → Sound p types next
sound_after p types a m w k next sound h = sound-step p types a m next k.choice sound h.steps

-- the machine is ready for what comes next, whatever came of a wish
pub ready_after : (p : Program) (m : Machine) (w : Wish) (most : Option ℕ) (r : Result Went NoMemory) (next : State) → IsReady p m → IfOk r (λ x. IsWent p m.state w most x next) → OnErr r (next ≡ m.state) → IsReady p (record { state = next; tables = m.tables; blanks = m.blanks })
ready_after p m w most r next ready came same = record {
  types = ready.types;
  accepted = ready.accepted;
  sound = by_result r came same;
  kept = ready.kept;
  blanks = ready.blanks;
}
  where
    at_same : next ≡ m.state → Sound p ready.types next
    at_same e = subst (λ (x : State). Sound p ready.types x) (sym e) ready.sound

    by_result : (r : Result Went NoMemory) → IfOk r (λ x. IsWent p m.state w most x next) → OnErr r (next ≡ m.state) → Sound p ready.types next
    by_result (Ok (went.Steps t)) h e = sound_after p ready.types ready.accepted m.state w t next ready.sound h.0
    by_result (Ok (went.Refused why)) h e = at_same h.1
    by_result (Ok went.Full) h e = at_same h.1
    by_result (Err x) h e = at_same e

-- ---- of a choice that is wished

-- the reason against it
pub exact_reason : (p : Program) (m : State) (c : Choice) (r : Reason) → IsRefused p m (Exactly c) r → reason p m c ≡ Some r
exact_reason p m c BadPick h = subst (λ (x : Choice). reason p m x ≡ Some BadPick) h.meets h.refused
exact_reason p m c BadName h = subst (λ (x : Choice). reason p m x ≡ Some BadName) h.meets h.refused
exact_reason p m c NoThread h = h c refl
exact_reason p m c Over h = h c refl
exact_reason p m c Blocked h = h c refl

-- its step
pub exact_step : (p : Program) (m next : State) (c : Choice) (t : Took) → IsStep p m (Exactly c) t next → step p m c ≡ Some next
exact_step p m next c t h = subst (λ (x : Choice). step p m x ≡ Some next) h.meets h.steps

-- no number of threads is too large for it
pub never_full : (p : Program) (m : State) (w : Wish) → IsFull p m w None → ⊥
never_full p m w h = let e : false ≡ true = h.many in absurd cc

-- a machine, by its parts
pub same_machine : (a b : Machine) → a.state ≡ b.state → a.tables ≡ b.tables → a.blanks ≡ b.blanks → a ≡ b
same_machine a b s t k =
    ap (λ x. record { state = x; tables = a.tables; blanks = a.blanks }) s
    ∙ ap (λ x. record { state = b.state; tables = x; blanks = a.blanks }) t
    ∙ ap (λ x. record { state = b.state; tables = b.tables; blanks = x }) k
