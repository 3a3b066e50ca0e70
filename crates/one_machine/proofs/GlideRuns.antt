-- Moves of a thread that touch its frame alone are steps of the machine.
use Rattle.std.proofs.Common.{◌≡◌, ℕ, zero, suc, ◌+◌, ◌-◌, ◌≤◌, List, [], ◌∷◌, ◌++◌, replicate, Option, Some, None, refl, sym, ap, subst, ◌∙◌, arith}
use Rattle.std.proofs.lemmas.List.{replicate-append-replicate, set-set}
use Rattle.std.proofs.Math.Nat.{min-le_left}
use Rattle.std.specs.Prelude.{slice_get, slice_set}
use Rattle.jvm_base.specs.Words.{from}
use Rattle.jvm_base.specs.declared.frame.Level.{Level}
use Rattle.program_image.specs.Program.{Program}
use Rattle.machine_state.specs.declared.state.Choice.{Choice}
use Rattle.machine_state.specs.declared.state.Mode.{Mode}
use Rattle.machine_state.specs.declared.state.Mode.TheVariants.{Running}
use Rattle.machine_state.specs.declared.state.ThreadState.{ThreadState}
use Rattle.machine_state.specs.Runs.{any_choice, run}
use Rattle.machine_state.specs.State.{State}
use Rattle.machine_state.specs.Step.{after, step}
use Rattle.machine_state.proofs.NameTests.{some_is}
use Rattle.frame_soundness.specs.AcceptedProgram.{Types, Accepted}
use Rattle.machine_soundness.specs.Sound.{Sound}
use Rattle.step_plan.specs.Condition.{CanPlan}
use Rattle.step_soundness.proofs.StepLaws.{sound-step}
use Rattle.one_machine.specs.Gliding.{Always, AreGlided, Glides, after_moves}
use Rattle.one_machine.specs.InPlace.{running_next}
use Rattle.one_machine.specs.Ready.{Machine, IsReady}
use Rattle.one_machine.proofs.GlideLevels.{is_running}
use Rattle.one_machine.proofs.InPlace.{step_in_place}
use Rattle.one_machine.proofs.Planning.{can_plan}

-- ---- runs

-- a sound machine stays sound
sound_run : (p : Program) (types : Types) → Accepted p types → (cs : List Choice) (m l : State) → Sound p types m → run p m cs ≡ Some l → Sound p types l
unfolding run
sound_run p types a [] m l sound e = let one : m ≡ l = cc in subst (λ (s : State). Sound p types s) one sound
sound_run p types a (c ∷ cs) m l sound e = by_step (λ n s h. sound_run p types a cs n l s h) (step p m c) refl e
  where
    by_step : ((n : State) → Sound p types n → run p n cs ≡ Some l → Sound p types l) → (o : Option State) → step p m c ≡ o → from None (λ next. run p next cs) o ≡ Some l → Sound p types l
    by_step more None is h = absurd cc
    by_step more (Some n) is h = more n (sound-step p types a m n c sound is) h

-- ---- one thread

-- a thread after so many moves of its levels
abbrev pub glided : ℕ → ThreadState → List Level → ThreadState
glided n th ls = record { object = th.object; mode = th.mode; levels = ls; steps = th.steps + n }

-- what is there already is set
set_there : {A : Type 0} (xs : List A) (i : ℕ) (x : A) → slice_get xs i ≡ Some x → slice_set xs i x ≡ xs
set_there [] i x e = absurd cc
set_there (y ∷ xs) zero x e = let one : y ≡ x = cc in ap (λ z. z ∷ xs) (sym one)
set_there (y ∷ xs) (suc i) x e = ap (λ zs. y ∷ zs) (set_there xs i x e)

-- what was set is there
get_there : {A : Type 0} (xs : List A) (i : ℕ) (x y : A) → slice_get xs i ≡ Some x → slice_get (slice_set xs i y) i ≡ Some y
get_there [] i x y e = absurd cc
get_there (z ∷ xs) zero x y e = refl
get_there (z ∷ xs) (suc i) x y e = get_there xs i x y e

module _ (p : Program) (types : Types) (a : Accepted p types) (t : ℕ) where
  -- so many are a run
  pub moves_run : (n : ℕ) (m : State) (th : ThreadState) (ls : List Level) → Sound p types m → slice_get m.threads t ≡ Some th → after_moves (running_next p th.mode) n th.levels ≡ Some ls
      → run p m (replicate n (any_choice t)) ≡ Some (record m { threads = slice_set m.threads t (glided n th ls) })
  unfolding run
  moves_run zero m th ls sound at e =
      let one : th.levels ≡ ls = cc in
      let steps : th.steps ≡ th.steps + 0 = omega arith in
      let same : th ≡ glided 0 th ls =
      ap (λ (xs : List Level). record th { levels = xs }) one ∙ ap (λ (k : ℕ). record { object = th.object; mode = th.mode; levels = ls; steps = k }) steps in
      ap (λ (ts : List ThreadState). Some (record m { threads = ts })) (sym (set_there m.threads t th at) ∙ ap (slice_set m.threads t) same)
  moves_run (suc n) m th ls sound at e =
      by_move (λ l k s there h. moves_run n l k ls s there h) (running_next p th.mode th.levels) refl e
    where
      by_move : ((l : State) (k : ThreadState) → Sound p types l → slice_get l.threads t ≡ Some k → after_moves (running_next p k.mode) n k.levels ≡ Some ls
          → run p l (replicate n (any_choice t)) ≡ Some (record l { threads = slice_set l.threads t (glided n k ls) }))
          → (o : Option (List Level)) → running_next p th.mode th.levels ≡ o → from None (after_moves (running_next p th.mode) n) o ≡ Some ls
          → run p m (any_choice t ∷ replicate n (any_choice t)) ≡ Some (record m { threads = slice_set m.threads t (glided (suc n) th ls) })
      by_move more None is h = absurd cc
      by_move more (Some x) is h =
          let next : ThreadState = after th (Running, x) in
          let l : State = record m { threads = slice_set m.threads t (after th (Running, x)) } in
          let mode : th.mode ≡ Running = is_running p th.mode th.levels x is in
          let stepped = step_in_place p m t th x (can_plan p types a m t th sound at) at is in
          let rest = more l next (sound-step p types a m l (any_choice t) sound stepped) (get_there m.threads t th next at)
          (subst (λ (k : Mode). after_moves (running_next p k) n x ≡ Some ls) mode h) in
          let steps : th.steps + 1 + n ≡ th.steps + suc n = omega arith in
          let same : glided n next ls ≡ glided (suc n) th ls =
          ap (λ (k : Mode). record { object = th.object; mode = k; levels = ls; steps = th.steps + 1 + n }) (sym mode)
          ∙ ap (λ (k : ℕ). record { object = th.object; mode = th.mode; levels = ls; steps = k }) steps in
          ap (from None (λ n. run p n (replicate _ (any_choice t)))) stepped
          ∙ rest
          ∙ ap (λ (ts : List ThreadState). Some (record m { threads = ts })) (set-set m.threads t next (glided n next ls) ∙ ap (slice_set m.threads t) same)

  -- whatever comes of them can be planned for
  pub always_plans : (m : State) → Sound p types m → (th : ThreadState) → slice_get m.threads t ≡ Some th → Always (running_next p th.mode) th.levels (CanPlan p)
  always_plans m sound th at n ls e =
      let l : State = record m { threads = slice_set m.threads t (glided n th ls) } in
      can_plan p types a l t (glided n th ls)
      (sound_run p types a (replicate n (any_choice t)) m l sound (moves_run n m th ls sound at e))
      (get_there m.threads t th (glided n th ls) at)

  -- ---- the machine

  -- the machine after them
  pub glides : (m : State) (most limit n : ℕ) (news : List ThreadState) → Sound p types m → AreGlided p t most limit n m.threads news (slice_get m.threads t)
      → Glides p m t most limit n (record m { threads = news })
  unfolding run
  glides m most limit n news sound h = record { leads = by_thread (slice_get m.threads t) refl h; threads = h; shared = refl }
    where
      by_thread : (o : Option ThreadState) → slice_get m.threads t ≡ o → AreGlided p t most limit n m.threads news o
          → run p m (replicate n (any_choice t)) ≡ Some (record m { threads = news })
      by_thread None at (none, same) =
          ap (λ (k : ℕ). run p m (replicate k (any_choice t))) none ∙ ap (λ (ts : List ThreadState). Some (record m { threads = ts })) (sym same)
      by_thread (Some th) at (new, g, same) =
          moves_run n m th new.levels sound at g.moves.lead
          ∙ ap (λ (ts : List ThreadState). Some (record m { threads = ts })) (ap (slice_set m.threads t) (sym g.stepped) ∙ sym same)

-- ---- one step

-- steps of which there is but one
pub one_glided : (p : Program) (m next : State) (t most limit n : ℕ) → n ≡ 1 → Glides p m t most limit n next → step p m (any_choice t) ≡ Some next
unfolding run
one_glided p m next t most limit n one g = by_step (step p m (any_choice t)) (subst (λ (k : ℕ). run p m (replicate k (any_choice t)) ≡ Some next) one g.leads)
  where
    by_step : (o : Option State) → from None (λ s. run p s []) o ≡ Some next → o ≡ Some next
    by_step None e = absurd cc
    by_step (Some s) e = e

-- or none
pub none_glided : (p : Program) (m next : State) (t most limit n : ℕ) → n ≡ 0 → Glides p m t most limit n next → next ≡ m
unfolding run
none_glided p m next t most limit n none g = sym (some_is (subst (λ (k : ℕ). run p m (replicate k (any_choice t)) ≡ Some next) none g.leads))

-- they are no more than they may be
pub few_glided : (p : Program) (t most limit n : ℕ) (olds news : List ThreadState) (o : Option ThreadState) → AreGlided p t most limit n olds news o → n ≤ most
few_glided p t most limit n olds news None (none, same) = omega (arith, none)
few_glided p t most limit n olds news (Some th) (new, g, same) = omega (arith, g.moves.few, min-le_left most (limit - th.steps))

-- the machine is ready for what comes next
pub ready_glided : (p : Program) (m : Machine) (t most limit n : ℕ) (next : State) → (r : IsReady p m) → Glides p m.state t most limit n next → IsReady p (record { state = next; tables = m.tables; blanks = m.blanks })
ready_glided p m t most limit n next r g = record {
  types = r.types;
  accepted = r.accepted;
  sound = sound_run p r.types r.accepted (replicate n (any_choice t)) m.state next r.sound g.leads;
  kept = r.kept;
  blanks = r.blanks;
}
