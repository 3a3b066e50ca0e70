-- Which threads can take a step.
use Rattle.std.proofs.lemmas.Bool.{cases_lt}
use Rattle.std.proofs.Common.{◌≡◌, ◌≤◌, ◌<◌, ◌⊎◌, inl, inr, ℕ, zero, suc, ◌+◌, Bool, true, false, ◌||◌, List, [], ◌∷◌, Option, Some, None, refl, sym, ap, subst, ◌∙◌, arith}
use Rattle.std.specs.Prelude.{not, drop, slice_get, is_some, is_none}
use Rattle.jvm_base.specs.Words.{from}
use Rattle.program_image.specs.Program.{Program}
use Rattle.machine_state.specs.declared.served.Wish.{Wish}
use Rattle.machine_state.specs.declared.served.Wish.TheVariants.{Exactly}
use Rattle.machine_state.specs.declared.state.Choice.{Choice}
use Rattle.machine_state.specs.declared.state.ThreadState.{ThreadState}
use Rattle.machine_state.specs.Runs.{any_choice, can_step, some_can}
use Rattle.machine_state.specs.State.{State}
use Rattle.machine_state.specs.Step.{Taken, attempt}
use Rattle.step_serve.specs.Cells.{wish_thread}
use Rattle.step_attempt.specs.Going.{IsAttempt}
use Rattle.step_attempt.specs.declared.going.Going.{Going}
use Rattle.one_machine.specs.Ready.{able, AreUnable, IsFirst}

module _ (p : Program) (m : State) where
  -- what is told of some step of a thread tells whether it can step
  told_can : (t : ℕ) (th : ThreadState) (o : Option Going) → IsAttempt p m (Exactly (any_choice t)) th o → is_some o ≡ can_step p m t th
  told_can t th None none = ap (λ (x : Option Taken). not (is_none x)) (sym (none (any_choice t) refl))
  told_can t th (Some g) (k, e, h) =
      let mine : attempt p m (any_choice t) th ≡ Some k = ap (λ (c : Choice). attempt p m c th) (sym h.served.choice) ∙ e in
      ap (λ (x : Option Taken). not (is_none x)) (sym mine)

  pub can_of : (t : ℕ) (w : Wish) (ths : Option ThreadState) (th : ThreadState) (o : Option Going) → w ≡ Exactly (any_choice t) → ths ≡ Some th → IsAttempt p m w th o → is_some o ≡ able p m t ths
  can_of t w ths th o is at told = told_can t th o (subst (λ (x : Wish). IsAttempt p m x th o) is told) ∙ ap (able p m t) (sym at)

  -- a thread that can't step is passed over
  step_on : (ths : List ThreadState) (n b : ℕ) → able p m b (slice_get ths n) ≡ false → some_can p m b (drop n ths) ≡ some_can p m (b + 1) (drop (suc n) ths)
  step_on [] zero b e = refl
  step_on [] (suc n) b e = refl
  step_on (x ∷ xs) zero b e = ap (λ (t : Bool). t || some_can p m (b + 1) xs) e
  step_on (x ∷ xs) (suc n) b e = step_on xs n b e

  pub passed : (n : ℕ) (x : Bool) → able p m n (slice_get m.threads n) ≡ false → some_can p m n (drop n m.threads) ≡ x → some_can p m (n + 1) (drop (n + 1) m.threads) ≡ x
  passed n x e h =
      let next : n + 1 ≡ suc n = omega arith in
      ap (λ (k : ℕ). some_can p m (n + 1) (drop k m.threads)) next ∙ (sym (step_on m.threads n n e) ∙ h)

  -- no thread lies between a number and itself
  pub first_here : (n : ℕ) → IsFirst p m n n
  first_here n = (omega arith, λ u l h. absurd (omega (arith, l, h)))

  -- a thread that can't step is behind those before it
  pub first_further : (first n : ℕ) → IsFirst p m first n → able p m n (slice_get m.threads n) ≡ false → IsFirst p m first (n + 1)
  first_further first n is e = (omega (arith, is.0), unable)
    where
      by_place : (u : ℕ) → first ≤ u → u < n + 1 → (u < n) ⊎ (n ≤ u) → able p m u (slice_get m.threads u) ≡ false
      by_place u l h (inl lt) = is.1 u l lt
      by_place u l h (inr ge) =
          let same : n ≡ u = omega (arith, h, ge) in
          subst (λ (k : ℕ). able p m k (slice_get m.threads k) ≡ false) same e

      unable : AreUnable p m first (n + 1)
      unable u l h = by_place u l h (cases_lt u n)

  -- a thread that can step is there
  pub there : (t : ℕ) (o : Option ThreadState) → able p m t o ≡ true → (th : ThreadState) × (o ≡ Some th) × (can_step p m t th ≡ true)
  there t None e = absurd cc
  there t (Some th) e = (th, refl, e)

  -- one that can makes some that can
  some_at : (ths : List ThreadState) (n b : ℕ) (th : ThreadState) → slice_get ths n ≡ Some th → can_step p m (b + n) th ≡ true → some_can p m b ths ≡ true
  some_at [] n b th e can = absurd cc
  some_at (x ∷ xs) zero b th e can =
      let one : x ≡ th = cc in
      let here : b ≡ b + 0 = omega arith in
      ap (λ (t : Bool). t || some_can p m (b + 1) xs) (ap (can_step p m b) one ∙ (ap (λ (k : ℕ). can_step p m k th) here ∙ can))
  some_at (x ∷ xs) (suc n) b th e can =
      let further : (b + 1) + n ≡ b + suc n = omega arith in
      or_right (can_step p m b x) (some_at xs n (b + 1) th e (ap (λ (k : ℕ). can_step p m k th) further ∙ can))
    where
      or_right : (a : Bool) → some_can p m (b + 1) xs ≡ true → (a || some_can p m (b + 1) xs) ≡ true
      or_right true h = refl
      or_right false h = h

  pub some_of : (t : ℕ) (th : ThreadState) → slice_get m.threads t ≡ Some th → can_step p m t th ≡ true → some_can p m 0 m.threads ≡ true
  some_of t th e can =
      let first : 0 + t ≡ t = omega arith in
      some_at m.threads t 0 th e (ap (λ (k : ℕ). can_step p m k th) first ∙ can)
