-- How a run that can't go on stands.
use Rattle.std.proofs.Common.{◌≡◌, ◌≢◌, ℕ, ◌<◌, ◌≤◌, ◌==◌, ◌⊎◌, inl, inr, true, false, if◌then◌else◌, length, List, [], ◌∷◌, refl, ap, ◌∙◌, arith}
use Rattle.std.specs.Prelude.{slice_get}
use Rattle.std.proofs.lemmas.Bool.{cases_lt}
use Rattle.std.proofs.lemmas.Bool.Decides.{Decides-eqb}
use Rattle.std.proofs.lemmas.Option.{slice_get_past}
use Rattle.std.specs.List.{list_all}
use Rattle.program_image.specs.Program.{Program}
use Rattle.machine_state.specs.declared.state.End.TheVariants.{AllEnded, Dead, Going}
use Rattle.machine_state.specs.declared.state.ThreadState.{ThreadState}
use Rattle.machine_state.specs.Runs.{end_of, some_can}
use Rattle.machine_state.specs.State.{State, is_ended}
use Rattle.scheduler.specs.Running.{at_limit}

-- ---- lists

-- a list of no items
pub no_items : {A : Type 0} (xs : List A) → (length xs == 0) ≡ true → xs ≡ []
no_items [] e = refl
no_items (x ∷ xs) e = absurd (omega (arith, (Decides-eqb (length (x ∷ xs)) 0).0 e))

-- a list of some
pub some_items : {A : Type 0} (xs : List A) → (length xs == 0) ≡ false → xs ≢ []
some_items [] e h = cc
some_items (x ∷ xs) e h = cc

-- ---- limits

-- where none of all threads is at its limit, there is none
pub none_at_limit : (limit n : ℕ) (threads : List ThreadState) → length threads ≤ n
    → ((k : ℕ) → k < n → at_limit limit (slice_get threads k) ≡ false)
    → (t : ℕ) → at_limit limit (slice_get threads t) ≡ false
none_at_limit limit n threads all below t = by_place (cases_lt t n)
  where
    by_place : (t < n) ⊎ (n ≤ t) → at_limit limit (slice_get threads t) ≡ false
    by_place (inl lt) = below t lt
    by_place (inr ge) = ap (at_limit limit) (slice_get_past threads t (omega arith))

-- ---- the end

-- all threads have ended
pub ends_done : (p : Program) (m : State) → list_all (λ th. is_ended th.mode) m.threads ≡ true
    → end_of p m ≡ AllEnded
unfolding end_of
ends_done p m e = ap (λ b. if b then AllEnded else
    (if some_can p m 0 m.threads then Going else Dead)) e

-- one hasn't, and none can step
pub ends_dead : (p : Program) (m : State) → list_all (λ th. is_ended th.mode) m.threads ≡ false
    → some_can p m 0 m.threads ≡ false → end_of p m ≡ Dead
unfolding end_of
ends_dead p m e n = ap (λ b. if b then AllEnded else
    (if some_can p m 0 m.threads then Going else Dead)) e ∙ ap (λ b. if b then Going else Dead) n
