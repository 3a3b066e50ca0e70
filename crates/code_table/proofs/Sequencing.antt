-- The computed instructions are those that cover the code, and the computed refusal is where they stop.
use Rattle.std.proofs.Common.{◌≡◌, ℕ, zero, suc, ◌+◌, ◌<◌, ◌≤◌, ◌⊎◌, inl, inr, List, [], ◌∷◌, length, Result, Ok, Err, refl, sym, ◌∙◌, true, false, nat_lt, All, arith}
use Rattle.std.specs.Prelude.{AllPairs}
use Rattle.std.proofs.lemmas.List.Kept.{AllPairs-cons}
use Rattle.std.proofs.lemmas.List.Elements.{All-cons}
use Rattle.std.proofs.lemmas.Bool.{cases_Bool}
use Rattle.std.proofs.lemmas.Bool.Decides.{nat_tests}
use Rattle.jvm_base.specs.declared.pool.PoolItem.{PoolItem}
use Rattle.code_table.specs.declared.error.CodeErr.{CodeErr}
use Rattle.code_table.specs.declared.code.Placed.{Placed}
use Rattle.jvm_base.specs.Refusing.{◌>>=◌}
use Rattle.code_table.specs.Instructions.{instruction_at}
use Rattle.code_table.specs.Sequences.{Leads, Covers, instructions_from, instructions_of}
use Rattle.code_table.specs.Accepted.{Stops}
use Rattle.jvm_base.proofs.Refusing.{ok_is, bind_ok, bind_err}
use Rattle.code_table.proofs.ReadAt.{instruction_within}

module _ (code : List ℕ) (pool : List PoolItem) where
  -- the rest behind an instruction
  rest_of : ℕ → Placed → Result (List Placed) CodeErr
  rest_of most p = instructions_from most code pool p.next >>= λ ps. Ok (p ∷ ps)

  -- within the code one instruction is looked for, then the rest
  inside : (most at : ℕ) → at < length code → instructions_from (suc most) code pool at ≡ (instruction_at code pool at >>= rest_of most)
  unfolding instructions_from rest_of
  inside most at below = let t : nat_lt at (length code) ≡ true = grind (arith, nat_tests) in rw t refl

  -- past the code there is none
  outside : (most at : ℕ) → length code ≤ at → instructions_from most code pool at ≡ Ok []
  unfolding instructions_from
  outside zero at above = refl
  outside (suc most) at above = let t : nat_lt at (length code) ≡ false = grind (arith, nat_tests) in rw t refl

  -- none where there may be none
  none_left : (at : ℕ) → instructions_from zero code pool at ≡ Ok []
  unfolding instructions_from
  none_left at = refl

  -- an address lies within the code or past it
  below_or_not : (at : ℕ) → (at < length code) ⊎ (length code ≤ at)
  below_or_not at = elim (cases_Bool (nat_lt at (length code))) [ inl t ↦ inl (grind (arith, nat_tests)) | inr f ↦ inr (grind (arith, nat_tests)) ]

  -- what is computed from an address on leads to the end
  covers : (most at : ℕ) (ps : List Placed) → length code ≤ at + most → at ≤ length code → instructions_from most code pool at ≡ Ok ps → Leads code pool at ps (length code)
  unfolding rest_of
  covers zero at ps enough within h =
      let e : ps ≡ [] = sym (ok_is [] ps (sym (outside zero at (omega arith)) ∙ h)) in
      rw e (omega arith)
  covers (suc most) at ps enough within h = elim (below_or_not at) [
    | inl below ↦
        let a = bind_ok (instruction_at code pool at) (rest_of most) ps (sym (inside most at below) ∙ h) in
        let b = bind_ok (instructions_from most code pool a.0.next) (λ qs. Ok (a.0 ∷ qs)) ps a.2 in
        let w = instruction_within code pool at a.0 a.1 in
        let behind = w.behind in
        let all = covers most a.0.next b.0 (omega arith) w.within b.1 in
        let e : ps ≡ a.0 ∷ b.0 = sym (ok_is (a.0 ∷ b.0) ps b.2) in
        rw e (a.1, all)
    | inr above ↦
        let e : ps ≡ [] = sym (ok_is [] ps (sym (outside (suc most) at above) ∙ h)) in
        rw e (omega arith)
  ]

  -- what leads to the end is what is computed
  covered : (ps : List Placed) (most at : ℕ) → length code ≤ at + most → Leads code pool at ps (length code) → instructions_from most code pool at ≡ Ok ps
  unfolding rest_of
  covered [] most at enough h = outside most at (omega arith)
  covered (p ∷ ps) zero at enough h = let w = instruction_within code pool at p h.0 in let behind = w.behind in let within = w.within in absurd (omega arith)
  covered (p ∷ ps) (suc most) at enough h =
      let w = instruction_within code pool at p h.0 in
      let behind = w.behind in
      let within = w.within in
      inside most at (omega arith) ∙ rw (h.0, covered ps most p.next (omega arith) h.1) refl

  -- a computed refusal is where the instructions stop
  stops : (most at : ℕ) (e : CodeErr) → instructions_from most code pool at ≡ Err e → Stops code pool at e
  unfolding rest_of
  stops zero at e h = absurd (let z : instructions_from zero code pool at ≡ Ok [] = none_left at in cc)
  stops (suc most) at e h = elim (below_or_not at) [
    | inl below ↦ elim (bind_err (instruction_at code pool at) (rest_of most) e (sym (inside most at below) ∙ h)) [
      | inl why ↦ record { before = []; at = at; leads = refl; below = below; why = why }
      | inr x ↦ elim (bind_err (instructions_from most code pool x.0.next) (λ qs. Ok (x.0 ∷ qs)) e x.2) [
        | inl later ↦
            let s = stops most x.0.next e later in
            record { before = x.0 ∷ s.before; at = s.at; leads = (x.1, s.leads); below = s.below; why = s.why }
        | inr y ↦ absurd (cc)
      ]
    ]
    | inr above ↦ absurd (let z = outside (suc most) at above in cc)
  ]

  -- where they stop is the computed refusal
  stopped : (before : List Placed) (most from at : ℕ) (e : CodeErr) → length code ≤ from + most → Leads code pool from before at → at < length code → instruction_at code pool at ≡ Err e
      → instructions_from most code pool from ≡ Err e
  unfolding rest_of
  stopped [] zero from at e enough h below why = absurd (let same : from ≡ at = h in omega arith)
  stopped [] (suc most) from at e enough h below why = let same : from ≡ at = h in rw same (inside most at below ∙ rw why refl)
  stopped (p ∷ before) zero from at e enough h below why =
      let w = instruction_within code pool from p h.0 in let behind = w.behind in let within = w.within in absurd (omega arith)
  stopped (p ∷ before) (suc most) from at e enough h below why =
      let w = instruction_within code pool from p h.0 in
      let behind = w.behind in
      let within = w.within in
      inside most from (omega arith) ∙ rw (h.0, stopped before most p.next at e (omega arith) h.1 below why) refl

  -- the computed instructions cover the code
  pub all_cover : (ps : List Placed) → instructions_of code pool ≡ Ok ps → Covers code pool ps
  unfolding instructions_of
  all_cover ps h = covers (length code) 0 ps (omega arith) (omega arith) h

  -- those that cover the code are computed
  pub cover_all : (ps : List Placed) → Covers code pool ps → instructions_of code pool ≡ Ok ps
  unfolding instructions_of
  cover_all ps h = covered ps (length code) 0 (omega arith) h

  -- a computed refusal is where they stop
  pub stop_there : (e : CodeErr) → instructions_of code pool ≡ Err e → Stops code pool 0 e
  unfolding instructions_of
  stop_there e h = stops (length code) 0 e h

  -- where they stop is the computed refusal
  pub there_stops : (e : CodeErr) → Stops code pool 0 e → instructions_of code pool ≡ Err e
  unfolding instructions_of
  there_stops e s = stopped s.before (length code) 0 s.at e (omega arith) s.leads s.below s.why

  -- at most one list covers the code
  pub one_cover : (a b : List Placed) → Covers code pool a → Covers code pool b → a ≡ b
  one_cover a b ha hb = ok_is a b (sym (cover_all a ha) ∙ cover_all b hb)

  -- all that follow an address lie at it or behind it
  lie_behind : (ps : List Placed) (at to : ℕ) → Leads code pool at ps to → All (λ p. at ≤ p.at) ps
  lie_behind [] at to h = λ k d below. absurd (omega arith)
  lie_behind (p ∷ ps) at to h =
      let w = instruction_within code pool at p h.0 in
      let here = w.here in
      let behind = w.behind in
      let others = lie_behind ps p.next to h.1 in
      All-cons (λ (q : Placed). at ≤ q.at) p ps (omega arith) (λ k d below. let o = others k d below in omega arith)

  -- the addresses rise
  pub rises : (ps : List Placed) (at to : ℕ) → Leads code pool at ps to → AllPairs (λ p q. p.at < q.at) ps
  rises [] at to h = λ i j d before below. absurd (omega arith)
  rises (p ∷ ps) at to h =
      let w = instruction_within code pool at p h.0 in
      let here = w.here in
      let behind = w.behind in
      let others = lie_behind ps p.next to h.1 in
      AllPairs-cons (λ (q r : Placed). q.at < r.at) p ps (λ k d below. let o = others k d below in omega arith) (rises ps p.next to h.1)
