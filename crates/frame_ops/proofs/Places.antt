-- An instruction is found by its address.
use Rattle.std.proofs.Common.{◌≡◌, refl, sym, ap, ◌∙◌, ℕ, zero, suc, ◌<◌, ◌≤◌, ◌==◌, true, false, List, [], ◌∷◌, length, Some, None, inl, inr, arith}
use Rattle.std.specs.Prelude.{get_or, find, nat_lt, slice_get}
use Rattle.std.specs.List.Sorted.{IsPartitionPoint, IsPartitionedBy}
use Rattle.std.proofs.lemmas.Bool.Decides.{nat_tests}
use Rattle.std.proofs.lemmas.Option.{slice_get_within, get_or_from_slice_get}
use Rattle.jvm_base.specs.Words.{from}
use Rattle.code_table.specs.declared.code.Placed.{Placed}
use Rattle.flow_types.proofs.TreeLaws.{cases_lt}
use Rattle.frame_ops.specs.Running.Places.{if_there}
use Rattle.frame_ops.specs.Stepping.{IsRising}

-- what stands before a lower address has one
pub partitioned : (ops : List Placed) (at : ℕ) → IsRising ops → IsPartitionedBy (λ o. nat_lt o.at at) ops
partitioned ops at up i j d le lt e =
    elim (cases_lt i j) [
      | inl l ↦
          let h : (get_or ops i d).at < (get_or ops j d).at = up i j d l lt in
          grind (arith, nat_tests)
      | inr l ↦ let q : i ≡ j = omega arith in rw q e
    ]

-- none is found among those with higher addresses
none_above : (ops : List Placed) (at : ℕ) → ((j : ℕ) (d : Placed) → j < length ops → at < (get_or ops j d).at) → find (λ p. p.at == at) ops ≡ None
none_above [] at up = refl
none_above (o ∷ ops) at up =
    let l : at < o.at = up 0 o (omega arith) in
    let h : (o.at == at) ≡ false = grind (arith, nat_tests) in
    rw h (none_above ops at (λ j d lt. up (suc j) d (omega arith)))

-- the one behind those with lower addresses is found, where it has the address
pub found : (ops : List Placed) (at i : ℕ) → IsRising ops → i ≤ length ops → IsPartitionPoint (λ o. nat_lt o.at at ≡ true) (λ o. nat_lt o.at at ≡ false) ops i → from None (if_there at) (slice_get ops i) ≡ find (λ p. p.at == at) ops
found [] at i up le point = refl
found (o ∷ ops) at zero up le point =
    let h : nat_lt o.at at ≡ false = point.1 0 o (omega arith) (omega arith) in
    let l : at ≤ o.at = grind (arith, nat_tests) in
    let none : find (λ p. p.at == at) ops ≡ None =
    none_above ops at (λ j d lt. let r : o.at < (get_or ops j d).at = up 0 (suc j) d (omega arith) (omega arith) in omega arith) in
    rw none refl
found (o ∷ ops) at (suc i) up le point =
    let h : nat_lt o.at at ≡ true = point.0 0 o (omega arith) (omega arith) in
    let e : (o.at == at) ≡ false = grind (arith, nat_tests) in
    rw e (found ops at i (λ a b d lt below. up (suc a) (suc b) d (omega arith) (omega arith)) (omega arith)
    (λ k d ge lt. point.0 (suc k) d (omega arith) (omega arith), λ k d ge lt. point.1 (suc k) d (omega arith) (omega arith)))

-- an instruction of any place is found by its address
found_there : (ops : List Placed) (at i : ℕ) (p : Placed) → IsRising ops → slice_get ops i ≡ Some p → p.at ≡ at → Some p ≡ find (λ p. p.at == at) ops
found_there [] at i p up is here = absurd cc
found_there (o ∷ ops) at zero p up is here =
    let one : o ≡ p = cc in
    let u : o.at ≡ p.at = ap (λ (x : Placed). x.at) one in
    let h : (o.at == at) ≡ true = grind (arith, nat_tests) in
    rw h (sym is)
found_there (o ∷ ops) at (suc i) p up is here =
    let in_ops : i < length ops = slice_get_within ops i p is in
    let one : get_or ops i p ≡ p = get_or_from_slice_get ops i p p is in
    let l : o.at < (get_or ops i p).at = up 0 (suc i) p (omega arith) (omega arith) in
    let h : (o.at == at) ≡ false = grind (arith, nat_tests) in
    rw h (found_there ops at i p (λ a b d lt below. up (suc a) (suc b) d (omega arith) (omega arith)) is here)

-- so is one that was tried
pub found_near : (ops : List Placed) (at i : ℕ) (p : Placed) → IsRising ops → slice_get ops i ≡ Some p → p.at ≡ at → from None (if_there at) (slice_get ops i) ≡ find (λ p. p.at == at) ops
found_near ops at i p up is here =
    let h : (p.at == at) ≡ true = grind (arith, nat_tests) in
    let one : if_there at p ≡ Some p = rw h refl in
    ap (from None (if_there at)) is ∙ one ∙ found_there ops at i p up is here
