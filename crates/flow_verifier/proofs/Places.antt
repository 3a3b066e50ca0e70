-- The place of an instruction is found by its address.
use Rattle.std.proofs.Common.{◌≡◌, sym, ap, refl, ℕ, zero, suc, ◌<◌, ◌≤◌, true, false, List, [], ◌∷◌, length, Some, inl, inr, arith}
use Rattle.std.specs.Prelude.{get_or, nat_lt, slice_get}
use Rattle.std.specs.List.Sorted.{IsPartitionPoint, IsPartitionedBy}
use Rattle.std.proofs.lemmas.Option.{slice_get-get_or}
use Rattle.std.proofs.lemmas.Bool.Decides.{nat_tests}
use Rattle.code_table.specs.declared.code.Placed.{Placed}
use Rattle.flow_types.proofs.TreeLaws.{cases_lt}
use Rattle.flow_verifier.specs.Methods.{place_of}

abbrev pub IsRising : List Placed → Type 0
IsRising ops = (i j : ℕ) (a b : Placed) → slice_get ops i ≡ Some a → slice_get ops j ≡ Some b → i < j → a.at < b.at

-- what stands before a lower address has one
pub partitioned : (ops : List Placed) (at : ℕ) → IsRising ops → IsPartitionedBy (λ o. nat_lt o.at at) ops
partitioned ops at up i j d le lt e =
    elim (cases_lt i j) [
      | inl l ↦
          let h : (get_or ops i d).at < (get_or ops j d).at = up i j (get_or ops i d) (get_or ops j d) (slice_get-get_or ops i d (omega arith)) (slice_get-get_or ops j d lt) l in
          grind (arith, nat_tests)
      | inr l ↦ let q : i ≡ j = omega arith in rw q e
    ]

place_to : (ops : List Placed) (at i : ℕ) → i ≤ length ops → ((k : ℕ) (d : Placed) → k < i → nat_lt (get_or ops k d).at at ≡ true) → ((k : ℕ) (d : Placed) → i ≤ k → k < length ops → nat_lt (get_or ops k d).at at ≡ false) → place_of ops at ≡ i
unfolding place_of
place_to [] at zero le pass fail = refl
place_to [] at (suc i) le pass fail = absurd (omega arith)
place_to (o ∷ ops) at zero le pass fail = rw (fail 0 o (omega arith) (omega arith)) refl
place_to (o ∷ ops) at (suc i) le pass fail =
    rw (pass 0 o (omega arith)) (ap suc (place_to ops at i (omega arith) (λ k d lt. pass (suc k) d (omega arith)) (λ k d ge lt. fail (suc k) d (omega arith) (omega arith))))

pub searched : (ops : List Placed) (at n : ℕ) → n ≤ length ops → IsPartitionPoint (λ o. nat_lt o.at at ≡ true) (λ o. nat_lt o.at at ≡ false) ops n → n ≡ place_of ops at
searched ops at n le point = sym (place_to ops at n le (λ k d lt. point.0 k d (omega arith) lt) (λ k d ge lt. point.1 k d ge lt))
