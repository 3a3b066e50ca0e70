-- Instructions by their addresses and by their places.
use Rattle.std.proofs.Common.{◌≡◌, ap, subst, refl, ℕ, zero, suc, ◌<◌, ◌≤◌, Bool, true, false, List, [], ◌∷◌, length, slice_get, Option, Some, find, nat_lt, arith}
use Rattle.std.specs.Prelude.{◌==◌, ◌||◌, if◌then◌else◌}
use Rattle.std.proofs.lemmas.Bool.Decides.{nat_tests}
use Rattle.jvm_base.specs.declared.pool.PoolItem.{PoolItem}
use Rattle.code_table.specs.Sequences.{Leads, EndsWithin}
use Rattle.code_table.specs.Targets.{is_start}
use Rattle.code_table.specs.declared.code.Placed.{Placed}
use Rattle.code_table.proofs.ReadAt.{instruction_within}
use Rattle.flow_verifier.specs.Methods.{place_of}

-- the instruction of an address
abbrev pub at_address : ℕ → List Placed → Option Placed
at_address at ps = find (λ o. o.at == at) ps

-- an address is that of an instruction at a place
pub record Stands (ps : List Placed) (at : ℕ) : Type 0 where
  pub place : ℕ
  pub placed : Placed
  pub is_placed : slice_get ps place ≡ Some placed
  pub here : placed.at ≡ at

-- an address where one begins is such a one
pub start_stands : (ps : List Placed) (at : ℕ) → is_start ps at ≡ true → Stands ps at
unfolding is_start
start_stands [] at e = absurd cc
start_stands (o ∷ ps) at e = by_test (o.at == at) refl e (start_stands ps at)
  where
    by_test : (t : Bool) → (o.at == at) ≡ t → (t || is_start ps at) ≡ true → (is_start ps at ≡ true → Stands ps at) → Stands (o ∷ ps) at
    by_test true q f again = record { place = 0; placed = o; is_placed = refl; here = grind (arith, nat_tests) }
    by_test false q f again =
        let s : Stands ps at = again f in
        record { place = suc s.place; placed = s.placed; is_placed = s.is_placed; here = s.here }

-- instructions that follow each other
module _ (code : List ℕ) (pool : List PoolItem) where
  -- none stands before the first
  behind : (at : ℕ) (ps : List Placed) (to : ℕ) → Leads code pool at ps to → (i : ℕ) (o : Placed) → slice_get ps i ≡ Some o → at ≤ o.at
  behind at [] to l i o e = absurd cc
  behind at (q ∷ qs) to l zero o e =
      let w : EndsWithin at (length code) q = instruction_within code pool at q (l.0) in
      let s : q ≡ o = cc in
      subst (λ (x : Placed). at ≤ x.at) s (let h : q.at ≡ at = w.here in omega arith)
  behind at (q ∷ qs) to l (suc i) o e =
      let w : EndsWithin at (length code) q = instruction_within code pool at q (l.0) in
      let h : q.next ≤ o.at = behind q.next qs to (l.1) i o e in
      let b : at < q.next = w.behind in
      omega arith

  -- the first one's address is lower than those of the others
  lower : (at : ℕ) (q : Placed) (qs : List Placed) (to : ℕ) → Leads code pool at (q ∷ qs) to → (i : ℕ) (o : Placed) → slice_get qs i ≡ Some o → q.at < o.at
  lower at q qs to l i o e =
      let w : EndsWithin at (length code) q = instruction_within code pool at q (l.0) in
      let h : q.next ≤ o.at = behind q.next qs to (l.1) i o e in
      let b : at < q.next = w.behind in
      let s : q.at ≡ at = w.here in
      omega arith

  -- the first one has the first address
  pub first_at : (at : ℕ) (ps : List Placed) (to : ℕ) → Leads code pool at ps to → (o : Placed) → slice_get ps 0 ≡ Some o → o.at ≡ at
  first_at at [] to l o e = absurd cc
  first_at at (q ∷ qs) to l o e =
      let w : EndsWithin at (length code) q = instruction_within code pool at q (l.0) in
      let s : q ≡ o = cc in
      subst (λ (x : Placed). x.at ≡ at) s w.here

  -- one stands where the one before it ends
  pub next_at : (at : ℕ) (ps : List Placed) (to : ℕ) → Leads code pool at ps to → (i : ℕ) (a b : Placed) → slice_get ps i ≡ Some a → slice_get ps (suc i) ≡ Some b → b.at ≡ a.next
  next_at at [] to l i a b e f = absurd cc
  next_at at (q ∷ qs) to l zero a b e f =
      let s : q ≡ a = cc in
      subst (λ (x : Placed). b.at ≡ x.next) s (first_at q.next qs to (l.1) b f)
  next_at at (q ∷ qs) to l (suc i) a b e f = next_at q.next qs to (l.1) i a b e f

  -- what is found by an address stands at its place
  pub found_at : (at0 : ℕ) (ps : List Placed) (to : ℕ) → Leads code pool at0 ps to → (at : ℕ) (o : Placed) → at_address at ps ≡ Some o → (slice_get ps (place_of ps at) ≡ Some o) × (o.at ≡ at)
  unfolding place_of
  found_at at0 [] to l at o e = absurd cc
  found_at at0 (q ∷ qs) to l at o e = by_test (q.at == at) refl e (found_at q.next qs to (l.1) at o)
    where
      by_test : (t : Bool) → (q.at == at) ≡ t → (if t then Some q else at_address at qs) ≡ Some o → (at_address at qs ≡ Some o → (slice_get qs (place_of qs at) ≡ Some o) × (o.at ≡ at)) → (slice_get (q ∷ qs) (if nat_lt q.at at then suc (place_of qs at) else 0) ≡ Some o) × (o.at ≡ at)
      by_test true t f again =
          let s : q ≡ o = cc in
          let n : nat_lt q.at at ≡ false = grind (arith, nat_tests) in
          let h : q.at ≡ at = grind (arith, nat_tests) in
          (rw n (ap (λ (x : Placed). Some x) s), subst (λ (x : Placed). x.at ≡ at) s h)
      by_test false t f again =
          let (a, b) = again f in
          let k : q.at < o.at = lower at0 q qs to l (place_of qs at) o a in
          let n : nat_lt q.at at ≡ true = grind (arith, nat_tests) in
          (rw n a, b)

  -- what stands at a place is found by its address, and has that place
  pub placed_at : (at0 : ℕ) (ps : List Placed) (to : ℕ) → Leads code pool at0 ps to → (i : ℕ) (o : Placed) → slice_get ps i ≡ Some o → (at_address o.at ps ≡ Some o) × (place_of ps o.at ≡ i)
  unfolding place_of
  placed_at at0 [] to l i o e = absurd cc
  placed_at at0 (q ∷ qs) to l zero o e =
      let s : q ≡ o = cc in
      let t : (q.at == o.at) ≡ true = subst (λ (x : Placed). (q.at == x.at) ≡ true) s (grind (arith, nat_tests)) in
      let n : nat_lt q.at o.at ≡ false = grind (arith, nat_tests) in
      (rw t (ap (λ (x : Placed). Some x) s), rw n refl)
  placed_at at0 (q ∷ qs) to l (suc i) o e =
      let (a, b) = placed_at q.next qs to (l.1) i o e in
      let k : q.at < o.at = lower at0 q qs to l i o e in
      let t : (q.at == o.at) ≡ false = grind (arith, nat_tests) in
      let n : nat_lt q.at o.at ≡ true = grind (arith, nat_tests) in
      (rw t a, rw n (ap suc b))
