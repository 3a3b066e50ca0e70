-- Facts on decoded code: its instructions rise, jumps and handlers lead to instructions.
use Rattle.std.proofs.Common.{◌≡◌, subst, refl, ℕ, zero, suc, ◌+◌, ◌<◌, ◌≤◌, true, false, Bool, List, [], ◌∷◌, length, slice_get, Some, nat_lt, ◌==◌, ◌||◌, if◌then◌else◌, Ok, arith}
use Rattle.std.proofs.lemmas.Bool.Decides.{nat_tests}
use Rattle.jvm_base.specs.declared.pool.PoolItem.{PoolItem}
use Rattle.code_table.specs.declared.code.Placed.{Placed}
use Rattle.code_table.specs.Instructions.{instruction_at}
use Rattle.code_table.specs.Sequences.{Leads, Covers, EndsWithin}
use Rattle.code_table.specs.Targets.{is_start}
use Rattle.code_table.proofs.ReadAt.{instruction_within}
use Rattle.flow_verifier.specs.Methods.{place_of}

-- some code, and the pool of its class
module _ (code : List ℕ) (pool : List PoolItem) where
  -- the instruction at an address stands there and ends behind it
  within : (at : ℕ) (p : Placed) → instruction_at code pool at ≡ Ok p → EndsWithin at (length code) p
  within at p e = instruction_within code pool at p e

  -- of instructions that follow each other none stands before the first
  pub follow : (at : ℕ) (ps : List Placed) (to : ℕ) → Leads code pool at ps to → (i : ℕ) (p : Placed) → slice_get ps i ≡ Some p → at ≤ p.at
  follow at [] to l i p e = absurd cc
  follow at (q ∷ qs) to l zero p e =
      let w : EndsWithin at (length code) q = within at q (l.0) in
      let s : q ≡ p = cc in
      subst (λ (x : Placed). at ≤ x.at) s (let h : q.at ≡ at = w.here in omega arith)
  follow at (q ∷ qs) to l (suc i) p e =
      let w : EndsWithin at (length code) q = within at q (l.0) in
      let h : q.next ≤ p.at = follow q.next qs to (l.1) i p e in
      let b : at < q.next = w.behind in
      omega arith

  -- their addresses rise
  pub rise : (at : ℕ) (ps : List Placed) (to : ℕ) → Leads code pool at ps to → (i j : ℕ) (p q : Placed) → slice_get ps i ≡ Some p → slice_get ps j ≡ Some q → i < j → p.at < q.at
  rise at [] to l i j p q e f lt = absurd cc
  rise at (r ∷ rs) to l i zero p q e f lt = absurd (omega arith)
  rise at (r ∷ rs) to l zero (suc j) p q e f lt =
      let w : EndsWithin at (length code) r = within at r (l.0) in
      let s : r ≡ p = cc in
      let h : r.next ≤ q.at = follow r.next rs to (l.1) j q f in
      let b : at < r.next = w.behind in
      subst (λ (x : Placed). x.at < q.at) s (let g : r.at ≡ at = w.here in omega arith)
  rise at (r ∷ rs) to l (suc i) (suc j) p q e f lt = rise r.next rs to (l.1) i j p q e f (omega arith)

  -- there are no more of them than bytes
  pub few : (at : ℕ) (ps : List Placed) (to : ℕ) → Leads code pool at ps to → at + length ps ≤ to
  few at [] to l = let h : at ≡ to = l in omega arith
  few at (q ∷ qs) to l =
      let w : EndsWithin at (length code) q = within at q (l.0) in
      let b : at < q.next = w.behind in
      let h : q.next + length qs ≤ to = few q.next qs to (l.1) in
      omega arith

  -- code that isn't empty has some
  pub some : (ps : List Placed) → Covers code pool ps → 0 < length code → 0 < length ps
  some [] l h = let e : 0 ≡ length code = l in absurd (omega arith)
  some (q ∷ qs) l h = omega arith

-- behind an instruction of a lower address
placed_behind : (o : Placed) (ps : List Placed) (at : ℕ) (lower : Bool) → nat_lt o.at at ≡ lower → (o.at == at || is_start ps at) ≡ true → (is_start ps at ≡ true → place_of ps at < length ps) → (if lower then suc (place_of ps at) else 0) < suc (length ps)
placed_behind o ps at false l e next = omega arith
placed_behind o ps at true l e next =
    let n : (o.at == at) ≡ false = grind (arith, nat_tests) in
    let s : is_start ps at ≡ true = cc in
    let h : place_of ps at < length ps = next s in
    omega arith

-- an instruction's address has a place below the count
pub start_placed : (ps : List Placed) (at : ℕ) → is_start ps at ≡ true → place_of ps at < length ps
unfolding is_start place_of
start_placed [] at e = absurd cc
start_placed (o ∷ ps) at e = placed_behind o ps at (nat_lt o.at at) refl e (start_placed ps at)
