-- A loop over so many parts.
use Rattle.std.proofs.Common.{◌≡◌, ℕ, suc, ◌+◌, ◌-◌, ◌<◌, ◌≤◌, List, [], ◌∷◌, ◌++◌, Result, Ok, refl, sym, ◌∙◌, arith}
use Rattle.std.specs.Int.{w16}
use Rattle.std.specs.Prelude.{slice_get, Some}
use Rattle.jvm_base.specs.Told.{Fails}
use Rattle.jvm_base.proofs.Telling.{fails_on}
use Rattle.jvm_base.specs.declared.pool.PoolItem.{PoolItem}
use Rattle.jvm_base.specs.declared.pool.PoolItem.TheVariants.{Gap}
use Rattle.class_file.specs.declared.error.ClassErr.{ClassErr}
use Rattle.class_file.specs.Reasons.{told}
use Rattle.class_file.specs.Reading.Words.{Place, ◌>>=◌, number_at, each_at, counted_at, adding}

module _ {S : Type 0} (part : S → Place → Result (S × Place) ClassErr) where
  step : (count i : ℕ) (s : S) (p : Place) → i < count → each_at part (count - i) s p ≡ (part s p >>= λ x. each_at part (count - (i + 1)) x.0 x.1)
  unfolding each_at
  step count i s p lt = let k : count - i ≡ suc (count - (i + 1)) = omega arith in rw k refl

  pub starts : (s : S) (p : Place) (count : ℕ) (q : Place) → number_at w16 p ≡ Ok (count, q) → each_at part (count - 0) s q ≡ counted_at part s p
  unfolding counted_at
  starts s p count q h = let k : count - 0 ≡ count = omega arith in rw (k, h) refl

  pub fails_count : (e : ClassErr) (s : S) (p : Place) → Fails told e (number_at w16 p) → Fails told e (counted_at part s p)
  unfolding counted_at
  fails_count e s p h = fails_on told e (number_at w16 p) _ h

  pub goes_on : (count i : ℕ) (s : S) (p : Place) (t : S) (q : Place) (total : Result (S × Place) ClassErr) → i < count → part s p ≡ Ok (t, q)
      → each_at part (count - i) s p ≡ total → each_at part (count - (i + 1)) t q ≡ total
  goes_on count i s p t q total lt h so_far =
      let one : each_at part (count - i) s p ≡ each_at part (count - (i + 1)) t q = step count i s p lt ∙ rw h refl in
      sym one ∙ so_far

  pub ends : (e : ClassErr) (count i : ℕ) (s : S) (p : Place) (total : Result (S × Place) ClassErr) → i < count → Fails told e (part s p)
      → each_at part (count - i) s p ≡ total → Fails told e total
  ends e count i s p total lt h so_far =
      let one : Fails told e (each_at part (count - i) s p) = rw (step count i s p lt) (fails_on told e (part s p) _ h) in
      rw (← so_far) one

  pub is_done : (count i : ℕ) (s : S) (p : Place) (total : Result (S × Place) ClassErr) → count ≤ i → each_at part (count - i) s p ≡ total → total ≡ Ok (s, p)
  unfolding each_at
  is_done count i s p total le so_far =
      let k : count - i ≡ 0 = omega arith in
      let one : each_at part (count - i) s p ≡ Ok (s, p) = rw k refl in
      sym so_far ∙ one

-- loops that add an item each time
module _ {X : Type 0} (item : List X → Place → Result (X × Place) ClassErr) where
  pub adds : (count i : ℕ) (xs : List X) (p : Place) (x : X) (q : Place) (total : Result (List X × Place) ClassErr) → i < count → item xs p ≡ Ok (x, q)
      → each_at (adding item) (count - i) xs p ≡ total → each_at (adding item) (count - (i + 1)) (xs ++ x ∷ []) q ≡ total
  adds count i xs p x q total lt h so_far = goes_on (adding item) count i xs p (xs ++ x ∷ []) q total lt (rw h refl) so_far

  pub adds_no : (e : ClassErr) (count i : ℕ) (xs : List X) (p : Place) (total : Result (List X × Place) ClassErr) → i < count → Fails told e (item xs p)
      → each_at (adding item) (count - i) xs p ≡ total → Fails told e total
  adds_no e count i xs p total lt h so_far = ends (adding item) e count i xs p total lt (fails_on told e (item xs p) _ h) so_far

pub stays_front : (xs ys : List PoolItem) → slice_get xs 0 ≡ Some Gap → slice_get (xs ++ ys) 0 ≡ Some Gap
stays_front [] ys h = absurd cc
stays_front (x ∷ xs) ys h = h
