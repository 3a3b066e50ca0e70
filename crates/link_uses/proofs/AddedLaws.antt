-- The texts of a pool that were added to names.
use Rattle.std.proofs.Common.{◌≡◌, ℕ, zero, suc, Bool, true, false, List, [], ◌∷◌, ◌++◌, Option, Some, None, replicate, inl, inr, ◌⊎◌, refl, sym, ap, ◌∙◌}
use Rattle.std.specs.Prelude.{slice_get, if◌then◌else◌}
use Rattle.std.proofs.Math.ListN.{set}
use Rattle.jvm_base.specs.declared.pool.PoolItem.{PoolItem}
use Rattle.jvm_base.specs.Words.{from}
use Rattle.class_names.specs.Known.{is_known, add_name}
use Rattle.class_names.specs.Texts.{text_in}
use Rattle.link_uses.specs.Kept.{AreAdded}
use Rattle.link_uses.proofs.OwnedBuilt.{known_added as name_known, known_kept}

-- before any was added
pub none_added : (names : List (List ℕ)) (pool : List PoolItem) (n : ℕ) → AreAdded names pool (replicate n false)
none_added names pool n = record { each = λ t h. absurd (none n t h) }
  where
    none : (n t : ℕ) → slice_get (replicate n false) t ≡ Some true → ⊥
    none zero t h = absurd cc
    none (suc n) zero h = absurd cc
    none (suc n) (suc t) h = none n t h

get_set : (xs : List Bool) (c d : ℕ) (x y : Bool) → slice_get (set xs c x) d ≡ Some y → (d ≡ c) ⊎ (slice_get xs d ≡ Some y)
get_set [] c d x y e = inr e
get_set (z ∷ zs) zero zero x y e = inl refl
get_set (z ∷ zs) zero (suc d) x y e = inr e
get_set (z ∷ zs) (suc c) zero x y e = inr e
get_set (z ∷ zs) (suc c) (suc d) x y e = elim (get_set zs c d x y e) [
  | inl h ↦ inl (ap suc h)
  | inr h ↦ inr h
]

-- one more is marked
pub added_set : (names : List (List ℕ)) (pool : List PoolItem) (added : List Bool) (index : ℕ) → AreAdded names pool added → is_known names (text_in pool index) ≡ true → AreAdded names pool (set added index true)
added_set names pool added index a known = record {
  each = λ t h. elim (get_set added index t true true h) [
    | inl q ↦ ap (λ k. is_known names (text_in pool k)) q ∙ known
    | inr q ↦ a.each t q
  ];
}

-- names grow
pub added_kept : (names new : List (List ℕ)) (pool : List PoolItem) (added : List Bool) (x : List ℕ) → new ≡ add_name names x → AreAdded names pool added → AreAdded new pool added
added_kept names new pool added x e a = record {
  each = λ t h. ap (λ z. is_known z (text_in pool t)) e ∙ known_kept names x (text_in pool t) (a.each t h);
}

-- a text that is marked changes nothing
pub added_there : (names : List (List ℕ)) (pool : List PoolItem) (added : List Bool) (index : ℕ) → AreAdded names pool added → from false (λ b. b) (slice_get added index) ≡ true → names ≡ add_name names (text_in pool index)
added_there names pool added index a h = by (slice_get added index) refl h
  where
    by : (o : Option Bool) → slice_get added index ≡ o → from false (λ b. b) o ≡ true → names ≡ add_name names (text_in pool index)
    by None e q = absurd cc
    by (Some b) e q = sym (ap (λ b. if b then names else names ++ text_in pool index ∷ []) (a.each index (e ∙ ap Some q)))

-- a text that was added is known
pub known_added : (names new : List (List ℕ)) (x : List ℕ) → new ≡ add_name names x → is_known new x ≡ true
known_added names new x e = ap (λ z. is_known z x) e ∙ name_known names x
