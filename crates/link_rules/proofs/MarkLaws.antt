-- A table of marks grows by one text.
use Rattle.std.proofs.Common.{◌≡◌, ℕ, zero, suc, ◌+◌, Bool, List, [], ◌∷◌, ◌++◌, length, Some, slice_get, sym, ap, ◌∙◌, subst}
use Rattle.std.proofs.lemmas.List.{length_push}
use Rattle.jvm_base.specs.declared.pool.PoolItem.{PoolItem}
use Rattle.class_names.specs.Texts.{text_in}
use Rattle.link_rules.specs.Marks.{IsTold, AreTested}

-- what stands in a list with one more item
pub last_or_before : {A : Type 0} (xs : List A) (x y : A) (t : ℕ) → slice_get (xs ++ x ∷ []) t ≡ Some y → (P : ℕ → A → Type 0) → ((k : ℕ) (z : A) → slice_get xs k ≡ Some z → P k z) → P (length xs) x → P t y
last_or_before [] x y zero e P before last = let s : x ≡ y = cc in subst (P 0) s last
last_or_before [] x y (suc t) e P before last = absurd cc
last_or_before (w ∷ xs) x y zero e P before last = before 0 y e
last_or_before (w ∷ xs) x y (suc t) e P before last = last_or_before xs x y t e (λ k z. P (suc k) z) (λ k z h. before (suc k) z h) last

-- a table that tells what a test says still does, where the test says it of the next text
pub tested_more : (test : List ℕ → Bool) (pool : List PoolItem) (told more : List Bool) (x : Bool) (index : ℕ) → length told ≡ index → AreTested test pool told → x ≡ test (text_in pool index) → more ≡ told ++ x ∷ [] → (length more ≡ index + 1) × AreTested test pool more
tested_more test pool told more x index n tested same grown = (
  ap length grown ∙ length_push told x ∙ ap (λ k. k + 1) n,
  λ t b h.
      last_or_before told x b t (subst (λ (z : List Bool). slice_get z t ≡ Some b) grown h) (λ k z. z ≡ test (text_in pool k)) tested (subst (λ k. x ≡ test (text_in pool k)) (sym n) same),
)

-- what is told of a text of a pool, the table and the pool under other names
pub told_there : (text : List PoolItem → List ℕ) (told s : List Bool) (pool p : List PoolItem) (b x : Bool) → s ≡ told → p ≡ pool → b ≡ x → IsTold s p (text p) b → IsTold told pool (text pool) x
told_there text told s pool p b x es ep eb h = subst (λ (z : List Bool). IsTold z pool (text pool) x) es (subst (λ (z : List PoolItem). IsTold s z (text z) x) ep (subst (λ z. IsTold s p (text p) z) eb h))

-- what is told of a text is what the test says
pub told_tested : (test : List ℕ → Bool) (pool : List PoolItem) (told : List Bool) (text : List ℕ) (b : Bool) → AreTested test pool told → IsTold told pool text b → b ≡ test text
told_tested test pool told text b tested is_told = tested (is_told.0) b (is_told.1.0) ∙ ap test (sym (is_told.1.1))
