-- Tests of names and places, and options.
use Rattle.std.proofs.Common.{◌≡◌, ◌≢◌, ◌⊎◌, inl, inr, ℕ, zero, suc, Bool, true, false, ◌==◌, List, [], ◌∷◌, Option, Some, None, refl, sym, ap, arith}
use Rattle.std.specs.Prelude.{slice_get, slice_set}
use Rattle.std.proofs.lemmas.Bool.Decides.{Decides-eqb}
use Rattle.std.specs.Cmp.{IsTotalOrder, nat_cmp_total, eq_by_cmp_equiv}
use Rattle.std.proofs.lemmas.Cmp.{on_total, then_total}
use Rattle.jvm_base.specs.declared.name.Name.{Name}
use Rattle.jvm_base.specs.Names.{name_cmp, name_eq}

-- names are ordered totally
pub names_total : IsTotalOrder name_cmp
names_total = then_total (on_total (λ n. n.node) nat_cmp_total) (then_total (on_total (λ n. n.class) nat_cmp_total) (on_total (λ n. n.index) nat_cmp_total))

-- a name equals itself
pub name_itself : (a : Name) → name_eq a a ≡ true
name_itself a = (eq_by_cmp_equiv names_total).refl a

-- two numbers are one or not
pub same_or : (j k : ℕ) → (j ≡ k) ⊎ (j ≢ k)
same_or j k = by_test (j == k) refl
  where
    by_test : (b : Bool) → (j == k) ≡ b → (j ≡ k) ⊎ (j ≢ k)
    by_test true e = inl ((Decides-eqb j k).0 e)
    by_test false e = inr (λ h. absurd (grind (arith, e, (Decides-eqb j k).1 h)))

-- equal numbers pass the test
pub test_true : (j k : ℕ) → j ≡ k → (j == k) ≡ true
test_true j k h = (Decides-eqb j k).1 h

-- other numbers fail it
pub test_false : (j k : ℕ) → j ≢ k → (j == k) ≡ false
test_false j k ne = by_test (j == k) refl
  where
    by_test : (b : Bool) → (j == k) ≡ b → (j == k) ≡ false
    by_test true e = absurd (ne ((Decides-eqb j k).0 e))
    by_test false e = e

-- values that are there are one where the options are
pub some_is : {A : Type 0} {x y : A} → Some x ≡ Some y → x ≡ y
some_is e = cc

-- an option is not both empty and full
pub not_both : {A : Type 0} {x : A} {o : Option A} → o ≡ None → o ≡ Some x → ⊥
not_both e h = cc

-- an item after another is set
pub set_same : {A : Type 0} (vs : List A) (i : ℕ) (v w : A) → slice_get (slice_set vs i v) i ≡ Some w → w ≡ v
set_same [] i v w e = absurd cc
set_same (x ∷ xs) zero v w e = sym (some_is e)
set_same (x ∷ xs) (suc i) v w e = set_same xs i v w e

-- other items stay where one is set
pub set_other : {A : Type 0} (vs : List A) (i j : ℕ) (v : A) → j ≢ i → slice_get (slice_set vs i v) j ≡ slice_get vs j
set_other [] i j v ne = refl
set_other (x ∷ xs) zero zero v ne = absurd (ne refl)
set_other (x ∷ xs) zero (suc j) v ne = refl
set_other (x ∷ xs) (suc i) zero v ne = refl
set_other (x ∷ xs) (suc i) (suc j) v ne = set_other xs i j v (λ e. ne (ap suc e))
