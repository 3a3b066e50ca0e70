-- Tests of the first values of a list, one more each time.
use Rattle.std.proofs.Common.{◌≡◌, ℕ, zero, suc, ◌+◌, Bool, false, ◌||◌, List, [], ◌∷◌, refl, ap, ◌∙◌, sym, take, add-one}
use Rattle.std.specs.Prelude.{slice_get}
use Rattle.std.specs.List.{list_any}
use Rattle.jvm_base.specs.Words.{from}
use Rattle.hierarchy.proofs.Tests.{or_assoc, or_false}

-- the next value, if there is one
by_suc : {A : Type 0} (p : A → Bool) (xs : List A) (i : ℕ) → list_any p (take (suc i) xs) ≡ (list_any p (take i xs) || from false p (slice_get xs i))
by_suc p [] zero = refl
by_suc p [] (suc i) = refl
by_suc p (x ∷ xs) zero = sym (or_false (p x))
by_suc p (x ∷ xs) (suc i) = ap (λ b. p x || b) (by_suc p xs i) ∙ or_assoc (p x) _ _

-- the same, with a sum
pub any_next : {A : Type 0} (p : A → Bool) (xs : List A) (i : ℕ) → list_any p (take (i + 1) xs) ≡ (list_any p (take i xs) || from false p (slice_get xs i))
any_next p xs i = rw add-one (by_suc p xs i)
