-- Whether two texts are the same.
use Rattle.std.proofs.Common.{◌≡◌, ℕ, List, Bool, true, false, Option, Some, None, refl, sym, ap}
use Rattle.std.specs.Prelude.{nat_eq}
use Rattle.std.specs.Cmp.Lexicographic.{pointwise}
use Rattle.std.proofs.lemmas.Bool.Decides.{Decides-eqb}
use Rattle.std.proofs.lemmas.Slice.Eq.{slice_eq-Decides}
use Rattle.constant_pool.specs.Items.{is_same_text}

pub same_tests : (a b : Bool) → (a ≡ true → b ≡ true) → (b ≡ true → a ≡ true) → a ≡ b
same_tests true b f g = sym (f refl)
same_tests false true f g = g refl
same_tests false false f g = refl

pub same_is : (t u : Option (List ℕ)) → is_same_text t u ≡ true → t ≡ u
same_is (Some us) (Some vs) e = ap Some ((slice_eq-Decides Decides-eqb us vs (pointwise nat_eq us vs) refl).0 e)
same_is (Some us) None e = absurd cc
same_is None (Some vs) e = absurd cc
same_is None None e = refl

pub same_as_itself : (t : Option (List ℕ)) → is_same_text t t ≡ true
same_as_itself (Some us) = (slice_eq-Decides Decides-eqb us us (pointwise nat_eq us us) refl).1 refl
same_as_itself None = refl
