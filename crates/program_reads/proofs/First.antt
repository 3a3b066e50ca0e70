-- The first class that passes a test, looked for from the front or from the back.
use Rattle.std.proofs.Common.{◌≡◌, ℕ, ◌+◌, ◌≤◌, Bool, true, false, List, length, Some, refl, sym, ap, ◌∙◌}
use Rattle.std.specs.Prelude.{slice_get, position}
use Rattle.std.specs.List.{position_from}
use Rattle.std.proofs.Math.ListN.{drop_of_length-le}
use Rattle.std.proofs.lemmas.Iterator.Adapters.{position_from-zero}
use Rattle.jvm_base.specs.Words.{from}
use Rattle.program_image.specs.declared.info.ClassInfo.{ClassInfo}
use Rattle.program_reads.specs.Finding.{first_from}
use Rattle.program_reads.proofs.Lists.{from_place}

-- the class there is the first
pub first_hit : (f : ClassInfo → Bool) (i : ℕ) (ks : List ClassInfo) (k : ClassInfo) → slice_get ks i ≡ Some k → f k ≡ true → first_from f i ks ≡ i
first_hit f i ks k e h = ap (λ xs. from 0 (λ c. c) (position_from f i xs)) (from_place i ks k e) ∙ rw h refl

-- or it isn't
pub first_miss : (f : ClassInfo → Bool) (i : ℕ) (ks : List ClassInfo) (k : ClassInfo) → slice_get ks i ≡ Some k → f k ≡ false → first_from f i ks ≡ first_from f (i + 1) ks
first_miss f i ks k e h = ap (λ xs. from 0 (λ c. c) (position_from f i xs)) (from_place i ks k e) ∙ rw h refl

-- past the end
pub first_past : (f : ClassInfo → Bool) (i : ℕ) (ks : List ClassInfo) → length ks ≤ i → first_from f i ks ≡ 0
first_past f i ks h = ap (λ xs. from 0 (λ c. c) (position_from f i xs)) (drop_of_length-le ks h)

-- from the front on it is the first of all
pub first_of_all : (f : ClassInfo → Bool) (ks : List ClassInfo) → first_from f 0 ks ≡ from 0 (λ c. c) (position f ks)
first_of_all f ks = ap (from 0 (λ c. c)) (sym (position_from-zero f ks))
