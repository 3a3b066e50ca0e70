-- The first class of each text, class by class.
use Rattle.std.proofs.Common.{◌≡◌, ℕ, zero, suc, ◌+◌, ◌<◌, Bool, true, false, if◌then◌else◌, List, [], ◌∷◌, Option, Some, None, length, take, slice_get, refl, sym, ap, ◌∙◌, arith}
use Rattle.hierarchy.specs.Walks.{or_else}
use Rattle.program_image.specs.declared.info.ClassInfo.{ClassInfo}
use Rattle.program_image.specs.Named.{first_from, first_by}
use Rattle.program_image.specs.Signatures.{same_text}

-- a class more is the first of its text where none before it is
first_more : (of : ClassInfo → List ℕ) (ks : List ClassInfo) (b i : ℕ) (k : ClassInfo) (n : List ℕ) → slice_get ks i ≡ Some k
    → or_else (first_from of b n (take i ks)) (if same_text (of k) n then Some (b + i) else None) ≡ first_from of b n (take (suc i) ks)
first_more of [] b i k n e = absurd cc
first_more of (x ∷ xs) b zero k n e =
    let one : x ≡ k = cc in
    let here : b + 0 ≡ b = omega arith in
    ap (λ (j : ℕ). if same_text (of k) n then Some j else None) here ∙ ap (λ (y : ClassInfo). if same_text (of y) n then Some b else None) (sym one)
first_more of (x ∷ xs) b (suc i) k n e =
    let later : b + suc i ≡ suc b + i = omega arith in
    by_first (same_text (of x) n) (ap (λ (j : ℕ). or_else (first_from of (suc b) n (take i xs)) (if same_text (of k) n then Some j else None)) later ∙ first_more of xs (suc b) i k n e)
  where
    by_first : (t : Bool) → or_else (first_from of (suc b) n (take i xs)) (if same_text (of k) n then Some (b + suc i) else None) ≡ first_from of (suc b) n (take (suc i) xs)
        → or_else (if t then Some b else first_from of (suc b) n (take i xs)) (if same_text (of k) n then Some (b + suc i) else None) ≡ (if t then Some b else first_from of (suc b) n (take (suc i) xs))
    by_first true rest = refl
    by_first false rest = rest

-- the same from the start
pub first_next : (of : ClassInfo → List ℕ) (ks : List ClassInfo) (i : ℕ) (k : ClassInfo) (n : List ℕ) → slice_get ks i ≡ Some k
    → or_else (first_by of n (take i ks)) (if same_text (of k) n then Some i else None) ≡ first_by of n (take (i + 1) ks)
first_next of ks i k n e =
    let from_start : i ≡ 0 + i = omega arith in
    let next : suc i ≡ i + 1 = omega arith in
    ap (λ (j : ℕ). or_else (first_by of n (take i ks)) (if same_text (of k) n then Some j else None)) from_start
    ∙ first_more of ks 0 i k n e
    ∙ ap (λ (j : ℕ). first_by of n (take j ks)) next
