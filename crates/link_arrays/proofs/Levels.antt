-- Laws of array types and their parts.
use Rattle.std.proofs.Common.{◌≡◌, ℕ, zero, suc, ◌+◌, ◌-◌, ◌<◌, ◌≤◌, Bool, true, false, ◌||◌, ◌==◌, List, [], ◌∷◌, ◌++◌, ap, sym, ◌∙◌, subst, refl, arith, inl, inr}
use Rattle.std.specs.Prelude.{◌&&◌, if◌then◌else◌}
use Rattle.std.specs.List.{flat_map}
use Rattle.std.proofs.Math.Bool.{or-false}
use Rattle.std.proofs.lemmas.Bool.{cases_lt, or_cases, or_left, or_right}
use Rattle.std.proofs.lemmas.Bool.Decides.{nat_tests}
use Rattle.std.proofs.lemmas.List.Folds.{list_any-append}
use Rattle.jvm_base.specs.declared.desc.Desc.{Desc}
use Rattle.jvm_base.specs.declared.desc.Elem.{Elem}
use Rattle.numbering.specs.Seen.{is_seen, with_item}
use Rattle.program_image.specs.Signatures.{same_desc, same_elem}
use Rattle.link_arrays.specs.Arrays.{array, levels}
use Rattle.link_arrays.specs.Counting.{AreClosed}
use Rattle.link_arrays.specs.Seen.{with_items}
use Rattle.link_arrays.proofs.SeenLaws.{seen_one, seen_items}
use Rattle.link_arrays.proofs.Types.{descs_equivalent}

-- ---- what is seen among the levels of a type

-- the same element type at other dimensions
same_level : (m n : ℕ) (d e : Elem) → same_desc (array m d) (array n e) ≡ true → (m ≡ n) × (same_elem d e ≡ true)
same_level m n d e h = by (m == n) refl h
  where
    by : (b : Bool) → (m == n) ≡ b → (b && same_elem d e) ≡ true → (m ≡ n) × (same_elem d e ≡ true)
    by true q k = (grind (arith, nat_tests), k)
    by false q k = absurd cc

level_same : (m n : ℕ) (d e : Elem) → m ≡ n → same_elem d e ≡ true → same_desc (array m d) (array n e) ≡ true
level_same m n d e q h = let t : (m == n) ≡ true = grind (arith, nat_tests) in ap (λ b. b && same_elem d e) t ∙ h

-- a level that is seen is below the number of dimensions and of the element type
pub level_within : (n m : ℕ) (d e : Elem) → is_seen same_desc (levels n e) (array m d) ≡ true → (m ≤ n) × (same_elem d e ≡ true)
level_within zero m d e h = absurd cc
level_within (suc n) m d e h = elim (or_cases (same_desc (array m d) (array (suc n) e)) (is_seen same_desc (levels n e) (array m d)) h) [
  | inl s ↦ (let k = same_level m (suc n) d e s in (omega arith, k.1))
  | inr s ↦ (let k = level_within n m d e s in (omega arith, k.1))
]

-- and each such level is seen
level_seen : (n m : ℕ) (d e : Elem) → 0 < m → m ≤ n → same_elem d e ≡ true → is_seen same_desc (levels n e) (array m d) ≡ true
level_seen zero m d e p h s = absurd (omega arith)
level_seen (suc n) m d e p h s = elim (cases_lt n m) [
  | inl last ↦ or_left _ _ (level_same m (suc n) d e (omega arith) s)
  | inr more ↦ or_right (same_desc (array m d) (array (suc n) e)) _ (level_seen n m d e p (omega arith) s)
]

-- ---- lists that have the parts of their types

pub closed_levels : (n : ℕ) (e : Elem) → AreClosed (levels n e)
closed_levels n e = record {
  part = λ m d p h. (let k = level_within n (m + 1) d e h in level_seen n m d e p (omega arith) k.1);
}

pub closed_none : AreClosed []
closed_none = record { part = λ m d p h. absurd cc }

pub closed_append : (xs ys : List Desc) → AreClosed xs → AreClosed ys → AreClosed (xs ++ ys)
closed_append xs ys cx cy = record {
  part = λ m d p h.
      list_any-append (same_desc (array m d)) xs ys
      ∙ elim (or_cases (is_seen same_desc xs (array (m + 1) d)) (is_seen same_desc ys (array (m + 1) d)) (sym (list_any-append (same_desc (array (m + 1) d)) xs ys) ∙ h)) [
        | inl s ↦ or_left _ _ (cx.part m d p s)
        | inr s ↦ or_right (is_seen same_desc xs (array m d)) _ (cy.part m d p s)
      ];
}

pub closed_items : (xs ys : List Desc) → AreClosed xs → AreClosed ys → AreClosed (with_items same_desc xs ys)
closed_items xs ys cx cy = record {
  part = λ m d p h.
      seen_items same_desc descs_equivalent xs ys (array m d)
      ∙ elim (or_cases (is_seen same_desc xs (array (m + 1) d)) (is_seen same_desc ys (array (m + 1) d)) (sym (seen_items same_desc descs_equivalent xs ys (array (m + 1) d)) ∙ h)) [
        | inl s ↦ or_left _ _ (cx.part m d p s)
        | inr s ↦ or_right (is_seen same_desc xs (array m d)) _ (cy.part m d p s)
      ];
}

pub closed_flat : {X : Type 0} (f : X → List Desc) → ((x : X) → AreClosed (f x)) → (xs : List X) → AreClosed (flat_map f xs)
closed_flat f h [] = closed_none
closed_flat f h (x ∷ xs) = closed_append (f x) (flat_map f xs) (h x) (closed_flat f h xs)

-- ---- the loop over the levels of a type

-- the levels from the highest down
pub levels_front : (n : ℕ) (e : Elem) → 0 < n → levels n e ≡ array n e ∷ levels (n - 1) e
levels_front zero e h = absurd (omega arith)
levels_front (suc n) e h = let q : suc n - 1 ≡ n = omega arith in ap (λ k. array (suc n) e ∷ levels k e) (sym q)

-- where a type is there, so are its parts
lower_seen : (types : List Desc) → AreClosed types → (n m : ℕ) (e : Elem) → 0 < m → m ≤ n → is_seen same_desc types (array n e) ≡ true → is_seen same_desc types (array m e) ≡ true
lower_seen types c zero m e p h s = absurd (omega arith)
lower_seen types c (suc n) m e p h s = elim (cases_lt n m) [
  | inl last ↦ (let q : suc n ≡ m = omega arith in subst (λ k. is_seen same_desc types (array k e) ≡ true) q s)
  | inr more ↦ (let q : suc n ≡ n + 1 = omega arith in lower_seen types c n m e p (omega arith) (c.part n e (omega arith) (subst (λ k. is_seen same_desc types (array k e) ≡ true) q s)))
]

-- levels that are all there change nothing
kept : (types : List Desc) (n : ℕ) (e : Elem) → ((m : ℕ) → 0 < m → m ≤ n → is_seen same_desc types (array m e) ≡ true) → with_items same_desc types (levels n e) ≡ types
kept types zero e h = refl
kept types (suc n) e h =
    ap (λ b. with_items same_desc (if b then types else types ++ array (suc n) e ∷ []) (levels n e)) (h (suc n) (omega arith) (omega arith))
    ∙ kept types n e (λ m p q. h m p (omega arith))

-- where a level isn't new, nothing is added any more
pub levels_stop : (types now new : List Desc) (n top : ℕ) (e : Elem) → AreClosed types → ((m : ℕ) → m ≤ n → is_seen same_desc now (array m e) ≡ is_seen same_desc types (array m e)) → with_items same_desc types (levels top e) ≡ with_items same_desc now (levels n e) → is_seen same_desc now (array n e) ≡ true → new ≡ with_item same_desc now (array n e) → new ≡ with_items same_desc types (levels top e)
levels_stop types now new n top e closed lower whole seen added =
    let below : (m : ℕ) → 0 < m → m ≤ n → is_seen same_desc now (array m e) ≡ true = λ m p q. lower m q ∙ lower_seen types closed n m e p q (sym (lower n (omega arith)) ∙ seen) in
    added ∙ ap (λ b. if b then now else now ++ array n e ∷ []) seen ∙ sym (whole ∙ kept now n e below)

-- the levels below one that is added are seen as before
pub lower_more : (types now new : List Desc) (n : ℕ) (e : Elem) → 0 < n → ((m : ℕ) → m ≤ n → is_seen same_desc now (array m e) ≡ is_seen same_desc types (array m e)) → new ≡ with_item same_desc now (array n e) → (m : ℕ) → m ≤ n - 1 → is_seen same_desc new (array m e) ≡ is_seen same_desc types (array m e)
lower_more types now new n e p lower added m h =
    ap (λ z. is_seen same_desc z (array m e)) added
    ∙ seen_one same_desc descs_equivalent now (array n e) (array m e)
    ∙ ap (λ b. is_seen same_desc now (array m e) || (b && same_elem e e)) (let q : (m == n) ≡ false = grind (arith, nat_tests) in q)
    ∙ or-false (is_seen same_desc now (array m e))
    ∙ lower m (omega arith)

-- what is left of the levels after one
pub levels_more : (now new : List Desc) (n : ℕ) (e : Elem) → 0 < n → new ≡ with_item same_desc now (array n e) → with_items same_desc now (levels n e) ≡ with_items same_desc new (levels (n - 1) e)
levels_more now new n e p added = ap (with_items same_desc now) (levels_front n e p) ∙ ap (λ z. with_items same_desc z (levels (n - 1) e)) (sym added)
