-- Laws of lists in order of first sight.
use Rattle.std.proofs.Common.{◌≡◌, ℕ, ◌+◌, ◌<◌, ◌≤◌, Bool, true, false, ◌||◌, List, [], ◌∷◌, ◌++◌, length, drop, get_or, ap, sym, ◌∙◌, refl, arith, length-append}
use Rattle.std.specs.Prelude.{if◌then◌else◌}
use Rattle.std.specs.Cmp.{IsEquivalence}
use Rattle.std.specs.List.{flat_map, list_any, IsDistinct}
use Rattle.std.proofs.lemmas.List.{at_drop_more}
use Rattle.std.proofs.lemmas.Bool.{or_right}
use Rattle.std.proofs.Math.Bool.{or-false, or_assoc}
use Rattle.std.proofs.lemmas.List.Folds.{list_any-append}
use Rattle.std.proofs.lemmas.Map.Keys.{IsDistinct-push}
use Rattle.numbering.specs.Seen.{is_seen, with_item}
use Rattle.link_arrays.specs.Seen.{with_items}

-- items of two lists are seen one list after the other
pub items_append : {A : Type 0} (E : A → A → Bool) (items xs ys : List A) → with_items E items (xs ++ ys) ≡ with_items E (with_items E items xs) ys
items_append E items [] ys = refl
items_append E items (x ∷ xs) ys = items_append E (with_item E items x) xs ys

-- two tests that agree find the same
pub any_same : {A : Type 0} (p q : A → Bool) (xs : List A) → ((x : A) → p x ≡ q x) → list_any p xs ≡ list_any q xs
any_same p q [] h = refl
any_same p q (x ∷ xs) h = ap (λ b. b || list_any p xs) (h x) ∙ ap (λ b. q x || b) (any_same p q xs h)

-- one item more is seen
pub seen_one : {A : Type 0} (E : A → A → Bool) → IsEquivalence E → (items : List A) (x z : A) → is_seen E (with_item E items x) z ≡ (is_seen E items z || E z x)
seen_one E laws items x z = by (is_seen E items x) refl (E z x) refl
  where
    by : (b : Bool) → is_seen E items x ≡ b → (e : Bool) → E z x ≡ e → is_seen E (if b then items else items ++ x ∷ []) z ≡ (is_seen E items z || e)
    by true h true e = any_same (E z) (E x) items (λ y. laws.congr z x y e) ∙ h ∙ sym (or_right (is_seen E items z) true refl)
    by true h false e = sym (or-false (is_seen E items z))
    by false h b e = list_any-append (E z) items (x ∷ []) ∙ ap (λ c. is_seen E items z || (c || false)) e ∙ ap (λ c. is_seen E items z || c) (or-false b)

-- what is seen after some items was seen before, or is one of them
pub seen_items : {A : Type 0} (E : A → A → Bool) → IsEquivalence E → (items xs : List A) (z : A) → is_seen E (with_items E items xs) z ≡ (is_seen E items z || is_seen E xs z)
seen_items E laws items [] z = sym (or-false (is_seen E items z))
seen_items E laws items (x ∷ xs) z =
    seen_items E laws (with_item E items x) xs z
    ∙ ap (λ b. b || is_seen E xs z) (seen_one E laws items x z)
    ∙ or_assoc (is_seen E items z) (E z x) (is_seen E xs z)

-- items that differ still differ once one more is seen
distinct_one : {A : Type 0} (E : A → A → Bool) → IsEquivalence E → (items : List A) (x : A) → IsDistinct E items → IsDistinct E (with_item E items x)
distinct_one E laws items x d = by (is_seen E items x) refl
  where
    by : (b : Bool) → is_seen E items x ≡ b → IsDistinct E (if b then items else items ++ x ∷ [])
    by true h = d
    by false h = IsDistinct-push laws items x d h

-- so they do once some more are
pub distinct_items : {A : Type 0} (E : A → A → Bool) → IsEquivalence E → (items xs : List A) → IsDistinct E items → IsDistinct E (with_items E items xs)
distinct_items E laws items [] d = d
distinct_items E laws items (x ∷ xs) d = distinct_items E laws (with_item E items x) xs (distinct_one E laws items x d)

-- no item is twice in a list of first sights
pub once_distinct : {A : Type 0} (E : A → A → Bool) → IsEquivalence E → (xs : List A) → IsDistinct E (with_items E [] xs)
unfolding IsDistinct
once_distinct E laws xs = distinct_items E laws [] xs tt

-- one item more makes a list no shorter
longer_one : {A : Type 0} (E : A → A → Bool) (items : List A) (x : A) → length items ≤ length (with_item E items x)
longer_one E items x = by (is_seen E items x)
  where
    by : (b : Bool) → length items ≤ length (if b then items else items ++ x ∷ [])
    by true = omega arith
    by false = omega (arith, length-append items (x ∷ []))

pub longer_items : {A : Type 0} (E : A → A → Bool) (items xs : List A) → length items ≤ length (with_items E items xs)
longer_items E items [] = omega arith
longer_items E items (x ∷ xs) = let a = longer_one E items x in let b = longer_items E (with_item E items x) xs in omega arith

-- a loop over places: what is left after one more
pub items_more : {X A : Type 0} (E : A → A → Bool) (f : X → List A) (items new : List A) (xs : List X) (i : ℕ) (x : X) → i < length xs → x ≡ get_or xs i x → new ≡ with_items E items (f x) → with_items E items (flat_map f (drop i xs)) ≡ with_items E new (flat_map f (drop (i + 1) xs))
items_more E f items new xs i x h at added =
    let rest = flat_map f (drop (i + 1) xs) in
    ap (with_items E items) (at_drop_more (flat_map f) xs i x h)
    ∙ items_append E items (f (get_or xs i x)) rest
    ∙ ap (λ z. with_items E (with_items E items (f z)) rest) (sym at)
    ∙ ap (λ z. with_items E z rest) (sym added)
