-- Walks upwards over superclasses, in their tables.
use Rattle.std.proofs.Common.{◌≡◌, ℕ, ◌+◌, ◌<◌, Bool, true, false, not, ◌||◌, List, [], ◌∷◌, ◌++◌, length, ap, sym, ◌∙◌, subst, refl, arith, inl, inr}
use Rattle.std.specs.Prelude.{◌==◌, ◌&&◌, if◌then◌else◌}
use Rattle.std.specs.List.{flat_map, list_any}
use Rattle.std.proofs.lemmas.List.Folds.{list_any-append}
use Rattle.hierarchy.specs.Hierarchy.{row_of, IsRanked}
use Rattle.hierarchy.specs.Walks.{all_from, has, add_one, add_new, IsWalked}
use Rattle.hierarchy.specs.Loops.{above_by}
use Rattle.hierarchy.proofs.LoopLaws.{over_under}
use Rattle.hierarchy.proofs.Tests.{or_split, or_false, or_assoc, not_true, equal_from, equal_to}
use Rattle.hierarchy.proofs.WalkLaws.{walk_unfolds}
use Rattle.link_members.proofs.LoopLaws.{under_falls}

or_again : (a b : Bool) → ((a || b) || a) ≡ (a || b)
or_again true b = refl
or_again false b = sym (or_false b)

or_keeps : (a b c : Bool) → (b || c) ≡ b → ((a || b) || c) ≡ (a || b)
or_keeps true b c h = refl
or_keeps false b c h = h

or_none : (a b : Bool) → (a || b) ≡ false → (a ≡ false) × (b ≡ false)
or_none true b h = absurd cc
or_none false b h = (refl, h)

-- a test that one of the items passes, with an item there once more
any_there : (p : ℕ → Bool) (xs : List ℕ) (y : ℕ) → has xs y ≡ true → (list_any p xs || p y) ≡ list_any p xs
any_there p [] y h = absurd cc
any_there p (x ∷ xs) y h = elim (or_split (x == y) (has xs y) h) [
  | inl e ↦ subst (λ z. ((p x || list_any p xs) || p z) ≡ (p x || list_any p xs)) (equal_from x y e) (or_again (p x) (list_any p xs))
  | inr r ↦ or_keeps (p x) (list_any p xs) (p y) (any_there p xs y r)
]

any_tested : (p : ℕ → Bool) (xs : List ℕ) (y : ℕ) (b : Bool) → has xs y ≡ b → list_any p (if b then xs else xs ++ y ∷ []) ≡ (list_any p xs || p y)
any_tested p xs y true h = sym (any_there p xs y h)
any_tested p xs y false h = list_any-append p xs (y ∷ []) ∙ ap (λ z. list_any p xs || z) (sym (or_false (p y)))

any_one : (p : ℕ → Bool) (xs : List ℕ) (y : ℕ) → list_any p (add_one xs y) ≡ (list_any p xs || p y)
any_one p xs y = any_tested p xs y (has xs y) refl

-- a test over the first ones is the test over the list
any_new : (p : ℕ → Bool) (xs ys : List ℕ) → list_any p (add_new xs ys) ≡ (list_any p xs || list_any p ys)
any_new p xs [] = or_false (list_any p xs)
any_new p xs (y ∷ ys) =
    any_new p (add_one xs y) ys ∙ ap (λ z. z || list_any p ys) (any_one p xs y) ∙ sym (or_assoc (list_any p xs) (p y) (list_any p ys))

-- no number lies above itself where there are ranks
not_above : (rows : List (List ℕ)) (ranks : List ℕ) (c : ℕ) → IsRanked rows ranks → has (flat_map (all_from rows) (row_of rows c)) c ≡ false
unfolding all_from above_by
not_above rows ranks c r =
    not_true _ (λ e. let f = under_falls rows ranks c c r (over_under (length rows + 2) rows c c e) in omega arith)

other : (b a : Bool) → b ≡ false → (not b && a) ≡ a
other true a h = absurd cc
other false a h = refl

any_others : (q : ℕ → Bool) (c : ℕ) (xs : List ℕ) → has xs c ≡ false → list_any (λ k. not (k == c) && q k) xs ≡ list_any q xs
any_others q c [] h = refl
any_others q c (x ∷ xs) h =
    let parts = or_none (x == c) (has xs c) h in
    ap (λ z. z || list_any (λ k. not (k == c) && q k) xs) (other (x == c) (q x) parts.0) ∙ ap (λ z. q x || z) (any_others q c xs parts.1)

itself : (b a rest : Bool) → b ≡ true → ((not b && a) || rest) ≡ rest
itself true a rest h = refl
itself false a rest h = absurd cc

-- a test over a walk from a number, but for the number, is the test over what lies above it
pub any_above : (rows table : List (List ℕ)) (ranks : List ℕ) (c : ℕ) (q : ℕ → Bool) → IsRanked rows ranks → IsWalked rows table → c < length rows → list_any (λ k. not (k == c) && q k) (row_of table c) ≡ list_any q (flat_map (all_from rows) (row_of rows c))
any_above rows table ranks c q r w h =
    let p : ℕ → Bool = λ k. not (k == c) && q k in
    let above : List ℕ = flat_map (all_from rows) (row_of rows c) in
    ap (list_any p) (w.each c h)
    ∙ any_new p [] (all_from rows c)
    ∙ ap (list_any p) (walk_unfolds rows ranks r c)
    ∙ itself (c == c) (q c) (list_any p above) (equal_to c)
    ∙ any_others q c above (not_above rows ranks c r)
