-- The methods that a table has for a signature are those that the walks over superclasses find.
use Rattle.std.proofs.Common.{◌≡◌, ℕ, ◌+◌, ◌<◌, Bool, true, false, nat_eq, List, [], ◌∷◌, ◌++◌, length, drop, get_or, ap, sym, ◌∙◌, refl, arith, append-nil, append_assoc}
use Rattle.std.specs.Prelude.{◌&&◌, if◌then◌else◌}
use Rattle.std.specs.List.{flat_map}
use Rattle.std.specs.Cmp.Lexicographic.{same_text}
use Rattle.std.proofs.lemmas.Bool.Decides.{nat_tests}
use Rattle.std.proofs.lemmas.List.{at_drop_more}
use Rattle.class_names.specs.Known.{is_name}
use Rattle.link_rules.specs.Numbers.{numbered}
use Rattle.link_members.specs.declared.declarations.Declared.{Declared}
use Rattle.link_members.specs.Declarations.{Table, is_signature, methods_at}
use Rattle.link_members.specs.Signs.{Pair, Sign, is_sign}

and_parts : (a b : Bool) → (a && b) ≡ true → (a ≡ true) × (b ≡ true)
and_parts true b h = (refl, h)
and_parts false b h = absurd cc

-- two signatures that are one
pub one_pair : (a b : Pair) → is_signature a b ≡ true → a ≡ b
one_pair a b e =
    let parts = and_parts (is_name a.0 b.0) (is_name a.1 b.1) e in
    let p : a.0 ≡ b.0 = same_text a.0 b.0 (sym parts.0) in
    let q : a.1 ≡ b.1 = same_text a.1 b.1 (sym parts.1) in
    ap (λ x. (x, a.1)) p ∙ ap (λ y. (b.0, y)) q

-- numbers that pass the test are one
pub true_same : (a b : ℕ) → nat_eq a b ≡ true → a ≡ b
true_same a b e = grind (arith, nat_tests)

-- two signs that are one
pub one_sign : (a b : Sign) → is_sign a b ≡ true → a ≡ b
one_sign a b e =
    let parts = and_parts (nat_eq a.0 b.0) (nat_eq a.1 b.1) e in
    ap (λ (x : ℕ). (x, a.1)) (true_same a.0 b.0 parts.0) ∙ ap (λ (y : ℕ). (b.0, y)) (true_same a.1 b.1 parts.1)

-- a table has the methods of a sign with one more at its end
pub one_more : (a k : Sign) (entries : Table) (methods : List Declared) (m : Declared) → methods ≡ methods_at entries a ++ m ∷ [] → (if is_sign a k then methods else (if is_sign a k then [] else methods_at entries k)) ≡ methods_at entries k ++ (if is_sign a k then m ∷ [] else [])
one_more a k entries methods m e = by (is_sign a k) refl
  where
    by : (b : Bool) → is_sign a k ≡ b → (if b then methods else (if b then [] else methods_at entries k)) ≡ methods_at entries k ++ (if b then m ∷ [] else [])
    by true h = e ∙ ap (λ z. methods_at entries z ++ m ∷ []) (one_sign a k h)
    by false h = sym (append-nil (methods_at entries k))

-- a list that gains what is made of one item more
pub methods_more : {X : Type 0} (f : X → List Declared) (xs : List X) (i : ℕ) (x : X) (now new whole : List Declared) → i < length xs → x ≡ get_or xs i x → new ≡ now ++ f x → now ++ flat_map f (drop i xs) ≡ whole → new ++ flat_map f (drop (i + 1) xs) ≡ whole
methods_more f xs i x now new whole h at en e =
    let rest : List Declared = flat_map f (drop (i + 1) xs) in
    ap (λ z. z ++ rest) (en ∙ ap (λ z. now ++ f z) at) ∙ append_assoc now (f (get_or xs i x)) rest ∙ ap (λ z. now ++ z) (sym (at_drop_more (flat_map f) xs i x h)) ∙ e

-- the classes of two lists, one behind the other
pub numbered_both : {A B : Type 0} (f : ℕ → A → List B) (k : ℕ) (xs ys : List A) → numbered f k (xs ++ ys) ≡ numbered f k xs ++ numbered f (k + length xs) ys
numbered_both f k [] ys = let e : k ≡ k + 0 = omega arith in ap (λ n. numbered f n ys) e
numbered_both f k (x ∷ xs) ys =
    let e : k + 1 + length xs ≡ k + length (x ∷ xs) = omega arith in
    ap (λ z. f k x ++ z) (numbered_both f (k + 1) xs ys)
    ∙ sym (append_assoc (f k x) (numbered f (k + 1) xs) (numbered f (k + 1 + length xs) ys))
    ∙ ap (λ n. (f k x ++ numbered f (k + 1) xs) ++ numbered f n ys) e
