-- The methods that are kept for a signature are those that the walk over superclasses finds.
use Rattle.std.proofs.Common.{◌≡◌, ℕ, zero, suc, ◌+◌, ◌<◌, ◌≤◌, Bool, true, false, not, ◌||◌, List, [], ◌∷◌, ◌++◌, length, Option, Some, None, slice_get, ap, sym, ◌∙◌, subst, refl, arith, inl, inr}
use Rattle.std.specs.Prelude.{◌==◌, ◌&&◌, if◌then◌else◌}
use Rattle.std.specs.List.{flat_map, list_any}
use Rattle.std.specs.Cmp.Lexicographic.{nat_list_eq_equiv}
use Rattle.std.proofs.lemmas.Bool.{cases_lt, cases_eq}
use Rattle.std.proofs.lemmas.List.Folds.{list_any-append}
use Rattle.std.proofs.lemmas.Option.{slice_get_past}
use Rattle.jvm_base.specs.Words.{from}
use Rattle.class_format.specs.declared.class.ClassFile.{ClassFile}
use Rattle.class_format.specs.declared.class.MethodItem.{MethodItem}
use Rattle.class_names.specs.Known.{is_name}
use Rattle.class_names.specs.Classes.{this_name}
use Rattle.hierarchy.specs.Walks.{has}
use Rattle.hierarchy.proofs.Tests.{or_false, equal_to, equal_from, not_true}
use Rattle.link_rules.specs.declared.error.LinkWhy.TheVariants.{BadOverride}
use Rattle.link_rules.specs.Answers.{refused_if}
use Rattle.link_rules.specs.Members.{method_name, method_desc, is_unlike, is_inherited, is_initialiser, overrides_badly, overrides_badly_at, bad_override, bad_overrides}
use Rattle.link_rules.specs.Numbers.{name_at, numbered, supers_of}
use Rattle.link_rules.specs.Packages.{is_one_package}
use Rattle.link_members.specs.declared.declarations.Declared.{Declared}
use Rattle.link_members.specs.Signs.{Pair}
use Rattle.link_members.specs.Declarations.{Table, signature_of, is_signature, declared_at, declared_one, declared_in, AreDeclared, near_at, near_to, AreNear, is_inherited_if, replaces_badly, bad_by}

-- ---- tests over items with their numbers

-- one of the items passes, the first having the number k
abbrev any_numbered : {A : Type 0} → (ℕ → A → Bool) → ℕ → List A → Bool
any_numbered p k [] = false
any_numbered p k (x ∷ xs) = p k x || any_numbered p (k + 1) xs

-- over the lists that are made of them
any_made : {A B : Type 0} (t : B → Bool) (f : ℕ → A → List B) (k : ℕ) (xs : List A) → list_any t (numbered f k xs) ≡ any_numbered (λ j x. list_any t (f j x)) k xs
any_made t f k [] = refl
any_made t f k (x ∷ xs) = list_any-append t (f k x) (numbered f (k + 1) xs) ∙ ap (λ b. list_any t (f k x) || b) (any_made t f (k + 1) xs)

-- over the lists that are made of plain items
any_flat : {A B : Type 0} (t : B → Bool) (f : A → List B) (xs : List A) → list_any t (flat_map f xs) ≡ list_any (λ x. list_any t (f x)) xs
any_flat t f [] = refl
any_flat t f (x ∷ xs) = list_any-append t (f x) (flat_map f xs) ∙ ap (λ b. list_any t (f x) || b) (any_flat t f xs)

-- two tests that agree at each item
any_same : {A : Type 0} (p q : A → Bool) (xs : List A) → ((x : A) → p x ≡ q x) → list_any p xs ≡ list_any q xs
any_same p q [] h = refl
any_same p q (x ∷ xs) h = ap (λ b. b || list_any p xs) (h x) ∙ ap (λ b. q x || b) (any_same p q xs h)

numbered_same : {A : Type 0} (p q : ℕ → A → Bool) (k : ℕ) (xs : List A) → ((i : ℕ) (x : A) → slice_get xs i ≡ Some x → p (k + i) x ≡ q (k + i) x) → any_numbered p k xs ≡ any_numbered q k xs
numbered_same p q k [] h = refl
numbered_same p q k (x ∷ xs) h =
    let here : k + 0 ≡ k = omega arith in
    ap (λ b. b || any_numbered p (k + 1) xs) (subst (λ n. p n x ≡ q n x) here (h 0 x refl))
    ∙ ap (λ b. q k x || b) (numbered_same p q (k + 1) xs (λ i y e. let n : k + suc i ≡ k + 1 + i = omega arith in subst (λ n. p n y ≡ q n y) n (h (suc i) y e)))

or_swap : (a b c d : Bool) → ((a || b) || (c || d)) ≡ ((a || c) || (b || d))
or_swap true b c d = refl
or_swap false true true d = refl
or_swap false false true d = refl
or_swap false b false d = refl

-- a test that is passed by either of two
any_either : {A : Type 0} (p q r : ℕ → A → Bool) (k : ℕ) (xs : List A) → ((j : ℕ) (x : A) → p j x ≡ (q j x || r j x)) → any_numbered p k xs ≡ (any_numbered q k xs || any_numbered r k xs)
any_either p q r k [] h = refl
any_either p q r k (x ∷ xs) h =
    ap (λ b. b || any_numbered p (k + 1) xs) (h k x)
    ∙ ap (λ b. (q k x || r k x) || b) (any_either p q r (k + 1) xs h)
    ∙ or_swap (q k x) (r k x) (any_numbered q (k + 1) xs) (any_numbered r (k + 1) xs)

any_nowhere : {A : Type 0} (k : ℕ) (xs : List A) → any_numbered (λ j x. false) k xs ≡ false
any_nowhere k [] = refl
any_nowhere k (x ∷ xs) = any_nowhere (k + 1) xs

unlike : (s k : ℕ) → (s ≡ k → ⊥) → (s == k) ≡ false
unlike s k h = not_true (s == k) (λ e. h (equal_from s k e))

-- a test at one number, which is none of theirs
not_there : {A : Type 0} (p : ℕ → Bool) (s k : ℕ) (xs : List A) → ((j : ℕ) → k ≤ j → j < k + length xs → s ≡ j → ⊥) → any_numbered (λ j x. (s == j) && p j) k xs ≡ false
not_there p s k [] h = refl
not_there p s k (x ∷ xs) h =
    ap (λ b. (b && p k) || any_numbered (λ j x. (s == j) && p j) (k + 1) xs) (unlike s k (h k (omega arith) (omega arith)))
    ∙ not_there p s (k + 1) xs (λ j a b. h j (omega arith) (omega arith))

-- which is one of theirs
there : {A : Type 0} (p : ℕ → Bool) (s k : ℕ) (xs : List A) → k ≤ s → s < k + length xs → any_numbered (λ j x. (s == j) && p j) k xs ≡ p s
there p s k [] low high = absurd (omega arith)
there p s k (x ∷ xs) low high = elim (cases_eq s k) [
  | inl e ↦
      ap (λ b. (b && p k) || any_numbered (λ j x. (s == j) && p j) (k + 1) xs) (subst (λ z. (s == z) ≡ true) e (equal_to s))
      ∙ ap (λ b. p k || b) (not_there p s (k + 1) xs (λ j a b w. omega arith))
      ∙ sym (or_false (p k)) ∙ ap p (sym e)
  | inr ne ↦
      ap (λ b. (b && p k) || any_numbered (λ j x. (s == j) && p j) (k + 1) xs) (unlike s k ne)
      ∙ there p s (k + 1) xs (omega arith) (omega arith)
]

and_either : (a b c : Bool) → ((a || b) && c) ≡ ((a && c) || (b && c))
and_either true true true = refl
and_either true true false = refl
and_either true false true = refl
and_either true false false = refl
and_either false b c = refl

-- a test at the numbers of a list is the test over the list
any_listed : {A : Type 0} (p : ℕ → Bool) (ks : List ℕ) (xs : List A) → ((k : ℕ) → length xs ≤ k → p k ≡ false) → any_numbered (λ j x. has ks j && p j) 0 xs ≡ list_any p ks
any_listed p [] xs past = any_nowhere 0 xs
any_listed p (s ∷ ks) xs past =
    any_either (λ j x. has (s ∷ ks) j && p j) (λ j x. (s == j) && p j) (λ j x. has ks j && p j) 0 xs (λ j x. and_either (s == j) (has ks j) (p j))
    ∙ ap (λ b. b || any_numbered (λ j x. has ks j && p j) 0 xs) one
    ∙ ap (λ b. p s || b) (any_listed p ks xs past)
  where
    one : any_numbered (λ j x. (s == j) && p j) 0 xs ≡ p s
    one = elim (cases_lt s (length xs)) [
      | inl less ↦ there p s 0 xs (omega arith) (omega arith)
      | inr more ↦ not_there p s 0 xs (λ j a b w. omega arith) ∙ sym (past s (omega arith))
    ]

-- ---- one class

and_turned : (a b : Bool) → (a && b) ≡ (b && a)
and_turned true true = refl
and_turned true false = refl
and_turned false true = refl
and_turned false false = refl

name_turned : (a b : List ℕ) → is_name a b ≡ is_name b a
name_turned a b = nat_list_eq_equiv.symm a b

signature_turned : (a b : Pair) → is_signature a b ≡ is_signature b a
signature_turned a b = ap (λ z. z && is_name a.1 b.1) (name_turned a.0 b.0) ∙ ap (λ z. is_name b.0 a.0 && z) (name_turned a.1 b.1)

shuffled : (s u i : Bool) → (s && (u && i)) ≡ (s && (i && u))
shuffled s u i = ap (λ b. s && b) (and_turned u i)

-- the test of what a class declares of a signature
one_made : (t : Declared → Bool) (s : Pair) (k : ℕ) (g : ClassFile) (o : MethodItem) → list_any t (declared_one s k g o) ≡ (is_signature (signature_of g o) s && t (record { class = k; flags = o.flags }))
one_made t s k g o = by (is_signature (signature_of g o) s)
  where
    x : Declared
    x = record { class = k; flags = o.flags }

    by : (b : Bool) → list_any t (if b then x ∷ [] else []) ≡ (b && t x)
    by true = sym (or_false (t x))
    by false = refl

none_passes : {A : Type 0} (p : A → Bool) (xs : List A) → ((x : A) → p x ≡ false) → list_any p xs ≡ false
none_passes p [] h = refl
none_passes p (x ∷ xs) h = ap (λ b. b || list_any p xs) (h x) ∙ none_passes p xs h

and_false : (b : Bool) → (b && false) ≡ false
and_false true = refl
and_false false = refl

-- the methods of the class of a number that are in the way of m, by the tables
one_class : (all : List ClassFile) (near : List (Option Bool)) (c : ℕ) (f : ClassFile) (m : MethodItem) (k : ℕ) (g : ClassFile) → slice_get all k ≡ Some g → near_at near k ≡ (if has (supers_of all c) k then near_to all f k else None) → list_any (replaces_badly near m.flags) (declared_in (signature_of f m) k g) ≡ (has (supers_of all c) k && overrides_badly_at all f m k)
unfolding overrides_badly_at overrides_badly
one_class all near c f m k g at e = by (has (supers_of all c) k) e
  where
    t : Declared → Bool
    t = replaces_badly near m.flags

    s : Pair
    s = signature_of f m

    named : name_at all k ≡ this_name g
    named = ap (from [] this_name) at

    each : list_any t (declared_in s k g) ≡ list_any (λ o. is_signature (signature_of g o) s && t (record { class = k; flags = o.flags })) g.methods
    each = any_flat t (declared_one s k g) g.methods ∙ any_same (λ o. list_any t (declared_one s k g o)) (λ o. is_signature (signature_of g o) s && t (record { class = k; flags = o.flags })) g.methods (one_made t s k g)

    by : (b : Bool) → near_at near k ≡ (if b then near_to all f k else None) → list_any t (declared_in s k g) ≡ (b && overrides_badly_at all f m k)
    by false n =
        each
        ∙ none_passes (λ o. is_signature (signature_of g o) s && t (record { class = k; flags = o.flags })) g.methods (λ o.
        ap (λ z. is_signature (signature_of g o) s && (is_unlike m.flags o.flags && from false (is_inherited_if o.flags) z)) n
        ∙ ap (λ z. is_signature (signature_of g o) s && z) (and_false (is_unlike m.flags o.flags))
        ∙ and_false (is_signature (signature_of g o) s))
    by true n =
        each
        ∙ any_same (λ o. is_signature (signature_of g o) s && t (record { class = k; flags = o.flags })) (overrides_badly f m g) g.methods (λ o.
        ap (λ z. is_signature (signature_of g o) s && (is_unlike m.flags o.flags && from false (is_inherited_if o.flags) z)) (n ∙ ap (λ z. Some (is_one_package (this_name f) z)) named)
        ∙ shuffled (is_signature (signature_of g o) s) (is_unlike m.flags o.flags) (is_inherited f g o)
        ∙ ap (λ z. z && (is_inherited f g o && is_unlike m.flags o.flags)) (signature_turned (signature_of g o) s))
        ∙ sym (ap (from false (λ x. list_any (overrides_badly f m x) x.methods)) at)

-- a method is in the way of m by the tables exactly where one of a superclass is
pub declared_badly : (all : List ClassFile) (names : List (List ℕ)) (entries : Table) (near : List (Option Bool)) (c : ℕ) (f : ClassFile) (m : MethodItem) → AreDeclared all names entries → AreNear all f c near → list_any (replaces_badly near m.flags) (declared_at names entries (signature_of f m)) ≡ list_any (overrides_badly_at all f m) (supers_of all c)
unfolding overrides_badly_at
declared_badly all names entries near c f m declared nears =
    let t : Declared → Bool = replaces_badly near m.flags in
    let s : Pair = signature_of f m in
    ap (list_any t) (declared s)
    ∙ any_made t (declared_in s) 0 all
    ∙ numbered_same (λ k g. list_any t (declared_in s k g)) (λ k g. has (supers_of all c) k && overrides_badly_at all f m k) 0 all (λ i g at.
    let n : i ≡ 0 + i = omega arith in
    subst (λ k. list_any t (declared_in s k g) ≡ (has (supers_of all c) k && overrides_badly_at all f m k)) n (one_class all near c f m i g at (nears i (inside all i g at))))
    ∙ any_listed (overrides_badly_at all f m) (supers_of all c) all (λ k past. ap (from false (λ x. list_any (overrides_badly f m x) x.methods)) (slice_get_past all k past))
  where
    inside : {A : Type 0} (xs : List A) (i : ℕ) (x : A) → slice_get xs i ≡ Some x → i < length xs
    inside [] i x e = absurd cc
    inside (y ∷ ys) zero x e = omega arith
    inside (y ∷ ys) (suc i) x e = let l = inside ys i x e in omega arith

-- so the refusals by the tables are those of overriding
pub refused_alike : (all : List ClassFile) (names : List (List ℕ)) (entries : Table) (near : List (Option Bool)) (c : ℕ) (f : ClassFile) → AreDeclared all names entries → AreNear all f c near → flat_map (bad_by names entries near f) f.methods ≡ bad_overrides all c f
unfolding bad_overrides bad_override
refused_alike all names entries near c f declared nears = each f.methods
  where
    each : (ms : List MethodItem) → flat_map (bad_by names entries near f) ms ≡ flat_map (bad_override all c f) ms
    each [] = refl
    each (m ∷ ms) =
        ap (λ b. refused_if (not (is_initialiser (method_name f m)) && b) BadOverride f (method_name f m ++ method_desc f m) ++ flat_map (bad_by names entries near f) ms) (declared_badly all names entries near c f m declared nears)
        ∙ ap (λ z. bad_override all c f m ++ z) (each ms)
