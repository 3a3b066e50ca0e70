-- The first refusal of several lists.
use Rattle.std.proofs.Common.{◌≡◌, ℕ, List, [], ◌∷◌, ◌++◌, Some, Result, Ok, Err, ◌<◌, ◌+◌, length, drop, slice_get, sym, ap, append-nil, ◌∙◌, subst, refl, get_or, add-one, drop-cons}
use Rattle.std.specs.List.{flat_map}
use Rattle.std.proofs.lemmas.List.{at_drop_more}
use Rattle.link_rules.specs.declared.error.LinkErr.{LinkErr}
use Rattle.link_rules.specs.declared.error.LinkErr.TheVariants.{Code, Bad, NoMemory}
use Rattle.link_rules.specs.Answers.{IsFirst, IsAnswer}
use Rattle.link_rules.specs.Numbers.{numbered}

head_front : {A : Type 0} (xs ys : List A) (b : A) → slice_get xs 0 ≡ Some b → slice_get (xs ++ ys) 0 ≡ Some b
head_front [] ys b e = absurd cc
head_front (x ∷ xs) ys b e = e

-- the first of the first list is the first of all
pub first_front : (xs ys : List LinkErr) (e : LinkErr) → IsFirst xs e → IsFirst (xs ++ ys) e
first_front xs ys (Code class method why) h = head_front xs ys _ h
first_front xs ys (Bad why class other) h = head_front xs ys _ h
first_front xs ys NoMemory h = tt

-- where the first list is empty the first of the second is the first of all
pub first_back : (xs ys : List LinkErr) (e : LinkErr) → xs ≡ [] → IsFirst ys e → IsFirst (xs ++ ys) e
first_back xs ys e h b = subst (λ z. IsFirst (z ++ ys) e) (sym h) b

pub none_back : {A : Type 0} (xs ys zs : List A) → xs ≡ [] → ys ≡ zs → xs ++ ys ≡ zs
none_back xs ys zs h e = subst (λ z. z ++ ys ≡ zs) (sym h) e

-- the answer to a second list, where the first is empty
pub answer_back : {A : Type 0} (xs ys : List LinkErr) (r : Result A LinkErr) → xs ≡ [] → IsAnswer ys r → IsAnswer (xs ++ ys) r
answer_back xs ys (Ok a) h b = none_back xs ys [] h b
answer_back xs ys (Err e) h b = first_back xs ys e h b

-- a loop over places: what is left after i of them
pub places_more : {X : Type 0} (f : X → List LinkErr) (xs : List X) (i : ℕ) (x : X) → i < length xs → x ≡ get_or xs i x → f x ≡ [] → flat_map f (drop i xs) ≡ flat_map f (drop (i + 1) xs)
places_more f xs i x h e none = at_drop_more (flat_map f) xs i x h ∙ none_back (f (get_or xs i x)) _ _ (ap f (sym e) ∙ none) refl

pub places_break : {X : Type 0} (f : X → List LinkErr) (xs : List X) (i : ℕ) (x : X) (b : LinkErr) → i < length xs → x ≡ get_or xs i x → IsFirst (f x) b → IsFirst (flat_map f (drop i xs)) b
places_break f xs i x b h e broken = subst (λ z. IsFirst z b) (sym (at_drop_more (flat_map f) xs i x h)) (first_front (f (get_or xs i x)) _ b (subst (λ z. IsFirst (f z) b) e broken))

-- a list with nothing behind it
pub alone : {A : Type 0} (xs : List A) → xs ++ [] ≡ xs
alone xs = append-nil xs

-- the same where each place has a number
pub numbered_break : {X : Type 0} (f : ℕ → X → List LinkErr) (xs : List X) (k i : ℕ) (x : X) (b : LinkErr) → i < length xs → x ≡ get_or xs i x → IsFirst (f k x) b → IsFirst (numbered f k (drop i xs)) b
numbered_break f xs k i x b h e broken =
    let front : drop i xs ≡ get_or xs i x ∷ drop (i + 1) xs = rw (add-one, drop-cons xs i x) in
    subst (λ z. IsFirst (numbered f k z) b) (sym front) (first_front (f k (get_or xs i x)) _ b (subst (λ z. IsFirst (f k z) b) e broken))

-- places of plain numbers, which goals name with a default
pub items_break : {X : Type 0} (f : X → List LinkErr) (xs : List X) (i : ℕ) (d : X) (b : LinkErr) → i < length xs → IsFirst (f (get_or xs i d)) b → IsFirst (flat_map f (drop i xs)) b
items_break f xs i d b h broken = subst (λ z. IsFirst z b) (sym (at_drop_more (flat_map f) xs i d h)) (first_front (f (get_or xs i d)) _ b broken)
