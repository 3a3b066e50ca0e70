-- A search in a mapped list.
use Rattle.std.proofs.Common.{◌≡◌, ℕ, ◌+◌, Bool, not, ◌||◌, cond, nat_lt, List, [], ◌∷◌, Option, Some, None, map, length, ap, refl, ◌∙◌, position}
use Rattle.std.specs.List.{list_any, position_or_len}
use Rattle.std.proofs.lemmas.List.{length-map}

pub any_map : {A B : Type 0} (f : A → B) (p : B → Bool) (xs : List A) → list_any p (map f xs) ≡ list_any (λ x. p (f x)) xs
any_map f p [] = refl
any_map f p (x ∷ xs) = ap (λ b. p (f x) || b) (any_map f p xs)

pub place_map : {A B : Type 0} (f : A → B) (p : B → Bool) (xs : List A) → position_or_len p (map f xs) ≡ position_or_len (λ x. p (f x)) xs
place_map f p [] = refl
place_map f p (x ∷ xs) = ap (λ n. cond (not (p (f x))) (1 + n) 0) (place_map f p xs)

place_below : ℕ → ℕ → Option ℕ
place_below n m = cond (nat_lt n m) (Some n) None

pub position_map : {A B : Type 0} (f : A → B) (p : B → Bool) (xs : List A) → position p (map f xs) ≡ position (λ x. p (f x)) xs
unfolding place_below
position_map f p xs = ap (λ n. place_below n (length (map f xs))) (place_map f p xs) ∙ ap (place_below (position_or_len (λ x. p (f x)) xs)) (length-map xs f)
