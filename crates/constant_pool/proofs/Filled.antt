-- A list that a loop fills place by place, from the items of another one.
use Rattle.std.proofs.Common.{◌≡◌, ℕ, ◌<◌, ◌≤◌, ◌+◌, List, [], ◌∷◌, map, length, take, set, get_or, refl, sym, ap, ◌∙◌, arith, length-set}
use Rattle.std.proofs.lemmas.List.{map-append, map_more, take_all, take_more_set}

-- each place below i has what its item gives
pub record IsFilled {X Y Z : Type 0} (f : X → Z) (g : Y → Z) (xs : List X) (ys : List Y) (i : ℕ) : Type 0 where
  pub long : length ys ≡ length xs
  pub done : map g (take i ys) ≡ map f (take i xs)

pub filled_none : {X Y Z : Type 0} (f : X → Z) (g : Y → Z) (xs : List X) (ys : List Y) → length ys ≡ length xs → IsFilled f g xs ys 0
filled_none f g xs ys long = record { long = long; done = refl }

pub filled_more : {X Y Z : Type 0} (f : X → Z) (g : Y → Z) (xs : List X) (ys : List Y) (i : ℕ) (x : X) (y : Y) → i < length xs → g y ≡ f (get_or xs i x) → IsFilled f g xs ys i → IsFilled f g xs (set ys i y) (i + 1)
filled_more f g xs ys i x y lt same h = record {
  long = length-set ys i y ∙ h.long;
  done = ap (map g) (take_more_set ys i y (omega (arith, h.long))) ∙ map-append g (take i ys) (y ∷ []) ∙ rw (h.done, same) (sym (map_more f xs i x lt));
}

pub filled_all : {X Y Z : Type 0} (f : X → Z) (g : Y → Z) (xs : List X) (ys : List Y) (i : ℕ) → length xs ≤ i → IsFilled f g xs ys i → map g ys ≡ map f xs
filled_all f g xs ys i le h = ap (map g) (sym (take_all i ys (omega (arith, h.long)))) ∙ h.done ∙ ap (map f) (take_all i xs le)
