-- The first place at which a test passes.
use Rattle.std.proofs.Common.{◌≡◌, ℕ, zero, suc, ◌<◌, ◌≤◌, Bool, true, false, ltb, List, [], ◌∷◌, ◌++◌, length, take, drop, get_or, Some, refl, ap, arith, length-append}
use Rattle.std.specs.Prelude.{position, replicate}
use Rattle.std.specs.List.{position_or_len, AllByRecursion}

-- the parts of a list round a place
pub parts_at : {X : Type 0} (xs : List X) (i : ℕ) (d : X) → i < length xs → xs ≡ take i xs ++ get_or xs i d ∷ drop (suc i) xs
parts_at [] i d lt = absurd (omega arith)
parts_at (x ∷ xs) zero d lt = refl
parts_at {X = X} (x ∷ xs) (suc i) d lt = ap (λ (z : List X). x ∷ z) (parts_at xs i d (omega arith))

-- the test fails in front, and passes at the item behind
pub place_behind : {X : Type 0} (p : X → Bool) (front : List X) (x : X) (rest : List X) → AllByRecursion (λ y. p y ≡ false) front → p x ≡ true → position_or_len p (front ++ x ∷ rest) ≡ length front
place_behind p [] x rest h k = rw k refl
place_behind p (y ∷ front) x rest h k = rw (h.0, place_behind p front x rest h.1 k) (omega arith)

pub position_behind : {X : Type 0} (p : X → Bool) (front : List X) (x : X) (rest : List X) → AllByRecursion (λ y. p y ≡ false) front → p x ≡ true → position p (front ++ x ∷ rest) ≡ Some (length front)
position_behind p front x rest h k =
    let lt : ltb (length front) (length (front ++ x ∷ rest)) ≡ true = grind (arith, length-append) in
    rw (place_behind p front x rest h k, lt) refl

pub all_replicate : {X : Type 0} (P : X → Type 0) (n : ℕ) (x : X) → P x → AllByRecursion P (replicate n x)
all_replicate P zero x h = tt
all_replicate P (suc n) x h = (h, all_replicate P n x h)

pub take_replicate : (n x : ℕ) (xs : List ℕ) → n ≤ length xs → ((k : ℕ) → k < n → get_or xs k 0 ≡ x) → take n xs ≡ replicate n x
take_replicate zero x xs le h = refl
take_replicate (suc n) x [] le h = absurd (omega arith)
take_replicate (suc n) x (y ∷ xs) le h =
    let first : y ≡ x = h 0 (omega arith) in
    let rest : take n xs ≡ replicate n x = take_replicate n x xs (omega arith) (λ k lt. h (suc k) (omega arith)) in
    cc

pub drop_behind : {X : Type 0} (front : List X) (x : X) (rest : List X) → drop (suc (length front)) (front ++ x ∷ rest) ≡ rest
drop_behind [] x rest = refl
drop_behind (y ∷ front) x rest = drop_behind front x rest
