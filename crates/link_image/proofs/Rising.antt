-- Places of targets rise, so that none stands twice.
use Rattle.std.proofs.Common.{◌≡◌, ℕ, zero, suc, ◌+◌, ◌*◌, ◌<◌, ◌≤◌, List, [], ◌∷◌, ◌++◌, Option, Some, None, length, slice_get, ap, subst, refl, arith}
use Rattle.program_image.specs.Places.{Placing}
use Rattle.program_image.specs.Condition.{place_of, Differ}
use Rattle.program_image.specs.declared.info.Target.{Target}
use Rattle.link_rules.specs.Numbers.{numbered}
use Rattle.link_image.specs.Targets.{placing}

-- a place as one number: addresses have 32 bits
abbrev pub key : Placing → ℕ
key t = t.0 * 4294967296 + t.1

-- from one number on the places rise, and stay below another
abbrev pub Rises : ℕ → ℕ → List Placing → Type 0
Rises low high [] = low ≤ high
Rises low high (t ∷ ts) = (low ≤ key t) × Rises (key t + 1) high ts

-- also from a lower number on
pub rises_from : (low mid high : ℕ) (ts : List Placing) → low ≤ mid → Rises mid high ts → Rises low high ts
rises_from low mid high [] l r = omega arith
rises_from low mid high (t ∷ ts) l r = let a = r.0 in (omega arith, r.1)

-- also below a higher one
pub rises_to : (low mid high : ℕ) (ts : List Placing) → mid ≤ high → Rises low mid ts → Rises low high ts
rises_to low mid high [] l r = omega arith
rises_to low mid high (t ∷ ts) l r = (r.0, rises_to (key t + 1) mid high ts l r.1)

-- lists one behind the other
pub rises_append : (low mid high : ℕ) (xs ys : List Placing) → Rises low mid xs → Rises mid high ys → Rises low high (xs ++ ys)
rises_append low mid high [] ys a b = rises_from low mid high ys a b
rises_append low mid high (x ∷ xs) ys a b = (a.0, rises_append (key x + 1) mid high xs ys a.1 b)

-- one place
pub rises_placing : (m at : ℕ) (target : Option Target) → Rises (m * 4294967296 + at) (m * 4294967296 + at + 1) (placing m at target)
rises_placing m at None = omega arith
rises_placing m at (Some t) = (omega arith, omega arith)

-- lists by number, each of which has room for its places
pub rises_numbered : {A : Type 0} (g : ℕ → A → List Placing) (low step : ℕ) (k : ℕ) (xs : List A) → ((i : ℕ) (x : A) → i < k + length xs → Rises (low + i * step) (low + (i + 1) * step) (g i x)) → Rises (low + k * step) (low + (k + length xs) * step) (numbered g k xs)
rises_numbered g low step k [] h = omega arith
rises_numbered g low step k (x ∷ xs) h =
    let rest : Rises (low + (k + 1) * step) (low + (k + 1 + length xs) * step) (numbered g (k + 1) xs) = rises_numbered g low step (k + 1) xs (λ i y l. h i y (omega arith)) in
    let same : k + 1 + length xs ≡ k + suc (length xs) = omega arith in
    let rest2 : Rises (low + (k + 1) * step) (low + (k + suc (length xs)) * step) (numbered g (k + 1) xs) = subst (λ n. Rises (low + (k + 1) * step) (low + n * step) (numbered g (k + 1) xs)) same rest in
    rises_append (low + k * step) (low + (k + 1) * step) (low + (k + suc (length xs)) * step) (g k x) (numbered g (k + 1) xs) (h k x (omega arith)) rest2

-- a place in such a list isn't lower than where it begins
at_least : (low high : ℕ) (ts : List Placing) (i : ℕ) (t : Placing) → Rises low high ts → slice_get ts i ≡ Some t → low ≤ key t
at_least low high [] i t r e = absurd cc
at_least low high (x ∷ xs) zero t r e = let s : x ≡ t = cc in subst (λ z. low ≤ key z) s r.0
at_least low high (x ∷ xs) (suc i) t r e = let a = at_least (key x + 1) high xs i t r.1 e in let b = r.0 in omega arith

-- no place stands twice
one_place : (low high : ℕ) (ts : List Placing) (i j : ℕ) (x y : Placing) → Rises low high ts → slice_get ts i ≡ Some x → slice_get ts j ≡ Some y → key x ≡ key y → i ≡ j
one_place low high [] i j x y r e f k = absurd cc
one_place low high (t ∷ ts) zero zero x y r e f k = refl
one_place low high (t ∷ ts) zero (suc j) x y r e f k =
    let a = at_least (key t + 1) high ts j y r.1 f in
    let s : t ≡ x = cc in
    let l : key t ≡ key x = ap key s in absurd (omega arith)
one_place low high (t ∷ ts) (suc i) zero x y r e f k =
    let a = at_least (key t + 1) high ts i x r.1 e in
    let s : t ≡ y = cc in
    let l : key t ≡ key y = ap key s in absurd (omega arith)
one_place low high (t ∷ ts) (suc i) (suc j) x y r e f k = ap suc (one_place (key t + 1) high ts i j x y r.1 e f k)

pub places_differ : (low high : ℕ) (ts : List Placing) → Rises low high ts → Differ place_of ts
places_differ low high ts r i j x y e f p = one_place low high ts i j x y r e f (ap (λ q. q.0 * 4294967296 + q.1) p)
