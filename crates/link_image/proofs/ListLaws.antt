-- What holds of each item of a list that is made by numbers.
use Rattle.std.proofs.Common.{◌≡◌, ℕ, zero, suc, ◌+◌, List, [], ◌∷◌, ◌++◌, Option, Some, None, length, map, slice_get, ap, sym, ◌∙◌, subst, refl, arith}
use Rattle.std.specs.Prelude.{option_map}
use Rattle.std.specs.List.{AllByRecursion, flat_map, filter_map, cons_option}
use Rattle.std.specs.Option.{option_to_list}
use Rattle.link_rules.specs.Numbers.{map_from, numbered}

-- as many as there are items
pub length_map_from : {A B : Type 0} (g : ℕ → A → B) (k : ℕ) (xs : List A) → length (map_from g k xs) ≡ length xs
length_map_from g k [] = refl
length_map_from g k (x ∷ xs) = ap suc (length_map_from g (k + 1) xs)

-- the item of a number
pub get_map_from : {A B : Type 0} (g : ℕ → A → B) (k : ℕ) (xs : List A) (i : ℕ) → slice_get (map_from g k xs) i ≡ option_map (g (k + i)) (slice_get xs i)
get_map_from g k [] i = refl
get_map_from g k (x ∷ xs) zero = let e : k + 0 ≡ k = omega arith in ap (λ n. Some (g n x)) (sym e)
get_map_from g k (x ∷ xs) (suc i) = let e : k + 1 + i ≡ k + suc i = omega arith in get_map_from g (k + 1) xs i ∙ ap (λ n. option_map (g n) (slice_get xs i)) e

pub all_append : {A : Type 0} (P : A → Type 0) (xs ys : List A) → AllByRecursion P xs → AllByRecursion P ys → AllByRecursion P (xs ++ ys)
all_append P [] ys p q = q
all_append P (x ∷ xs) ys p q = (p.0, all_append P xs ys p.1 q)

pub all_map : {A B : Type 0} (P : B → Type 0) (g : A → B) (xs : List A) → ((x : A) → P (g x)) → AllByRecursion P (map g xs)
all_map P g [] h = tt
all_map P g (x ∷ xs) h = (h x, all_map P g xs h)

-- of each item that a number makes
pub all_map_from : {A B : Type 0} (P : B → Type 0) (g : ℕ → A → B) (k : ℕ) (xs : List A) → ((i : ℕ) (x : A) → slice_get xs i ≡ Some x → P (g (k + i) x)) → AllByRecursion P (map_from g k xs)
all_map_from P g k [] h = tt
all_map_from P g k (x ∷ xs) h =
    let e : k + 0 ≡ k = omega arith in (
      subst (λ n. P (g n x)) e (h 0 x refl),
      all_map_from P g (k + 1) xs (λ i y q. let e2 : k + suc i ≡ k + 1 + i = omega arith in subst (λ n. P (g n y)) e2 (h (suc i) y q)),
    )

-- of each item of the lists that a number makes
pub all_numbered : {A B : Type 0} (P : B → Type 0) (g : ℕ → A → List B) (k : ℕ) (xs : List A) → ((i : ℕ) (x : A) → slice_get xs i ≡ Some x → AllByRecursion P (g (k + i) x)) → AllByRecursion P (numbered g k xs)
all_numbered P g k [] h = tt
all_numbered P g k (x ∷ xs) h =
    let e : k + 0 ≡ k = omega arith in
    all_append P (g k x) (numbered g (k + 1) xs) (subst (λ n. AllByRecursion P (g n x)) e (h 0 x refl))
    (all_numbered P g (k + 1) xs (λ i y q. let e2 : k + suc i ≡ k + 1 + i = omega arith in subst (λ n. AllByRecursion P (g n y)) e2 (h (suc i) y q)))

pub all_flat : {A B : Type 0} (P : B → Type 0) (g : A → List B) (xs : List A) → ((x : A) → AllByRecursion P (g x)) → AllByRecursion P (flat_map g xs)
all_flat P g [] h = tt
all_flat P g (x ∷ xs) h = all_append P (g x) (flat_map g xs) (h x) (all_flat P g xs h)

-- of an option's value, if there is one
pub all_option : {A : Type 0} (P : A → Type 0) (o : Option A) → ((x : A) → o ≡ Some x → P x) → AllByRecursion P (option_to_list o)
all_option P None h = tt
all_option P (Some x) h = (h x refl, tt)

all_cons : {A : Type 0} (P : A → Type 0) (o : Option A) (rest : List A) → ((x : A) → o ≡ Some x → P x) → AllByRecursion P rest → AllByRecursion P (cons_option o rest)
all_cons P None rest h r = r
all_cons P (Some x) rest h r = (h x refl, r)

-- of what is kept of a list
pub all_filtered : {A B : Type 0} (P : B → Type 0) (g : A → Option B) (xs : List A) → ((x : A) (y : B) → g x ≡ Some y → P y) → AllByRecursion P (filter_map g xs)
all_filtered P g [] h = tt
all_filtered P g (x ∷ xs) h = all_cons P (g x) (filter_map g xs) (h x) (all_filtered P g xs h)

-- an item of a list by recursion
pub all_at : {A : Type 0} (P : A → Type 0) (xs : List A) (i : ℕ) (x : A) → AllByRecursion P xs → slice_get xs i ≡ Some x → P x
all_at P [] i x h e = absurd cc
all_at P (y ∷ ys) zero x h e = let s : y ≡ x = cc in subst P s h.0
all_at P (y ∷ ys) (suc i) x h e = all_at P ys i x h.1 e

-- what holds of each item gives another thing of each
pub all_more : {A : Type 0} (P Q : A → Type 0) (xs : List A) → ((x : A) → P x → Q x) → AllByRecursion P xs → AllByRecursion Q xs
all_more P Q [] f h = tt
all_more P Q (x ∷ xs) f h = (f x h.0, all_more P Q xs f h.1)
