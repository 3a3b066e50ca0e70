-- Loops over numbered lists, one turn at a time.
use Rattle.std.proofs.Common.{◌≡◌, ℕ, zero, suc, ◌+◌, ◌<◌, List, [], ◌∷◌, ◌++◌, length, drop, get_or, ap, sym, ◌∙◌, refl, append_assoc, append-nil, add-one, drop-cons, reverse, length-drop, arith, map, take, Some, None, slice_get, ◌≤◌}
use Rattle.std.specs.Prelude.{Bool, true, false, if◌then◌else◌}
use Rattle.std.specs.List.{sum_by, count_by}
use Rattle.std.proofs.Math.ListN.{get_or-map, drop_of_length-le}
use Rattle.std.proofs.lemmas.Option.{slice_get_within, get_or_from_slice_get, slice_get-get_or}
use Rattle.std.proofs.lemmas.List.Sums.{sum_by_more, sum_by_more_le, count_by_more_yes, count_by_more_no}
use Rattle.std.proofs.lemmas.List.{length-map, reverse-append, reverse-reverse, length-reverse}
use Rattle.link_rules.specs.Numbers.{map_from, numbered}

-- what is left, with the item at its front
pub map_front : {A B : Type 0} (g : ℕ → A → B) (xs : List A) (k i : ℕ) (d : A) → i < length xs → map_from g k (drop i xs) ≡ g k (get_or xs i d) ∷ map_from g (k + 1) (drop (i + 1) xs)
map_front g xs k i d h =
    let front : drop i xs ≡ get_or xs i d ∷ drop (i + 1) xs = rw (add-one, drop-cons xs i d) in
    ap (map_from g k) front

-- one more item: what is done and what is left stay the whole
pub map_more : {A B : Type 0} (g : ℕ → A → B) (xs : List A) (k i : ℕ) (d : A) (whole done : List B) (y : B) → i < length xs → whole ≡ done ++ map_from g k (drop i xs) → y ≡ g k (get_or xs i d) → whole ≡ (done ++ y ∷ []) ++ map_from g (k + 1) (drop (i + 1) xs)
map_more g xs k i d whole done y h e q =
    e ∙ ap (λ z. done ++ z) (map_front g xs k i d h) ∙ ap (λ z. done ++ z ∷ map_from g (k + 1) (drop (i + 1) xs)) (sym q) ∙ sym (append_assoc done (y ∷ []) (map_from g (k + 1) (drop (i + 1) xs)))

-- an item that is there
pub item_at : {A : Type 0} (xs : List A) (i : ℕ) → i < length xs → A
item_at [] i h = absurd (omega arith)
item_at (x ∷ xs) zero h = x
item_at (x ∷ xs) (suc i) h = item_at xs i (omega arith)

pub item_there : {A : Type 0} (xs : List A) (i : ℕ) (h : i < length xs) → slice_get xs i ≡ Some (item_at xs i h)
unfolding item_at
item_there [] i h = absurd (omega arith)
item_there (x ∷ xs) zero h = refl
item_there (x ∷ xs) (suc i) h = item_there xs i (omega arith)

-- one more item, of which only the number counts
pub count_more : {A B : Type 0} (g : ℕ → B) (xs : List A) (k i : ℕ) (whole done : List B) (y : B) → i < length xs → whole ≡ done ++ map_from (λ n x. g n) k (drop i xs) → y ≡ g k → whole ≡ (done ++ y ∷ []) ++ map_from (λ n x. g n) (k + 1) (drop (i + 1) xs)
count_more g xs k i whole done y h e q = map_more (λ n x. g n) xs k i (item_at xs i h) whole done y h e q

pub numbered_front : {A B : Type 0} (g : ℕ → A → List B) (xs : List A) (k i : ℕ) (d : A) → i < length xs → numbered g k (drop i xs) ≡ g k (get_or xs i d) ++ numbered g (k + 1) (drop (i + 1) xs)
numbered_front g xs k i d h =
    let front : drop i xs ≡ get_or xs i d ∷ drop (i + 1) xs = rw (add-one, drop-cons xs i d) in
    ap (numbered g k) front

-- one more list of them
pub numbered_more : {A B : Type 0} (g : ℕ → A → List B) (xs : List A) (k i : ℕ) (d : A) (whole done ys : List B) → i < length xs → whole ≡ done ++ numbered g k (drop i xs) → ys ≡ g k (get_or xs i d) → whole ≡ (done ++ ys) ++ numbered g (k + 1) (drop (i + 1) xs)
numbered_more g xs k i d whole done ys h e q =
    e ∙ ap (λ z. done ++ z) (numbered_front g xs k i d h) ∙ ap (λ z. done ++ (z ++ numbered g (k + 1) (drop (i + 1) xs))) (sym q) ∙ sym (append_assoc done ys (numbered g (k + 1) (drop (i + 1) xs)))

-- ---- lists that are taken from their end

-- the last of a list the other way round is its first
pub popped : {A : Type 0} (xs left rest : List A) (i : ℕ) (last d : A) → i < length xs → left ≡ reverse (drop i xs) → left ≡ rest ++ last ∷ [] → (last ≡ get_or xs i d) × (rest ≡ reverse (drop (i + 1) xs))
popped {A = A} xs left rest i last d h e q =
    let front : drop i xs ≡ get_or xs i d ∷ drop (i + 1) xs = rw (add-one, drop-cons xs i d) in
    let back : reverse (rest ++ last ∷ []) ≡ last ∷ reverse rest = reverse-append rest (last ∷ []) in
    let both : last ∷ reverse rest ≡ get_or xs i d ∷ drop (i + 1) xs = sym back ∙ ap reverse (sym q ∙ e) ∙ reverse-reverse (drop i xs) ∙ front in
    let first : last ≡ get_or xs i d = cc in
    let others : reverse rest ≡ drop (i + 1) xs = cc in
    (first, sym (reverse-reverse rest) ∙ ap reverse others)

-- while items are left there is a last one
pub some_left : {A : Type 0} (xs left : List A) (i : ℕ) → i < length xs → left ≡ reverse (drop i xs) → left ≡ [] → ⊥
some_left xs left i h e q =
    let n : length (reverse (drop i xs)) ≡ length (drop i xs) = length-reverse (drop i xs) in
    let z : length (reverse (drop i xs)) ≡ 0 = ap length (sym e ∙ q) in
    let l = length-drop i xs in omega arith

-- the same of what a function makes of the items
pub popped_map : {A B : Type 0} (g : A → B) (xs : List A) (left rest : List B) (i : ℕ) (last : B) (x : A) → i < length xs → x ≡ get_or xs i x → left ≡ reverse (drop i (map g xs)) → left ≡ rest ++ last ∷ [] → (last ≡ g x) × (rest ≡ reverse (drop (i + 1) (map g xs)))
popped_map g xs left rest i last x h is e q =
    let n : length (map g xs) ≡ length xs = length-map xs g in
    let p = popped (map g xs) left rest i last (g x) (omega arith) e q in
    let at : get_or (map g xs) i (g x) ≡ g (get_or xs i x) = get_or-map g xs i x in
    (p.0 ∙ at ∙ ap g (sym is), p.1)

pub some_left_map : {A B : Type 0} (g : A → B) (xs : List A) (left : List B) (i : ℕ) → i < length xs → left ≡ reverse (drop i (map g xs)) → left ≡ [] → ⊥
some_left_map g xs left i h e q = let n : length (map g xs) ≡ length xs = length-map xs g in some_left (map g xs) left i (omega arith) e q

-- ---- items by number

-- a number below the count is that of an item
pub not_past : {A : Type 0} (xs : List A) (i : ℕ) → i < length xs → None ≡ slice_get xs i → ⊥
not_past xs i h e = let s = slice_get-get_or xs i (item_at xs i h) h in absurd (cc)

pub map_more_at : {A B : Type 0} (g : ℕ → A → B) (xs : List A) (i : ℕ) (x : A) (whole done : List B) (y : B) → slice_get xs i ≡ Some x → whole ≡ done ++ map_from g i (drop i xs) → y ≡ g i x → whole ≡ (done ++ y ∷ []) ++ map_from g (i + 1) (drop (i + 1) xs)
map_more_at g xs i x whole done y e w q = map_more g xs i i x whole done y (slice_get_within xs i x e) w (q ∙ ap (g i) (sym (get_or_from_slice_get xs i x x e)))

pub numbered_more_at : {A B : Type 0} (g : ℕ → A → List B) (xs : List A) (i : ℕ) (x : A) (whole done ys : List B) → slice_get xs i ≡ Some x → whole ≡ done ++ numbered g i (drop i xs) → ys ≡ g i x → whole ≡ (done ++ ys) ++ numbered g (i + 1) (drop (i + 1) xs)
numbered_more_at g xs i x whole done ys e w q = numbered_more g xs i i x whole done ys (slice_get_within xs i x e) w (q ∙ ap (g i) (sym (get_or_from_slice_get xs i x x e)))

-- at the end nothing is left
pub map_end : {A B : Type 0} (g : ℕ → A → B) (xs : List A) (k i : ℕ) (whole done : List B) → length xs ≤ i → whole ≡ done ++ map_from g k (drop i xs) → done ≡ whole
map_end g xs k i whole done h e =
    let z : drop i xs ≡ [] = drop_of_length-le xs h in
    sym (e ∙ ap (λ r. done ++ map_from g k r) z ∙ append-nil done)

pub numbered_end : {A B : Type 0} (g : ℕ → A → List B) (xs : List A) (k i : ℕ) (whole done : List B) → length xs ≤ i → whole ≡ done ++ numbered g k (drop i xs) → done ≡ whole
numbered_end g xs k i whole done h e =
    let z : drop i xs ≡ [] = drop_of_length-le xs h in
    sym (e ∙ ap (λ r. done ++ numbered g k r) z ∙ append-nil done)

-- ---- sums up to an item

pub sum_more : {A : Type 0} (f : A → ℕ) (xs : List A) (i : ℕ) (x : A) → slice_get xs i ≡ Some x → sum_by f (take (i + 1) xs) ≡ sum_by f (take i xs) + f x
sum_more f xs i x e = sum_by_more f xs i x (slice_get_within xs i x e) ∙ ap (λ y. sum_by f (take i xs) + f y) (get_or_from_slice_get xs i x x e)

pub sum_in : {A : Type 0} (f : A → ℕ) (xs : List A) (i : ℕ) (x : A) → slice_get xs i ≡ Some x → sum_by f (take i xs) + f x ≤ sum_by f xs
sum_in f xs i x e =
    let l = sum_by_more_le f xs i x (slice_get_within xs i x e) in
    let s : f (get_or xs i x) ≡ f x = ap f (get_or_from_slice_get xs i x x e) in omega arith

-- a count up to an item and whether it passes
pub count_step : {A : Type 0} (p : A → Bool) (xs : List A) (i : ℕ) (x : A) (before n : ℕ) → i < length xs → x ≡ get_or xs i x → n ≡ before + count_by p (take i xs) → (if p x then n + 1 else n) ≡ before + count_by p (take (i + 1) xs)
count_step p xs i x before n h is e = by (p x) refl
  where
    by : (b : Bool) → p x ≡ b → (if b then n + 1 else n) ≡ before + count_by p (take (i + 1) xs)
    by true q = let m = count_by_more_yes p xs i x h (ap p (sym is) ∙ q) in omega arith
    by false q = let m = count_by_more_no p xs i x h (ap p (sym is) ∙ q) in omega arith
