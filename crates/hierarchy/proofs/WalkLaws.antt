-- Laws of walks.
use Rattle.std.proofs.Common.{◌≡◌, ℕ, zero, suc, ◌+◌, ◌<◌, Bool, true, false, ◌||◌, List, [], ◌∷◌, ◌++◌, Option, Some, None, length, slice_index, sym, ◌∙◌, ap, subst, refl, arith}
use Rattle.std.specs.Prelude.{◌==◌, if◌then◌else◌}
use Rattle.std.specs.List.{Contains, flat_map}
use Rattle.hierarchy.specs.Hierarchy.{row_of, IsRanked}
use Rattle.hierarchy.proofs.Tests.{or_false, or_assoc, or_right, has_append, equal_from}
use Rattle.hierarchy.specs.Walks.{walk, all_from, has, add_one, add_new, firsts, or_else, first_some}

-- two functions that agree on a list give one `flat_map`
flat_map_same : (f g : ℕ → List ℕ) (xs : List ℕ) → ((k : ℕ) → Contains xs k → f k ≡ g k) → flat_map f xs ≡ flat_map g xs
flat_map_same f g [] h = refl
flat_map_same f g (x ∷ xs) h =
    let a : f x ≡ g x = h x (0, omega arith, refl) in
    let b : flat_map f xs ≡ flat_map g xs = flat_map_same f g xs (λ k w. h k (suc w.0, (let l = w.1 in omega arith), w.2)) in
    ap (λ z. z ++ flat_map f xs) a ∙ ap (λ z. g x ++ z) b

-- one step more changes nothing once there are as many as the rank
walk_more : (rows : List (List ℕ)) (ranks : List ℕ) → IsRanked rows ranks → (n c : ℕ) → slice_index ranks c < n → walk n rows c ≡ walk (suc n) rows c
unfolding walk
walk_more rows ranks r zero c h = absurd (omega arith)
walk_more rows ranks r (suc n) c h = ap (λ z. c ∷ z) (flat_map_same (walk n rows) (walk (suc n) rows) (row_of rows c) (λ k w. let f = r.falls c k w in walk_more rows ranks r n k (omega arith)))

-- the walk from a number is the number and the walks from its row
pub walk_unfolds : (rows : List (List ℕ)) (ranks : List ℕ) → IsRanked rows ranks → (c : ℕ) → all_from rows c ≡ c ∷ flat_map (all_from rows) (row_of rows c)
unfolding walk all_from
walk_unfolds rows ranks r c = let m = r.most c in walk_more rows ranks r (length rows + 2) c (omega arith)

-- one more item is in
has_one : (xs : List ℕ) (y d : ℕ) → has (add_one xs y) d ≡ (has xs d || (y == d))
has_one xs y d = by (has xs y) refl (y == d) refl
  where
    by : (b : Bool) → has xs y ≡ b → (e : Bool) → (y == d) ≡ e → has (add_one xs y) d ≡ (has xs d || e)
    by true h true e =
        let s : has xs d ≡ true = subst (λ z. has xs z ≡ true) (equal_from y d e) h in
        ap (λ b. has (if b then xs else xs ++ y ∷ []) d) h ∙ s ∙ sym (or_right (has xs d) true refl)
    by true h false e = ap (λ b. has (if b then xs else xs ++ y ∷ []) d) h ∙ or_false (has xs d)
    by false h e q = ap (λ b. has (if b then xs else xs ++ y ∷ []) d) h ∙ has_append xs (y ∷ []) d ∙ ap (λ z. has xs d || (z || false)) q ∙ ap (λ z. has xs d || z) (sym (or_false e))

pub has_new : (xs ys : List ℕ) (d : ℕ) → has (add_new xs ys) d ≡ (has xs d || has ys d)
has_new xs [] d = or_false (has xs d)
has_new xs (y ∷ ys) d = has_new (add_one xs y) ys d ∙ ap (λ z. z || has ys d) (has_one xs y d) ∙ sym (or_assoc (has xs d) (y == d) (has ys d))

pub add_append : (xs ys zs : List ℕ) → add_new xs (ys ++ zs) ≡ add_new (add_new xs ys) zs
add_append xs [] zs = refl
add_append xs (y ∷ ys) zs = add_append (add_one xs y) ys zs

-- adding a list to which ys was added is adding both
add_into : (xs zs ys : List ℕ) → add_new xs (add_new zs ys) ≡ add_new (add_new xs zs) ys
add_into xs zs [] = refl
add_into xs zs (y ∷ ys) = add_into xs (add_one zs y) ys ∙ ap (λ q. add_new q ys) (by (has zs y) refl)
  where
    by : (b : Bool) → has zs y ≡ b → add_new xs (add_one zs y) ≡ add_one (add_new xs zs) y
    by true h =
        let there : has (add_new xs zs) y ≡ true = has_new xs zs y ∙ or_right (has xs y) (has zs y) h in
        ap (λ b. add_new xs (if b then zs else zs ++ y ∷ [])) h ∙ sym (ap (λ b. if b then add_new xs zs else add_new xs zs ++ y ∷ []) there)
    by false h = ap (λ b. add_new xs (if b then zs else zs ++ y ∷ [])) h ∙ add_append xs zs (y ∷ [])

-- adding the first ones of a list is adding the list
pub add_firsts : (xs ys : List ℕ) → add_new xs (firsts ys) ≡ add_new xs ys
add_firsts xs ys = add_into xs [] ys

pub or_else_none : {A : Type 0} (o : Option A) → or_else o None ≡ o
or_else_none None = refl
or_else_none (Some x) = refl

pub or_else_assoc : {A : Type 0} (a b c : Option A) → or_else (or_else a b) c ≡ or_else a (or_else b c)
or_else_assoc (Some x) b c = refl
or_else_assoc None b c = refl

pub first_append : {A : Type 0} (f : ℕ → Option A) (xs ys : List ℕ) → first_some f (xs ++ ys) ≡ or_else (first_some f xs) (first_some f ys)
first_append f [] ys = refl
first_append f (x ∷ xs) ys = ap (or_else (f x)) (first_append f xs ys) ∙ sym (or_else_assoc (f x) (first_some f xs) (first_some f ys))

there_by : {A : Type 0} (f : ℕ → Option A) (xs : List ℕ) (x y : ℕ) → (has xs y ≡ true → or_else (first_some f xs) (f y) ≡ first_some f xs) → (b : Bool) → (x == y) ≡ b → (b || has xs y) ≡ true → (o : Option A) → f x ≡ o → or_else (or_else o (first_some f xs)) (f y) ≡ or_else o (first_some f xs)
there_by f xs x y rest b e h (Some z) q = refl
there_by f xs x y rest true e h None q = ap (or_else (first_some f xs)) (ap f (sym (equal_from x y e)) ∙ q) ∙ or_else_none (first_some f xs)
there_by f xs x y rest false e h None q = rest h

first_there : {A : Type 0} (f : ℕ → Option A) (xs : List ℕ) (y : ℕ) → has xs y ≡ true → or_else (first_some f xs) (f y) ≡ first_some f xs
first_there f [] y h = absurd cc
first_there f (x ∷ xs) y h = there_by f xs x y (first_there f xs y) (x == y) refl h (f x) refl

-- the first answer over the first ones is the first over the list
pub first_new : {A : Type 0} (f : ℕ → Option A) (xs ys : List ℕ) → first_some f (add_new xs ys) ≡ or_else (first_some f xs) (first_some f ys)
first_new f xs [] = sym (or_else_none (first_some f xs))
first_new f xs (y ∷ ys) = first_new f (add_one xs y) ys ∙ ap (λ o. or_else o (first_some f ys)) (by (has xs y) refl) ∙ or_else_assoc (first_some f xs) (f y) (first_some f ys)
  where
    by : (b : Bool) → has xs y ≡ b → first_some f (add_one xs y) ≡ or_else (first_some f xs) (f y)
    by true h = ap (λ b. first_some f (if b then xs else xs ++ y ∷ [])) h ∙ sym (first_there f xs y h)
    by false h = ap (λ b. first_some f (if b then xs else xs ++ y ∷ [])) h ∙ first_append f xs (y ∷ []) ∙ ap (or_else (first_some f xs)) (or_else_none (f y))
