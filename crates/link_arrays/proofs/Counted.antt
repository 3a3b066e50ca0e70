-- Laws of counting array types.
use Rattle.std.proofs.Common.{◌≡◌, ℕ, ◌+◌, ◌<◌, ◌≤◌, Bool, true, false, List, [], ◌∷◌, ◌++◌, length, drop, get_or, nat_lt, Ok, Err, ap, sym, ◌∙◌, subst, refl, arith}
use Rattle.std.specs.Prelude.{if◌then◌else◌}
use Rattle.std.specs.List.{flat_map}
use Rattle.std.proofs.lemmas.Bool.Decides.{nat_tests}
use Rattle.std.proofs.lemmas.List.{at_drop_more}
use Rattle.jvm_base.specs.declared.desc.Desc.{Desc}
use Rattle.jvm_base.specs.declared.desc.Elem.{Elem}
use Rattle.jvm_base.specs.Told.{Fails}
use Rattle.program_image.specs.Signatures.{same_desc}
use Rattle.link_arrays.specs.declared.error.ArraysErr.{ArraysErr}
use Rattle.link_arrays.specs.declared.error.ArraysErr.TheVariants.{TooMany, NoMemory}
use Rattle.link_arrays.specs.Arrays.{array}
use Rattle.link_arrays.specs.ArrayClasses.{class_limit}
use Rattle.link_arrays.specs.Counting.{counted, told, AreClosed, AreSoFar}
use Rattle.link_arrays.specs.Seen.{with_items}
use Rattle.link_arrays.proofs.Levels.{closed_levels, closed_items}
use Rattle.link_arrays.proofs.SeenLaws.{items_append, longer_items}

over : (n : ℕ) → nat_lt class_limit n ≡ true → class_limit < n
over n e = grind (arith, nat_tests)

over_again : (n : ℕ) → class_limit < n → nat_lt class_limit n ≡ true
over_again n h = grind (arith, nat_tests)

within : (n : ℕ) → nat_lt class_limit n ≡ false → n ≤ class_limit
within n e = grind (arith, nat_tests)

within_again : (n : ℕ) → n ≤ class_limit → nat_lt class_limit n ≡ false
within_again n h = grind (arith, nat_tests)

-- they are counted as they are where they aren't too many
pub counted_few : (declared : ℕ) (types : List Desc) → declared + length types ≤ class_limit → counted declared types ≡ Ok types
counted_few declared types h = ap (λ b. if b then Err TooMany else Ok types) (within_again (declared + length types) h)

-- and there is nothing else where they are answered
pub counted_ok : (declared : ℕ) (types new : List Desc) → counted declared types ≡ Ok new → (types ≡ new) × (declared + length types ≤ class_limit)
counted_ok declared types new e = by (nat_lt class_limit (declared + length types)) refl e
  where
    by : (b : Bool) → nat_lt class_limit (declared + length types) ≡ b → (if b then Err TooMany else Ok types) ≡ Ok new → (types ≡ new) × (declared + length types ≤ class_limit)
    by true h q = absurd cc
    by false h q = (cc, within (declared + length types) h)

-- once there are too many, there are with more
many_stays : (declared : ℕ) (types more : List Desc) → counted declared types ≡ Err TooMany → counted declared (with_items same_desc types more) ≡ Err TooMany
many_stays declared types more e = by (nat_lt class_limit (declared + length types)) refl e
  where
    by : (b : Bool) → nat_lt class_limit (declared + length types) ≡ b → (if b then Err TooMany else Ok types) ≡ Err TooMany → counted declared (with_items same_desc types more) ≡ Err TooMany
    by true h q =
        let a = over (declared + length types) h in
        let b = longer_items same_desc types more in
        ap (λ c. if c then Err TooMany else Ok (with_items same_desc types more)) (over_again (declared + length (with_items same_desc types more)) (omega arith))
    by false h q = absurd cc

-- the start of a loop stops the whole too
pub start_break : (declared : ℕ) (types more : List Desc) (e : ArraysErr) → Fails told e (counted declared types) → Fails told e (counted declared (with_items same_desc types more))
start_break declared types more NoMemory h = tt
start_break declared types more TooMany h = many_stays declared types more h

-- or the types are few so far, one type of one dimension
pub start_so_far : (declared : ℕ) (elem : Elem) (new : List Desc) → counted declared (array 1 elem ∷ []) ≡ Ok new → AreSoFar declared (array 1 elem ∷ [])
start_so_far declared elem new done = record {
  closed = closed_levels 1 elem;
  few = (counted_ok declared (array 1 elem ∷ []) new done).1;
}

fails_more : (declared : ℕ) (types xs ys : List Desc) (e : ArraysErr) → Fails told e (counted declared (with_items same_desc types xs)) → Fails told e (counted declared (with_items same_desc types (xs ++ ys)))
fails_more declared types xs ys NoMemory h = tt
fails_more declared types xs ys TooMany h = ap (counted declared) (items_append same_desc types xs ys) ∙ many_stays declared (with_items same_desc types xs) ys h

-- a loop over places: what stops at one stops the whole
pub types_break : {X : Type 0} (f : X → List Desc) (declared : ℕ) (types : List Desc) (xs : List X) (i : ℕ) (x : X) (e : ArraysErr) → i < length xs → x ≡ get_or xs i x → Fails told e (counted declared (with_items same_desc types (f x))) → Fails told e (counted declared (with_items same_desc types (flat_map f (drop i xs))))
types_break f declared types xs i x e h at broken =
    subst (λ z. Fails told e (counted declared (with_items same_desc types z))) (sym (at_drop_more (flat_map f) xs i x h))
    (fails_more declared types (f (get_or xs i x)) (flat_map f (drop (i + 1) xs)) e (subst (λ z. Fails told e (counted declared (with_items same_desc types (f z)))) at broken))

-- and what is left after one more
pub types_more : {X : Type 0} (f : X → List Desc) (declared : ℕ) (types new : List Desc) (xs : List X) (i : ℕ) (x : X) → i < length xs → x ≡ get_or xs i x → counted declared (with_items same_desc types (f x)) ≡ Ok new → with_items same_desc types (flat_map f (drop i xs)) ≡ with_items same_desc new (flat_map f (drop (i + 1) xs))
types_more f declared types new xs i x h at done =
    let rest = flat_map f (drop (i + 1) xs) in
    ap (with_items same_desc types) (at_drop_more (flat_map f) xs i x h)
    ∙ items_append same_desc types (f (get_or xs i x)) rest
    ∙ ap (λ z. with_items same_desc (with_items same_desc types (f z)) rest) (sym at)
    ∙ ap (λ z. with_items same_desc z rest) (counted_ok declared (with_items same_desc types (f x)) new done).0

-- which are closed and few again
pub so_far_more : (declared : ℕ) (types more new : List Desc) → AreSoFar declared types → AreClosed more → counted declared (with_items same_desc types more) ≡ Ok new → AreSoFar declared new
so_far_more declared types more new s c done =
    let ok = counted_ok declared (with_items same_desc types more) new done in
    subst (AreSoFar declared) ok.0 (record { closed = closed_items types more s.closed c; few = ok.1 })
