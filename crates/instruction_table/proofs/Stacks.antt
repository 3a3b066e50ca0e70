-- Room of lists of types.
use Rattle.std.proofs.Common.{◌≡◌, ◌∙◌, sym, ap, refl, ◌+◌, ◌-◌, ◌<◌, ◌≤◌, List, [], ◌∷◌, ◌++◌, length, drop, slice_get, Some, None, true, false, if◌then◌else◌, arith}
use Rattle.std.specs.Prelude.{reverse, get_or}
use Rattle.std.proofs.lemmas.List.{length-reverse, get_or-reverse, reverse-reverse}
use Rattle.std.proofs.lemmas.Option.{get_or_from_slice_get}
use Rattle.shared_types.specs.Trees.{longs, more_slots}
use Rattle.shared_types.proofs.Laws.{get_there}
use Rattle.instruction_table.specs.Needs.{is_long}
use mathlib.Core.List.{reverse-cons}
use Rattle.flow_types.specs.declared.flow_type.FlowType.{FlowType}
use Rattle.instruction_table.specs.Working.{slots, first_or}
use Rattle.flow_types.specs.declared.flow_type.FlowType.TheVariants.{Unusable, Int, Long, High, Null, Class, Array, Fresh, FreshThis}

slots-append : (xs ys : List FlowType) → slots (xs ++ ys) ≡ slots xs + slots ys
slots-append [] ys = omega arith
slots-append (x ∷ xs) ys = let h : slots (xs ++ ys) ≡ slots xs + slots ys = slots-append xs ys in omega arith

pub slots_reverse : (xs : List FlowType) → slots (reverse xs) ≡ slots xs
slots_reverse [] = refl
slots_reverse (x ∷ xs) =
    let h : slots (reverse xs) ≡ slots xs = slots_reverse xs in
    let g : slots (reverse (x ∷ xs)) ≡ slots (reverse xs ++ (x ∷ [])) = ap slots (reverse-cons x xs) in
    let k : slots (reverse xs ++ (x ∷ [])) ≡ slots (reverse xs) + slots (x ∷ []) = slots-append (reverse xs) (x ∷ []) in
    omega arith

few : (ys : List FlowType) → length ys < 2 → Null ≡ first_or Null (drop 1 ys)
few [] h = refl
few (y ∷ []) h = refl
few (y ∷ z ∷ ys) h = absurd (omega arith)

many : (ys : List FlowType) (d : FlowType) → 2 ≤ length ys → get_or ys 1 d ≡ first_or Null (drop 1 ys)
many [] d h = absurd (omega arith)
many (y ∷ []) d h = absurd (omega arith)
many (y ∷ z ∷ ys) d h = refl

-- the last but one is the second from behind
pub no_second : (xs : List FlowType) → length xs < 2 → Null ≡ first_or Null (drop 1 (reverse xs))
no_second xs h = few (reverse xs) (let e : length (reverse xs) ≡ length xs = length-reverse xs in omega arith)

pub second_last : (xs : List FlowType) (d : FlowType) → 2 ≤ length xs → get_or xs (length xs - 2) d ≡ first_or Null (drop 1 (reverse xs))
second_last xs d h =
    let e : length (reverse xs) ≡ length xs = length-reverse xs in
    let f : length xs - 1 - 1 ≡ length xs - 2 = omega arith in
    ap (λ k. get_or xs k d) (sym f) ∙ sym (get_or-reverse xs 1 d (omega arith)) ∙ many (reverse xs) d (omega arith)

-- the last but one, where it is there
pub second_there : (xs : List FlowType) (t : FlowType) → 2 ≤ length xs → slice_get xs (length xs - 2) ≡ Some t → t ≡ first_or Null (drop 1 (reverse xs))
second_there xs t h e = sym (get_or_from_slice_get xs (length xs - 2) t t e) ∙ second_last xs t h

pub second_not_there : (xs : List FlowType) → 2 ≤ length xs → slice_get xs (length xs - 2) ≡ None → Null ≡ first_or Null (drop 1 (reverse xs))
second_not_there xs h e = absurd (get_there xs (length xs - 2) (omega arith) e)

pub reverse_twice : (xs : List FlowType) → reverse (reverse xs) ≡ xs
reverse_twice xs = reverse-reverse xs

pub length_reverse : (xs : List FlowType) → length (reverse xs) ≡ length xs
length_reverse xs = length-reverse xs

-- ---- longs, which take one slot more

slots_one : (t : FlowType) (ts : List FlowType) → slots (t ∷ ts) ≡ 1 + longs (t ∷ []) + slots ts
slots_one Unusable ts = omega arith
slots_one Int ts = omega arith
slots_one Long ts = omega arith
slots_one High ts = omega arith
slots_one Null ts = omega arith
slots_one (Class c) ts = omega arith
slots_one (Array d e) ts = omega arith
slots_one (Fresh a) ts = omega arith
slots_one FreshThis ts = omega arith

pub slots_longs : (xs : List FlowType) → slots xs ≡ length xs + longs xs
slots_longs [] = refl
slots_longs (x ∷ xs) = omega (arith, slots_one x xs, slots_longs xs)

-- a long takes a slot more, and nothing else does
more-slots : (t : FlowType) → more_slots t ≡ (if is_long t then 1 else 0)
more-slots Unusable = refl
more-slots Int = refl
more-slots Long = refl
more-slots High = refl
more-slots Null = refl
more-slots (Class c) = refl
more-slots (Array d e) = refl
more-slots (Fresh a) = refl
more-slots FreshThis = refl

pub short_slots : (t : FlowType) → is_long t ≡ false → more_slots t ≡ 0
short_slots t h = more-slots t ∙ rw h refl

pub long_one : (t : FlowType) → is_long t ≡ true → longs (t ∷ []) ≡ 1
long_one t h = rw (more-slots t, h) refl

pub short_one : (t : FlowType) → is_long t ≡ false → longs (t ∷ []) ≡ 0
short_one t h = rw (short_slots t h) refl
