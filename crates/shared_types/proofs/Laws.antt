-- Laws of lists of types in two parts.
use Rattle.std.proofs.Common.{true, false, ◌≡◌, ◌∙◌, ap, sym, refl, arith, zero, suc, ℕ, ◌+◌, ◌-◌, ◌<◌, ◌≤◌, Bool, ◌&&◌, ◌==◌, eqb→eq, List, [], ◌∷◌, ◌++◌, length, take, slice_get, slice_set, Option, Some, None, inl, inr}
use Rattle.std.proofs.Math.ListN.{replicate}
use Rattle.std.proofs.lemmas.Bool.{cases_Bool, and_parts}
use Rattle.std.proofs.lemmas.Float.{T_from_true}
use Rattle.std.proofs.lemmas.List.{length-take, length-replicate}
use Rattle.flow_types.specs.Tree.{IsTree}
use Rattle.flow_types.specs.Types.{joined, type_fits}
use Rattle.flow_types.proofs.TypeLaws.{top, type-antisym}
use Rattle.flow_types.specs.TypeLists.{types_fit, types_joined, is_operand}
use Rattle.flow_types.specs.declared.flow_type.FlowType.{FlowType}
use Rattle.flow_types.specs.declared.flow_type.FlowType.TheVariants.{Unusable, Int, Long, High, Null, Class, Array, Fresh, FreshThis}
use Rattle.shared_types.specs.Blocks.{is_unusable, used_from, fits_if_there}
use Rattle.shared_types.specs.Trees.{all_unusable, all_operands, longs, more_slots, AreReplaced}

pub get_right : (xs ys : List FlowType) (i : ℕ) → length xs ≤ i → slice_get (xs ++ ys) i ≡ slice_get ys (i - length xs)
get_right [] ys i h = let e : i - 0 ≡ i = omega arith in rw e refl
get_right (x ∷ xs) ys zero h = absurd (omega arith)
get_right (x ∷ xs) ys (suc i) h = let e : suc i - length (x ∷ xs) ≡ i - length xs = omega arith in rw e (get_right xs ys i (omega arith))

pub get_left : (xs ys : List FlowType) (i : ℕ) → i < length xs → slice_get (xs ++ ys) i ≡ slice_get xs i
get_left [] ys i h = absurd (omega arith)
get_left (x ∷ xs) ys zero h = refl
get_left (x ∷ xs) ys (suc i) h = get_left xs ys i (omega arith)

pub set_left : (xs ys : List FlowType) (i : ℕ) (t : FlowType) → i < length xs → slice_set (xs ++ ys) i t ≡ slice_set xs i t ++ ys
set_left [] ys i t h = absurd (omega arith)
set_left (x ∷ xs) ys zero t h = refl
set_left (x ∷ xs) ys (suc i) t h = ap (λ zs. x ∷ zs) (set_left xs ys i t (omega arith))

pub set_right : (xs ys : List FlowType) (i : ℕ) (t : FlowType) → length xs ≤ i → slice_set (xs ++ ys) i t ≡ xs ++ slice_set ys (i - length xs) t
set_right [] ys i t h = let e : i - 0 ≡ i = omega arith in rw e refl
set_right (x ∷ xs) ys zero t h = absurd (omega arith)
set_right (x ∷ xs) ys (suc i) t h = let e : suc i - length (x ∷ xs) ≡ i - length xs = omega arith in rw e (ap (λ zs. x ∷ zs) (set_right xs ys i t (omega arith)))

pub replicate_sum : (m n : ℕ) (t : FlowType) → replicate m t ++ replicate n t ≡ replicate (m + n) t
replicate_sum zero n t = let e : 0 + n ≡ n = omega arith in rw e refl
replicate_sum (suc m) n t = let e : suc m + n ≡ suc (m + n) = omega arith in rw e (ap (λ zs. t ∷ zs) (replicate_sum m n t))

pub take_parts : (n : ℕ) (xs ys : List FlowType) → take n (xs ++ ys) ≡ take n xs ++ take (n - length xs) ys
take_parts zero [] ys = refl
take_parts zero (x ∷ xs) ys = let e : 0 - length (x ∷ xs) ≡ 0 = omega arith in rw e refl
take_parts (suc n) [] ys = let e : suc n - 0 ≡ suc n = omega arith in rw e refl
take_parts (suc n) (x ∷ xs) ys = let e : suc n - length (x ∷ xs) ≡ n - length xs = omega arith in rw e (ap (λ zs. x ∷ zs) (take_parts n xs ys))

-- ---- order

pub fit_parts : (supers : List (Option ℕ)) (ws xs ys zs : List FlowType) → length ws ≡ length ys → types_fit supers (ws ++ xs) (ys ++ zs) ≡ (types_fit supers ws ys && types_fit supers xs zs)
fit_parts supers [] xs [] zs h = refl
fit_parts supers [] xs (y ∷ ys) zs h = absurd (omega arith)
fit_parts supers (w ∷ ws) xs [] zs h = absurd (omega arith)
fit_parts supers (w ∷ ws) xs (y ∷ ys) zs h =
    let e : types_fit supers (ws ++ xs) (ys ++ zs) ≡ (types_fit supers ws ys && types_fit supers xs zs) = fit_parts supers ws xs ys zs (omega arith) in
    elim (cases_Bool (type_fits supers w y)) [ inl q ↦ rw (q, e) refl | inr q ↦ rw q refl ]

-- all types fit Unusable
pub fit_top : (supers : List (Option ℕ)) (xs : List FlowType) → types_fit supers xs (replicate (length xs) Unusable) ≡ true
fit_top supers [] = refl
fit_top supers (x ∷ xs) = rw (top supers x) (fit_top supers xs)

unusable_fits_is : (supers : List (Option ℕ)) (t : FlowType) → type_fits supers Unusable t ≡ is_unusable t
unusable_fits_is supers Unusable = refl
unusable_fits_is supers Int = refl
unusable_fits_is supers Long = refl
unusable_fits_is supers High = refl
unusable_fits_is supers Null = refl
unusable_fits_is supers (Class c) = refl
unusable_fits_is supers (Array d e) = refl
unusable_fits_is supers (Fresh a) = refl
unusable_fits_is supers FreshThis = refl

-- Unusable fits itself alone
pub top_fits : (supers : List (Option ℕ)) (xs : List FlowType) → types_fit supers (replicate (length xs) Unusable) xs ≡ all_unusable xs
top_fits supers [] = refl
top_fits supers (x ∷ xs) = rw (unusable_fits_is supers x, top_fits supers xs) refl

pub unusable_parts : (xs ys : List FlowType) → all_unusable (xs ++ ys) ≡ (all_unusable xs && all_unusable ys)
unusable_parts [] ys = refl
unusable_parts (x ∷ xs) ys =
    let e : all_unusable (xs ++ ys) ≡ (all_unusable xs && all_unusable ys) = unusable_parts xs ys in
    elim (cases_Bool (is_unusable x)) [ inl q ↦ rw (q, e) refl | inr q ↦ rw q refl ]

pub operands_parts : (xs ys : List FlowType) → all_operands (xs ++ ys) ≡ (all_operands xs && all_operands ys)
operands_parts [] ys = refl
operands_parts (x ∷ xs) ys =
    let e : all_operands (xs ++ ys) ≡ (all_operands xs && all_operands ys) = operands_parts xs ys in
    elim (cases_Bool (is_operand x)) [ inl q ↦ rw (q, e) refl | inr q ↦ rw q refl ]

pub longs_parts : (xs ys : List FlowType) → longs (xs ++ ys) ≡ longs xs + longs ys
longs_parts [] ys = let e : 0 + longs ys ≡ longs ys = omega arith in rw e refl
longs_parts (x ∷ xs) ys = let e : longs (xs ++ ys) ≡ longs xs + longs ys = longs_parts xs ys in omega arith

pub all_are_unusable : (n : ℕ) → all_unusable (replicate n Unusable) ≡ true
all_are_unusable zero = refl
all_are_unusable (suc n) = all_are_unusable n

-- ---- what lies above

pub joined_parts : (supers : List (Option ℕ)) (ws xs ys zs : List FlowType) → length ws ≡ length ys → types_joined supers (ws ++ xs) (ys ++ zs) ≡ types_joined supers ws ys ++ types_joined supers xs zs
joined_parts supers [] xs [] zs h = refl
joined_parts supers [] xs (y ∷ ys) zs h = absurd (omega arith)
joined_parts supers (w ∷ ws) xs [] zs h = absurd (omega arith)
joined_parts supers (w ∷ ws) xs (y ∷ ys) zs h = ap (λ ts. joined supers w y ∷ ts) (joined_parts supers ws xs ys zs (omega arith))

joined_top : (supers : List (Option ℕ)) (t : FlowType) → joined supers t Unusable ≡ Unusable
joined_top supers t = rw (top supers t) refl

top_joined_one : (supers : List (Option ℕ)) (t : FlowType) → joined supers Unusable t ≡ Unusable
top_joined_one supers Unusable = refl
top_joined_one supers Int = refl
top_joined_one supers Long = refl
top_joined_one supers High = refl
top_joined_one supers Null = refl
top_joined_one supers (Class c) = refl
top_joined_one supers (Array d e) = refl
top_joined_one supers (Fresh a) = refl
top_joined_one supers FreshThis = refl

-- Unusable lies above everything
pub top_joined : (supers : List (Option ℕ)) (xs : List FlowType) → types_joined supers (replicate (length xs) Unusable) xs ≡ replicate (length xs) Unusable
top_joined supers [] = refl
top_joined supers (x ∷ xs) = rw (top_joined_one supers x, top_joined supers xs) refl

pub joined_with_top : (supers : List (Option ℕ)) (xs : List FlowType) → types_joined supers xs (replicate (length xs) Unusable) ≡ replicate (length xs) Unusable
joined_with_top supers [] = refl
joined_with_top supers (x ∷ xs) = rw (joined_top supers x, joined_with_top supers xs) refl

-- ---- the first n of two lists of which each has two parts

-- the first of two parts, whole or in part, and what is left of the second
pub fit_first_parts : (supers : List (Option ℕ)) (n : ℕ) (ws xs ys zs : List FlowType) → length ws ≡ length ys → types_fit supers (take n (ws ++ xs)) (take n (ys ++ zs)) ≡ (types_fit supers (take n ws) (take n ys) && types_fit supers (take (n - length ws) xs) (take (n - length ws) zs))
fit_first_parts supers n ws xs ys zs h =
    rw (take_parts n ws xs, take_parts n ys zs, h) (fit_parts supers (take n ws) (take (n - length ys) xs) (take n ys) (take (n - length ys) zs) (omega (arith, length-take n ws, length-take n ys)))

pub unusable_first_parts : (n : ℕ) (xs ys : List FlowType) → all_unusable (take n (xs ++ ys)) ≡ (all_unusable (take n xs) && all_unusable (take (n - length xs) ys))
unusable_first_parts n xs ys = rw (take_parts n xs ys) (unusable_parts (take n xs) (take (n - length xs) ys))

pub operands_first_parts : (n : ℕ) (xs ys : List FlowType) → all_operands (take n (xs ++ ys)) ≡ (all_operands (take n xs) && all_operands (take (n - length xs) ys))
operands_first_parts n xs ys = rw (take_parts n xs ys) (operands_parts (take n xs) (take (n - length xs) ys))

pub longs_first_parts : (n : ℕ) (xs ys : List FlowType) → longs (take n (xs ++ ys)) ≡ longs (take n xs) + longs (take (n - length xs) ys)
longs_first_parts n xs ys = rw (take_parts n xs ys) (longs_parts (take n xs) (take (n - length xs) ys))

-- of Unusable alone
pub first_unusable : (n m : ℕ) → all_unusable (take n (replicate m Unusable)) ≡ true
first_unusable zero m = refl
first_unusable (suc n) zero = refl
first_unusable (suc n) (suc m) = first_unusable n m

pub fit_first_top : (supers : List (Option ℕ)) (n m : ℕ) (xs : List FlowType) → length xs ≡ m → types_fit supers (take n xs) (take n (replicate m Unusable)) ≡ true
fit_first_top supers zero m xs h = refl
fit_first_top supers (suc n) zero [] h = refl
fit_first_top supers (suc n) zero (x ∷ xs) h = absurd (omega arith)
fit_first_top supers (suc n) (suc m) [] h = absurd (omega arith)
fit_first_top supers (suc n) (suc m) (x ∷ xs) h = rw (top supers x) (fit_first_top supers n m xs (omega arith))

pub top_fits_first : (supers : List (Option ℕ)) (n m : ℕ) (xs : List FlowType) → m ≡ length xs → types_fit supers (take n (replicate m Unusable)) (take n xs) ≡ all_unusable (take n xs)
top_fits_first supers zero m xs h = refl
top_fits_first supers (suc n) zero [] h = refl
top_fits_first supers (suc n) zero (x ∷ xs) h = absurd (omega arith)
top_fits_first supers (suc n) (suc m) [] h = absurd (omega arith)
top_fits_first supers (suc n) (suc m) (x ∷ xs) h = rw (unusable_fits_is supers x, top_fits_first supers n m xs (omega arith)) refl

pub length_top : (n : ℕ) → length (replicate n Unusable) ≡ n
length_top n = length-replicate n Unusable

-- what a pair is known to have in front
pub counted : (a b : ℕ) (r : Bool) → (a == b && r) ≡ true → a ≡ b
counted a b r h = let (e, f) = and_parts (a == b) r h in eqb→eq a b (T_from_true (a == b) e)

-- ---- an operand for each place

pub joined_first_length : (supers : List (Option ℕ)) (xs ys : List FlowType) → length xs ≡ length ys → length (types_joined supers xs ys) ≡ length xs
joined_first_length supers [] ys h = refl
joined_first_length supers (x ∷ xs) [] h = absurd (omega arith)
joined_first_length supers (x ∷ xs) (y ∷ ys) h = ap suc (joined_first_length supers xs ys (omega arith))

pub none_first : (n m : ℕ) → n ≡ 0 → all_operands (take n (replicate m Unusable)) ≡ true
none_first zero m h = refl
none_first (suc n) m h = absurd (omega arith)

pub none_there : (n m : ℕ) → m ≡ 0 → all_operands (take n (replicate m Unusable)) ≡ true
none_there zero m h = refl
none_there (suc n) zero h = refl
none_there (suc n) (suc m) h = absurd (omega arith)

pub no_operand : (n m : ℕ) → (n ≡ 0 → ⊥) → (m ≡ 0 → ⊥) → all_operands (take n (replicate m Unusable)) ≡ false
no_operand zero m h k = absurd (h refl)
no_operand (suc n) zero h k = absurd (k refl)
no_operand (suc n) (suc m) h k = refl

pub first_longs : (n m : ℕ) → longs (take n (replicate m Unusable)) ≡ 0
first_longs zero m = refl
first_longs (suc n) zero = refl
first_longs (suc n) (suc m) = let e : longs (take n (replicate m Unusable)) ≡ 0 = first_longs n m in rw e refl

one_long : (t : FlowType) → longs (t ∷ []) ≤ 1
one_long Long = omega arith
one_long Unusable = omega arith
one_long Int = omega arith
one_long High = omega arith
one_long Null = omega arith
one_long (Class c) = omega arith
one_long (Array d e) = omega arith
one_long (Fresh a) = omega arith
one_long FreshThis = omega arith

pub few_longs : (n : ℕ) (xs : List FlowType) → longs (take n xs) ≤ n
few_longs zero xs = omega arith
few_longs (suc n) [] = omega arith
few_longs (suc n) (x ∷ xs) = omega (arith, longs_parts (x ∷ []) (take n xs), one_long x, few_longs n xs)

pub few_in : (n : ℕ) (xs : List FlowType) → longs (take n xs) ≤ length xs
few_in zero xs = omega arith
few_in (suc n) [] = omega arith
few_in (suc n) (x ∷ xs) = omega (arith, longs_parts (x ∷ []) (take n xs), one_long x, few_in n xs)

pub parts_above : (supers : List (Option ℕ)) (ws xs ys zs us vs : List FlowType) → length ws ≡ length ys → types_joined supers ws ys ≡ us → types_joined supers xs zs ≡ vs → types_joined supers (ws ++ xs) (ys ++ zs) ≡ us ++ vs
parts_above supers ws xs ys zs us vs h e f = joined_parts supers ws xs ys zs h ∙ rw (e, f) refl

pub top_joined_all : (supers : List (Option ℕ)) (n : ℕ) (xs : List FlowType) → n ≡ length xs → types_joined supers (replicate n Unusable) xs ≡ replicate n Unusable
top_joined_all supers n xs h = rw h (top_joined supers xs)

pub joined_top_all : (supers : List (Option ℕ)) (n : ℕ) (xs : List FlowType) → length xs ≡ n → types_joined supers xs (replicate n Unusable) ≡ replicate n Unusable
joined_top_all supers n xs h = rw (sym h) (joined_with_top supers xs)

take_all : (n : ℕ) (xs : List FlowType) → length xs ≤ n → take n xs ≡ xs
take_all zero [] h = refl
take_all zero (x ∷ xs) h = absurd (omega arith)
take_all (suc n) [] h = refl
take_all (suc n) (x ∷ xs) h = ap (λ zs. x ∷ zs) (take_all n xs (omega arith))

pub longs_past : (n count : ℕ) (xs ys : List FlowType) → count ≡ length xs → count ≤ n → longs (take n (xs ++ ys)) ≡ longs (take count xs) + longs (take (n - count) ys)
longs_past n count xs ys h l = longs_first_parts n xs ys ∙ rw (take_all n xs (omega arith), take_all count xs (omega arith), h) refl

-- ---- one type for another

pub replaced_length : (was now : FlowType) (ts us : List FlowType) → AreReplaced was now ts us → length us ≡ length ts
replaced_length was now [] [] h = refl
replaced_length was now [] (u ∷ us) h = absurd h
replaced_length was now (t ∷ ts) [] h = absurd h
replaced_length was now (t ∷ ts) (u ∷ us) h = ap suc (replaced_length was now ts us h.1)

pub replaced_parts : (was now : FlowType) (ts us vs ws : List FlowType) → AreReplaced was now ts us → AreReplaced was now vs ws → AreReplaced was now (ts ++ vs) (us ++ ws)
replaced_parts was now [] [] vs ws h k = k
replaced_parts was now [] (u ∷ us) vs ws h k = absurd h
replaced_parts was now (t ∷ ts) [] vs ws h k = absurd h
replaced_parts was now (t ∷ ts) (u ∷ us) vs ws h k = (h.0, replaced_parts was now ts us vs ws h.1 k)

pub none_replaced : (was now : FlowType) (n : ℕ) → (was ≡ Unusable → ⊥) → AreReplaced was now (replicate n Unusable) (replicate n Unusable)
none_replaced was now zero h = tt
none_replaced was now (suc n) h = (inr ((λ e. h (sym e)), refl), none_replaced was now n h)

-- ---- the first types of a list

pub get_first : (n i : ℕ) (xs : List FlowType) → i < n → slice_get (take n xs) i ≡ slice_get xs i
get_first zero i xs h = absurd (omega arith)
get_first (suc n) i [] h = refl
get_first (suc n) zero (x ∷ xs) h = refl
get_first (suc n) (suc i) (x ∷ xs) h = get_first n i xs (omega arith)

pub get_past : (n i : ℕ) (xs : List FlowType) → n ≤ i → slice_get (take n xs) i ≡ None
get_past zero i xs h = refl
get_past (suc n) i [] h = refl
get_past (suc n) zero (x ∷ xs) h = absurd (omega arith)
get_past (suc n) (suc i) (x ∷ xs) h = get_past n i xs (omega arith)

pub length_first : (n : ℕ) (xs : List FlowType) → n ≤ length xs → length (take n xs) ≡ n
length_first zero xs h = refl
length_first (suc n) [] h = absurd (omega arith)
length_first (suc n) (x ∷ xs) h = ap suc (length_first n xs (omega arith))

pub set_first : (n i : ℕ) (t : FlowType) (xs : List FlowType) → i < n → take n (slice_set xs i t) ≡ slice_set (take n xs) i t
set_first zero i t xs h = absurd (omega arith)
set_first (suc n) i t [] h = refl
set_first (suc n) zero t (x ∷ xs) h = refl
set_first (suc n) (suc i) t (x ∷ xs) h = ap (λ zs. x ∷ zs) (set_first n i t xs (omega arith))

pub set_next : (n : ℕ) (t : FlowType) (xs : List FlowType) → n < length xs → take (n + 1) (slice_set xs n t) ≡ take n xs ++ t ∷ []
set_next zero t [] h = absurd (omega arith)
set_next zero t (x ∷ xs) h = refl
set_next (suc n) t [] h = absurd (omega arith)
set_next (suc n) t (x ∷ xs) h = let e : suc n + 1 ≡ suc (n + 1) = omega arith in rw e (ap (λ zs. x ∷ zs) (set_next n t xs (omega arith)))

last_off : (n : ℕ) (t : FlowType) (xs : List FlowType) → slice_get xs n ≡ Some t → take (suc n) xs ≡ take n xs ++ t ∷ []
last_off zero t [] h = absurd cc
last_off zero t (x ∷ xs) h = let e : x ≡ t = cc in rw e refl
last_off (suc n) t [] h = absurd cc
last_off (suc n) t (x ∷ xs) h = ap (λ zs. x ∷ zs) (last_off n t xs h)

pub set_length : (xs : List FlowType) (i : ℕ) (t : FlowType) → length (slice_set xs i t) ≡ length xs
set_length [] i t = refl
set_length (x ∷ xs) zero t = refl
set_length (x ∷ xs) (suc i) t = ap suc (set_length xs i t)

pub joined_first : (supers : List (Option ℕ)) (n : ℕ) (xs ys : List FlowType) → take n (types_joined supers xs ys) ≡ types_joined supers (take n xs) (take n ys)
joined_first supers zero xs ys = refl
joined_first supers (suc n) [] ys = refl
joined_first supers (suc n) (x ∷ xs) [] = refl
joined_first supers (suc n) (x ∷ xs) (y ∷ ys) = ap (λ zs. joined supers x y ∷ zs) (joined_first supers n xs ys)

pub replaced_first : (was now : FlowType) (n : ℕ) (ts us : List FlowType) → AreReplaced was now ts us → AreReplaced was now (take n ts) (take n us)
replaced_first was now zero ts us h = tt
replaced_first was now (suc n) [] [] h = tt
replaced_first was now (suc n) [] (u ∷ us) h = absurd h
replaced_first was now (suc n) (t ∷ ts) [] h = absurd h
replaced_first was now (suc n) (t ∷ ts) (u ∷ us) h = (h.0, replaced_first was now n ts us h.1)

pub joined_wide : (supers : List (Option ℕ)) (xs ys : List FlowType) → length xs ≡ length ys → length xs ≡ length (types_joined supers xs ys)
joined_wide supers xs ys h = sym (joined_first_length supers xs ys h)

pub add_room : (n : ℕ) (xs ys : List FlowType) → n ≤ length xs → take n (xs ++ ys) ≡ take n xs
add_room zero xs ys h = refl
add_room (suc n) [] ys h = absurd (omega arith)
add_room (suc n) (x ∷ xs) ys h = ap (λ zs. x ∷ zs) (add_room n xs ys (omega arith))

pub first_of_top : (n : ℕ) → take n (replicate n Unusable) ≡ replicate n Unusable
first_of_top zero = refl
first_of_top (suc n) = ap (λ zs. Unusable ∷ zs) (first_of_top n)

pub get_there : (xs : List FlowType) (i : ℕ) → i < length xs → slice_get xs i ≡ None → ⊥
get_there [] i h e = absurd (omega arith)
get_there (x ∷ xs) zero h e = absurd cc
get_there (x ∷ xs) (suc i) h e = get_there xs i (omega arith) e

pub last_one : (n : ℕ) (t : FlowType) (xs : List FlowType) → 0 < n → slice_get xs (n - 1) ≡ Some t → take n xs ≡ take (n - 1) xs ++ t ∷ []
last_one zero t xs h e = absurd (omega arith)
last_one (suc n) t xs h e =
    let d : suc n - 1 ≡ n = omega arith in
    rw d (last_off n t xs (rw d at e))

pub few_of : (xs : List FlowType) → longs xs ≤ length xs
few_of [] = omega arith
few_of (x ∷ xs) = omega (arith, longs_parts (x ∷ []) xs, one_long x, few_of xs)

-- ---- one type among so many that are Unusable, in two halves

pub split_left : (count half at : ℕ) (t : FlowType) → at < half → half ≤ count → slice_set (replicate half Unusable) at t ++ replicate (count - half) Unusable ≡ slice_set (replicate count Unusable) at t
split_left count half at t h k =
    let e : half + (count - half) ≡ count = omega arith in
    sym (set_left (replicate half Unusable) (replicate (count - half) Unusable) at t (rw (length_top half) h))
    ∙ ap (λ ts. slice_set ts at t) (replicate_sum half (count - half) Unusable ∙ ap (λ n. replicate n Unusable) e)

pub split_right : (count half at : ℕ) (t : FlowType) → half ≤ at → half ≤ count → replicate half Unusable ++ slice_set (replicate (count - half) Unusable) (at - half) t ≡ slice_set (replicate count Unusable) at t
split_right count half at t h k =
    let e : half + (count - half) ≡ count = omega arith in
    let r : slice_set (replicate half Unusable ++ replicate (count - half) Unusable) at t ≡ replicate half Unusable ++ slice_set (replicate (count - half) Unusable) (at - length (replicate half Unusable)) t = set_right (replicate half Unusable) (replicate (count - half) Unusable) at t (rw (length_top half) h) in
    sym (rw (length_top half) at r)
    ∙ ap (λ ts. slice_set ts at t) (replicate_sum half (count - half) Unusable ∙ ap (λ n. replicate n Unusable) e)

-- ---- a list made type by type

pub one_more : (i : ℕ) (t : FlowType) (xs : List FlowType) → slice_get xs i ≡ Some t → take i xs ++ t ∷ [] ≡ take (i + 1) xs
one_more i t xs e = let s : i + 1 ≡ suc i = omega arith in rw s (sym (last_off i t xs e))

pub all_taken : (n : ℕ) (xs : List FlowType) → length xs ≤ n → take n xs ≡ xs
all_taken n xs h = take_all n xs h

-- the first i types of a list, and Unusable for the others
abbrev pub begun : ℕ → List FlowType → List FlowType
begun zero xs = replicate (length xs) Unusable
begun (suc i) [] = []
begun (suc i) (x ∷ xs) = x ∷ begun i xs

pub begun_none : (xs : List FlowType) → replicate (length xs) Unusable ≡ begun 0 xs
begun_none xs = refl

pub begun_all : (n : ℕ) (xs : List FlowType) → length xs ≤ n → begun n xs ≡ xs
begun_all zero [] h = refl
begun_all zero (x ∷ xs) h = absurd (omega arith)
begun_all (suc n) [] h = refl
begun_all (suc n) (x ∷ xs) h = ap (λ zs. x ∷ zs) (begun_all n xs (omega arith))

begun_next : (i : ℕ) (t : FlowType) (xs : List FlowType) → slice_get xs i ≡ Some t → slice_set (begun i xs) i t ≡ begun (suc i) xs
begun_next i t [] h = absurd cc
begun_next zero t (x ∷ xs) h = let e : x ≡ t = cc in rw e refl
begun_next (suc i) t (x ∷ xs) h = ap (λ zs. x ∷ zs) (begun_next i t xs h)

pub begun_more : (i : ℕ) (t : FlowType) (xs : List FlowType) → slice_get xs i ≡ Some t → slice_set (begun i xs) i t ≡ begun (i + 1) xs
begun_more i t xs h = let s : i + 1 ≡ suc i = omega arith in rw s (begun_next i t xs h)

pub begun_at : (i : ℕ) (xs : List FlowType) → i < length xs → slice_get (begun i xs) i ≡ Some Unusable
begun_at i [] h = absurd (omega arith)
begun_at zero (x ∷ xs) h = refl
begun_at (suc i) (x ∷ xs) h = begun_at i xs (omega arith)

pub begun_length : (i : ℕ) (xs : List FlowType) → length (begun i xs) ≡ length xs
begun_length zero xs = length_top (length xs)
begun_length (suc i) [] = refl
begun_length (suc i) (x ∷ xs) = ap suc (begun_length i xs)

pub set_same : (xs : List FlowType) (i : ℕ) (t : FlowType) → slice_get xs i ≡ Some t → xs ≡ slice_set xs i t
set_same [] i t h = refl
set_same (x ∷ xs) zero t h = let e : x ≡ t = cc in rw e refl
set_same (x ∷ xs) (suc i) t h = ap (λ zs. x ∷ zs) (set_same xs i t h)

-- ---- blocks

used_parts : (first : ℕ) (xs ys : List FlowType) → used_from first (xs ++ ys) ≡ used_from first xs ++ used_from (first + length xs) ys
used_parts first [] ys = let e : first + 0 ≡ first = omega arith in rw e refl
used_parts first (x ∷ xs) ys =
    let e : first + length (x ∷ xs) ≡ suc first + length xs = omega arith in
    rw e (elim (cases_Bool (is_unusable x)) [ inl q ↦ rw q (used_parts (suc first) xs ys) | inr q ↦ rw q (ap (λ ps. first ∷ ps) (used_parts (suc first) xs ys)) ])

-- the places in use of one type more
pub used_next : (i : ℕ) (t : FlowType) (xs : List FlowType) → slice_get xs i ≡ Some t → i < length xs → used_from 0 (take i xs) ++ used_from i (t ∷ []) ≡ used_from 0 (take (i + 1) xs)
used_next i t xs e h =
    let l : 0 + length (take i xs) ≡ i = omega (arith, length_first i xs (omega arith)) in
    rw (sym (one_more i t xs e)) (sym (rw l at (used_parts 0 (take i xs) (t ∷ []))))

-- the types at some places fit
abbrev pub places_fit : List (Option ℕ) → List FlowType → List FlowType → List ℕ → Bool
places_fit supers low high [] = true
places_fit supers low high (p ∷ ps) = fits_if_there supers (slice_get low p) (slice_get high p) && places_fit supers low high ps

-- a type in front of each list moves each place by one
places_moved : (supers : List (Option ℕ)) (t u : FlowType) (low high xs : List FlowType) (first : ℕ) → places_fit supers (t ∷ low) (u ∷ high) (used_from (suc first) xs) ≡ places_fit supers low high (used_from first xs)
places_moved supers t u low high [] first = refl
places_moved supers t u low high (x ∷ xs) first =
    elim (cases_Bool (is_unusable x)) [ inl q ↦ rw q (places_moved supers t u low high xs (suc first)) | inr q ↦ rw q (ap (λ b. fits_if_there supers (slice_get low first) (slice_get high first) && b) (places_moved supers t u low high xs (suc first))) ]

none_fit : (supers : List (Option ℕ)) (ps : List ℕ) → places_fit supers [] [] ps ≡ true
none_fit supers [] = refl
none_fit supers (p ∷ ps) = none_fit supers ps

unusable_is : (t : FlowType) → is_unusable t ≡ true → t ≡ Unusable
unusable_is Unusable h = refl
unusable_is Int h = absurd cc
unusable_is Long h = absurd cc
unusable_is High h = absurd cc
unusable_is Null h = absurd cc
unusable_is (Class c) h = absurd cc
unusable_is (Array d e) h = absurd cc
unusable_is (Fresh a) h = absurd cc
unusable_is FreshThis h = absurd cc

fits_if_unusable : (supers : List (Option ℕ)) (t u : FlowType) → is_unusable u ≡ true → type_fits supers t u ≡ true
fits_if_unusable supers t u h = rw (unusable_is u h) (top supers t)

-- types fit where they fit at the places of the second list that are in use
pub used_fit : (supers : List (Option ℕ)) (n : ℕ) (low high : List FlowType) → length low ≡ length high → places_fit supers (take n low) (take n high) (used_from 0 high) ≡ types_fit supers (take n low) (take n high)
used_fit supers zero low high h = none_fit supers (used_from 0 high)
used_fit supers (suc n) [] [] h = refl
used_fit supers (suc n) [] (y ∷ ys) h = absurd (omega arith)
used_fit supers (suc n) (x ∷ xs) [] h = absurd (omega arith)
used_fit supers (suc n) (x ∷ xs) (y ∷ ys) h =
    let e : places_fit supers (x ∷ take n xs) (y ∷ take n ys) (used_from 1 ys) ≡ types_fit supers (take n xs) (take n ys) = places_moved supers x y (take n xs) (take n ys) ys 0 ∙ used_fit supers n xs ys (omega arith) in
    elim (cases_Bool (is_unusable y)) [ inl q ↦ rw (q, fits_if_unusable supers x y q) e | inr q ↦ rw (q, e) refl ]

fit_joined_one : (supers : List (Option ℕ)) (x y : FlowType) → IsTree supers → type_fits supers x y ≡ true → joined supers y x ≡ y
fit_joined_one supers x y tree h =
    elim (cases_Bool (type_fits supers y x)) [ inl q ↦ rw q (type-antisym supers tree x y h q) | inr q ↦ rw (q, h) refl ]

pub fit_joined : (supers : List (Option ℕ)) (low high : List FlowType) → IsTree supers → types_fit supers low high ≡ true → types_joined supers high low ≡ high
fit_joined supers [] [] tree h = refl
fit_joined supers [] (y ∷ ys) tree h = absurd cc
fit_joined supers (x ∷ xs) [] tree h = absurd cc
fit_joined supers (x ∷ xs) (y ∷ ys) tree h =
    let (p, q) = and_parts (type_fits supers x y) (types_fit supers xs ys) h in
    rw (fit_joined supers xs ys tree q) (ap (λ z. z ∷ ys) (fit_joined_one supers x y tree p))

pub longs_next : (i : ℕ) (t : FlowType) (xs : List FlowType) → slice_get xs i ≡ Some t → longs (take (i + 1) xs) ≡ longs (take i xs) + more_slots t
longs_next i t xs e = rw (sym (one_more i t xs e)) (let f : more_slots t + 0 ≡ more_slots t = omega arith in longs_parts (take i xs) (t ∷ []) ∙ ap (λ z. longs (take i xs) + z) f)

pub replaced_next : (was now : FlowType) (i : ℕ) (t u : FlowType) (xs out : List FlowType) → slice_get xs i ≡ Some t → AreReplaced was now (t ∷ []) (u ∷ []) → AreReplaced was now (take i xs) out → AreReplaced was now (take (i + 1) xs) (out ++ u ∷ [])
replaced_next was now i t u xs out e f k =
    rw (sym (one_more i t xs e)) (replaced_parts was now (take i xs) out (t ∷ []) (u ∷ []) k f)

pub joined_next : (supers : List (Option ℕ)) (i : ℕ) (t u : FlowType) (xs ys : List FlowType) → slice_get xs i ≡ Some t → slice_get ys i ≡ Some u → types_joined supers (take (i + 1) xs) (take (i + 1) ys) ≡ types_joined supers (take i xs) (take i ys) ++ joined supers t u ∷ []
joined_next supers i t u [] ys e f = absurd cc
joined_next supers i t u (x ∷ xs) [] e f = absurd cc
joined_next supers zero t u (x ∷ xs) (y ∷ ys) e f = let d : x ≡ t = cc in let g : y ≡ u = cc in rw (d, g) refl
joined_next supers (suc i) t u (x ∷ xs) (y ∷ ys) e f =
    let d : suc i + 1 ≡ suc (i + 1) = omega arith in
    rw d (ap (λ zs. joined supers x y ∷ zs) (joined_next supers i t u xs ys e f))

pub joined_more : (supers : List (Option ℕ)) (i : ℕ) (t u : FlowType) (xs ys out : List FlowType) → slice_get xs i ≡ Some t → slice_get ys i ≡ Some u → out ≡ types_joined supers (take i xs) (take i ys) → out ++ joined supers t u ∷ [] ≡ types_joined supers (take (i + 1) xs) (take (i + 1) ys)
joined_more supers i t u xs ys out e f g = rw g (sym (joined_next supers i t u xs ys e f))

-- ---- what the places in use tell of a block

-- no place in use lies before the first type's
used_least : (first p : ℕ) (xs : List FlowType) → slice_get (used_from first xs) 0 ≡ Some p → first ≤ p
used_least first p [] e = absurd cc
used_least first p (x ∷ xs) e =
    elim (cases_Bool (is_unusable x)) [ inl q ↦ (let l : suc first ≤ p = used_least (suc first) p xs (rw q at e) in omega (arith, l)) | inr q ↦ (let d : Some first ≡ Some p = rw q at e in let g : first ≡ p = cc in omega (arith, g)) ]

pub none_used : (first n : ℕ) (xs : List FlowType) → slice_get (used_from first xs) 0 ≡ None → all_unusable (take n xs) ≡ true
none_used first zero xs e = refl
none_used first (suc n) [] e = refl
none_used first (suc n) (x ∷ xs) e =
    elim (cases_Bool (is_unusable x)) [ inl q ↦ rw q (none_used (suc first) n xs (rw q at e)) | inr q ↦ (let d : Some first ≡ None = rw q at e in absurd cc) ]

pub used_from_there : (first n p : ℕ) (xs : List FlowType) → slice_get (used_from first xs) 0 ≡ Some p → n + first ≤ p → all_unusable (take n xs) ≡ true
used_from_there first zero p xs e h = refl
used_from_there first (suc n) p [] e h = refl
used_from_there first (suc n) p (x ∷ xs) e h =
    elim (cases_Bool (is_unusable x)) [ inl q ↦ rw q (used_from_there (suc first) n p xs (rw q at e) (omega arith)) | inr q ↦ (let d : Some first ≡ Some p = rw q at e in let g : first ≡ p = cc in absurd (omega (arith, g))) ]

pub used_before : (first n p : ℕ) (xs : List FlowType) → slice_get (used_from first xs) 0 ≡ Some p → p < n + first → all_unusable (take n xs) ≡ false
used_before first zero p xs e h = let l : first ≤ p = used_least first p xs e in absurd (omega arith)
used_before first (suc n) p [] e h = absurd cc
used_before first (suc n) p (x ∷ xs) e h =
    elim (cases_Bool (is_unusable x)) [ inl q ↦ rw q (used_before (suc first) n p xs (rw q at e) (omega arith)) | inr q ↦ rw q refl ]

-- a type stands at none of these places
abbrev pub LacksAt : FlowType → List FlowType → List ℕ → Type 0
LacksAt t ts [] = Unit {0}
LacksAt t ts (p ∷ ps) = (slice_get ts p ≡ Some t → ⊥) × LacksAt t ts ps

pub lacks_next : (t : FlowType) (ts : List FlowType) (i p : ℕ) (ps : List ℕ) → slice_get ps i ≡ Some p → (slice_get ts p ≡ Some t → ⊥) → LacksAt t ts (take i ps) → LacksAt t ts (take (i + 1) ps)
lacks_next t ts i p [] e h k = absurd cc
lacks_next t ts zero p (q ∷ ps) e h k = let d : q ≡ p = cc in (rw d h, tt)
lacks_next t ts (suc i) p (q ∷ ps) e h k = let d : suc i + 1 ≡ suc (i + 1) = omega arith in rw d (k.0, lacks_next t ts i p ps e h k.1)

lacks_moved : (t x : FlowType) (ts xs : List FlowType) (first : ℕ) → LacksAt t (x ∷ ts) (used_from (suc first) xs) → LacksAt t ts (used_from first xs)
lacks_moved t x ts [] first h = tt
lacks_moved t x ts (y ∷ ys) first h =
    elim (cases_Bool (is_unusable y)) [ inl q ↦ rw q (lacks_moved t x ts ys (suc first) (rw q at h)) | inr q ↦ (let k : LacksAt t (x ∷ ts) (suc first ∷ used_from (suc (suc first)) ys) = rw q at h in rw q (k.0, lacks_moved t x ts ys (suc first) k.1)) ]

-- where a type that isn't Unusable stands at no place in use, replacing it changes nothing
pub lacks_kept : (was now : FlowType) (xs : List FlowType) → (was ≡ Unusable → ⊥) → LacksAt was xs (used_from 0 xs) → AreReplaced was now xs xs
lacks_kept was now [] h k = tt
lacks_kept was now (x ∷ xs) h k =
    elim (cases_Bool (is_unusable x)) [ inl q ↦ (inr ((λ e. h (sym e ∙ unusable_is x q)), refl), lacks_kept was now xs h (lacks_moved was x xs xs 0 (rw q at k))) | inr q ↦ (let l : LacksAt was (x ∷ xs) (0 ∷ used_from 1 xs) = rw q at k in (inr ((λ e. l.0 (ap (λ z. Some z) e)), refl), lacks_kept was now xs h (lacks_moved was x xs xs 0 l.1))) ]
