-- Numbers in decimal, and how they are told from what stands behind them.
use Rattle.std.proofs.Common.{◌≡◌, ◌≤◌, ◌<◌, ◌+◌, ◌*◌, ◌-◌, ◌^◌, ◌==◌, ◌&&◌, ◌||◌, not, nat_lt, nat_le, ℕ, zero, suc, Bool, true, false, List, [], ◌∷◌, ◌++◌, length, take, drop, get_or, decimal, Some, ap, sym, ◌∙◌, refl, arith, rules, append_assoc, add-one}
use Rattle.std.specs.List.{position, position_or_len, fold, AllByRecursion}
use Rattle.std.specs.Int.{IsInRange}
use Rattle.std.proofs.Math.Seq.{split_at, take-append_seam, drop-append-add}
use Rattle.std.proofs.lemmas.Bool.{and_parts, ltb-true, leb-true, ne_eqb, eqb-true, eq-eqb, lt-ltb}
use Rattle.std.proofs.lemmas.List.{length-append, length-take}
use Rattle.std.proofs.lemmas.List.Quantifiers.{position-Some}
use Rattle.std.proofs.lemmas.Str.Parse.{IsNumeralModel, numerals_by_fold, IsDigitsTest, digits_value_short, digit_at}
use Rattle.std.proofs.lemmas.Fmt.{decimal-digits_value, digits_decimal, digits_value-decimal, decimal_digit, decimal_nonempty, first_decimal, length-decimal-le, decimal_injective}
use Rattle.order_text.specs.Spelling.{field}
use Rattle.order_text.specs.Reading.Fronts.{value_of, are_digits, is_numeral}

tells : IsDigitsTest (λ ds. are_digits ds ≡ true)
tells = search rules

-- what is read here as digits, and their number
pub own : IsNumeralModel (λ ds. are_digits ds ≡ true) value_of
own = numerals_by_fold _ tells (λ n ds. fold (λ m d. m * 10 + (d - 48)) n ds) (search rules)

-- a front of digits
pub front_digits : (i : ℕ) (ds : List ℕ) → are_digits ds ≡ true → are_digits (take i ds) ≡ true
front_digits zero ds h = refl
front_digits (suc i) [] h = refl
front_digits (suc i) (d ∷ ds) h =
    let p = tells.parts d ds h in
    tells.more d (take i ds) p.0 (front_digits i ds p.1)

-- up to nine digits are a number of nine digits, and each digit is one
pub record Small (ds : List ℕ) (i : ℕ) : Type 0 where
  pub value : value_of (take i ds) < 10 ^ 9
  pub digit : IsInRange 48 57 (get_or ds i 0)

pub small : (ds : List ℕ) (i : ℕ) → length ds ≤ 10 → are_digits ds ≡ true → i < length ds → Small ds i
small ds i few h within = record {
  value = digits_value_short own (take i ds) 9 (front_digits i ds h) (omega (arith, length-take i ds));
  digit = digit_at ds i (own.to ds h) within;
}

-- what a numeral is
record Numeral (bs : List ℕ) : Type 0 where
  some : 0 < length bs
  few : length bs ≤ 10
  lead : (length bs == 1 || not (get_or bs 0 0 == 48)) ≡ true
  digits : are_digits bs ≡ true

numeral : (bs : List ℕ) → is_numeral bs ≡ true → Numeral bs
numeral bs h =
    let some = nat_lt 0 (length bs) in
    let few = nat_le (length bs) 10 in
    let lead = length bs == 1 || not (get_or bs 0 0 == 48) in
    let p = and_parts (some && few && lead) (are_digits bs) h in
    let q = and_parts (some && few) lead p.0 in
    let r = and_parts some few q.0 in
    record { some = ltb-true 0 (length bs) r.0; few = leb-true (length bs) 10 r.1; lead = q.1; digits = p.1 }

-- a zero in front stands alone
lead_alone : (b : Bool) (n x : ℕ) → (n == 1 || not (x == 48)) ≡ true → x ≡ 48 → n ≡ 1
lead_alone b n x h e = search (arith, h, e)

-- a numeral is its number in decimal
pub numeral_is_decimal : (bs : List ℕ) → is_numeral bs ≡ true → bs ≡ decimal (value_of bs)
numeral_is_decimal bs h =
    let is = numeral bs h in
    let below = digits_value_short own bs 10 is.digits is.few in
    sym (decimal-digits_value own bs is.digits is.some (lead_alone true (length bs) (get_or bs 0 0) is.lead) (omega (arith, below)))

-- a number in decimal is a numeral
pub decimal_is_numeral : (n : ℕ) → n < 2 ^ 32 → is_numeral (decimal n) ≡ true
decimal_is_numeral zero below = rw (decimal_digit 0 (omega arith)) refl
decimal_is_numeral (suc n) below =
    let some = decimal_nonempty (suc n) (omega (arith, below)) in
    let few = length-decimal-le 10 (suc n) (omega arith) (omega (arith, below)) (omega (arith, below)) in
    let first = first_decimal (suc n) (omega arith) (omega (arith, below)) in
    let digits = digits_decimal own (suc n) (omega (arith, below)) in
    search (arith, some, few, first, digits)

-- its number
pub decimal_value : (n : ℕ) → n < 2 ^ 32 → value_of (decimal n) ≡ n
decimal_value n below = digits_value-decimal own n (omega (arith, below))

-- ---- the byte behind a number

-- the byte is none of these
abbrev pub NoneIs : ℕ → List ℕ → Type 0
NoneIs b xs = AllByRecursion (λ x. (x == b) ≡ false) xs

-- digits are other bytes
digits_are_none : (b : ℕ) (ds : List ℕ) → b < 48 → are_digits ds ≡ true → NoneIs b ds
digits_are_none b [] low h = tt
digits_are_none b (d ∷ ds) low h =
    let p = tells.parts d ds h in
    (ne_eqb d b (λ e. omega (arith, p.0, e, low)), digits_are_none b ds low p.1)

pub decimal_has_none : (b n : ℕ) → b < 48 → n < 2 ^ 32 → NoneIs b (decimal n)
decimal_has_none b n low below = digits_are_none b (decimal n) low (digits_decimal own n (omega (arith, below)))

-- the first place of a byte behind others
first_place : (b : ℕ) (ds rest : List ℕ) → NoneIs b ds → position_or_len (λ x. x == b) (ds ++ b ∷ rest) ≡ length ds
first_place b [] rest none = rw (eq-eqb b b refl) refl
first_place b (d ∷ ds) rest none = rw (none.0, first_place b ds rest none.1) (omega arith)

-- where a field ends, and what it leaves
pub record Cut (n behind : ℕ) (bytes rest : List ℕ) : Type 0 where
  pub place : position (λ x. x == behind) bytes ≡ Some (length (decimal n))
  pub front : take (length (decimal n)) bytes ≡ decimal n
  pub back : drop (length (decimal n) + 1) bytes ≡ rest

field_parts : (n behind : ℕ) (rest : List ℕ) → field n behind ++ rest ≡ decimal n ++ behind ∷ rest
field_parts n behind rest = append_assoc (decimal n) (behind ∷ []) rest

cut_parts : (n behind : ℕ) (rest : List ℕ) → n < 2 ^ 32 → behind < 48 → Cut n behind (decimal n ++ behind ∷ rest) rest
cut_parts n behind rest below low =
    let at = first_place behind (decimal n) rest (decimal_has_none behind n low below) in
    let within : length (decimal n) < length (decimal n ++ behind ∷ rest) = omega (arith, length-append (decimal n) (behind ∷ rest)) in
    record {
      place = rw (at, lt-ltb (length (decimal n)) (length (decimal n ++ behind ∷ rest)) within) refl;
      front = take-append_seam (decimal n) (behind ∷ rest);
      back = drop-append-add (decimal n) (behind ∷ rest) 1;
    }

pub cut : (n behind : ℕ) (bytes rest : List ℕ) → n < 2 ^ 32 → behind < 48 → bytes ≡ field n behind ++ rest → Cut n behind bytes rest
cut n behind bytes rest below low e = rw (e, field_parts n behind rest) (cut_parts n behind rest below low)

-- up to the first such byte, that byte, and what follows it
pub field_before : (n behind i : ℕ) (bytes : List ℕ) → position (λ x. x == behind) bytes ≡ Some i → take i bytes ≡ decimal n → bytes ≡ field n behind ++ drop (i + 1) bytes
field_before n behind i bytes place front =
    let p = position-Some (λ x. x == behind) bytes i 0 place in
    let is = eqb-true (get_or bytes i 0) behind p.1 in
    split_at bytes i 0 p.0 ∙ rw (front, is, add-one) (sym (field_parts n behind (drop (suc i) bytes)))

-- one value in one option
some_is : (i j : ℕ) → Some i ≡ Some j → i ≡ j
some_is i j e = cc

-- two fields that are one
pub field_splits : (m n behind : ℕ) (x y : List ℕ) → m < 2 ^ 32 → n < 2 ^ 32 → behind < 48 → field m behind ++ x ≡ field n behind ++ y → (m ≡ n) × (x ≡ y)
field_splits m n behind x y a b low e =
    let p = cut m behind (field m behind ++ x) x a low refl in
    let q = cut n behind (field m behind ++ x) y b low e in
    let len = some_is (length (decimal m)) (length (decimal n)) (sym p.place ∙ q.place) in
    let same : decimal m ≡ decimal n = sym p.front ∙ ap (λ k. take k (field m behind ++ x)) len ∙ q.front in (
      decimal_injective m n (omega (arith, a)) (omega (arith, b)) same,
      sym p.back ∙ ap (λ k. drop (k + 1) (field m behind ++ x)) len ∙ q.back,
    )
