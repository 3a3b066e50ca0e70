-- A table switch that was decoded leads to one of its targets.
use Rattle.std.proofs.Common.{◌≡◌, refl, ℕ, ℤ, zero, suc, ◌+◌, ◌^◌, ◌<◌, Bool, true, false, List, [], ◌∷◌, length, drop, FitsSigned, arith}
use Rattle.std.specs.Prelude.{◌==◌, ◌||◌, if◌then◌else◌, slice_index, int_lt, unsigned_abs, ◌-ℤ◌}
use Rattle.std.specs.Int.{w32}
use Rattle.std.proofs.lemmas.Bool.Decides.{nat_tests}
use Rattle.std.proofs.Math.Facts.{sfits_to_z}
use Rattle.std.proofs.lemmas.Int.{ints}
use Rattle.std.proofs.lemmas.List.FromFn.{length-map-range_with_len}
use Rattle.class_format.specs.Meaning.{AreBytes}
use Rattle.class_format.proofs.Bytes.{AreBytes-drop}
use Rattle.code_table.specs.Numbers.{number_at, signed_at}
use Rattle.code_table.specs.Switches.{targets_from}
use Rattle.frame_ops.specs.Numbers.{distance}
use Rattle.frame_ops.specs.Operands.{table_target}
use Rattle.hierarchy.specs.Walks.{has}

-- a number of four bytes takes 32 bits
word_fits : (bytes : List ℕ) (at : ℕ) → AreBytes bytes → number_at w32 bytes at < 2 ^ 32
word_fits bytes at h =
    let g : AreBytes (drop at bytes) = AreBytes-drop at bytes h in
    let a = g 0 in let b = g 1 in let c = g 2 in let d = g 3 in
    omega arith

-- so many targets as there are offsets
count_targets : (code : List ℕ) (at place n : ℕ) → length (targets_from code at place n) ≡ n
unfolding targets_from
count_targets code at place n = length-map-range_with_len _ 0 n

-- what stands at a place of a list is in it
has_index : (xs : List ℕ) (n : ℕ) → n < length xs → has xs (slice_index xs n) ≡ true
has_index [] n l = absurd (omega arith)
has_index (x ∷ xs) zero l = let e : (x == x) ≡ true = grind (arith, nat_tests) in rw e refl
has_index (x ∷ xs) (suc n) l = or_right (x == slice_index xs n) (has xs (slice_index xs n)) (has_index xs n (omega arith))
  where
    or_right : (a b : Bool) → b ≡ true → (a || b) ≡ true
    or_right true b e = refl
    or_right false b e = e

-- a key between the ends is nearer to the low one than the high one
near : (low high key : ℤ) → FitsSigned w32 low → FitsSigned w32 high → int_lt key low ≡ false → int_lt high key ≡ false → distance key low < unsigned_abs (high -ℤ low) + 1
near low high key f g a b = omega (arith, ints)

-- where a table switch leads
pub table_leads : (code : List ℕ) → AreBytes code → (at other place : ℕ) (key : ℤ) → (let low : ℤ = signed_at w32 code (place + 4) in let high : ℤ = signed_at w32 code (place + 8) in has (other ∷ targets_from code at (place + 12) (unsigned_abs (high -ℤ low) + 1)) (table_target other low high (targets_from code at (place + 12) (unsigned_abs (high -ℤ low) + 1)) key) ≡ true)
table_leads code bytes at other place key = by_key (int_lt key low) refl (int_lt high key) refl
  where
    low : ℤ
    low = signed_at w32 code (place + 4)

    high : ℤ
    high = signed_at w32 code (place + 8)

    to : List ℕ
    to = targets_from code at (place + 12) (unsigned_abs (high -ℤ low) + 1)

    same : (other == other) ≡ true
    same = grind (arith, nat_tests)

    low_fits : FitsSigned w32 low
    low_fits = sfits_to_z (record { fits = word_fits code (place + 4) bytes })

    high_fits : FitsSigned w32 high
    high_fits = sfits_to_z (record { fits = word_fits code (place + 8) bytes })

    or_right : (a b : Bool) → b ≡ true → (a || b) ≡ true
    or_right true b e = refl
    or_right false b e = e

    by_key : (a : Bool) → int_lt key low ≡ a → (b : Bool) → int_lt high key ≡ b → has (other ∷ to) (if a || b then other else slice_index to (distance key low)) ≡ true
    by_key true p b q = rw same refl
    by_key false p true q = rw same refl
    by_key false p false q =
        let n : length to ≡ unsigned_abs (high -ℤ low) + 1 = count_targets code at (place + 12) (unsigned_abs (high -ℤ low) + 1) in
        let l : distance key low < unsigned_abs (high -ℤ low) + 1 = near low high key low_fits high_fits p q in
        or_right (other == slice_index to (distance key low)) (has to (slice_index to (distance key low))) (has_index to (distance key low) (omega arith))
