-- The bytes of one unit.
use Rattle.std.proofs.Common.{◌≡◌, ℕ, ◌+◌, ◌/◌, ◌%◌, ◌^◌, ◌<◌, true, false, nat_lt, arith}
use Rattle.std.proofs.lemmas.Bool.Decides.{nat_tests}
use Rattle.jvm_base.specs.Text.{is_one, is_two, is_three, two, three}

pub record IsTwo (a b u : ℕ) : Type 0 where
  pub first : 192 + u / 64 ≡ a
  pub second : 128 + u % 64 ≡ b
  pub small : nat_lt u 2048 ≡ true
  pub not_one : is_one u ≡ false

pub two_parts : (a b : ℕ) → is_two a b ≡ true → IsTwo a b (two a b)
two_parts a b h = record { first = grind (arith, nat_tests); second = grind (arith, nat_tests); small = grind (arith, nat_tests); not_one = grind (arith, nat_tests) }

pub record IsThree (a b c u : ℕ) : Type 0 where
  pub first : 224 + u / 4096 ≡ a
  pub second : 128 + u / 64 % 64 ≡ b
  pub third : 128 + u % 64 ≡ c
  pub large : nat_lt u 2048 ≡ false
  pub not_one : is_one u ≡ false
  pub fits : u < 2 ^ 16

pub three_parts : (a b c : ℕ) → is_three a b c ≡ true → IsThree a b c (three a b c)
three_parts a b c h = record { first = grind (arith, nat_tests); second = grind (arith, nat_tests); third = grind (arith, nat_tests); large = grind (arith, nat_tests); not_one = grind (arith, nat_tests); fits = grind (arith, nat_tests) }

pub record IsTwoAgain (u : ℕ) : Type 0 where
  pub not_one : is_one (192 + u / 64) ≡ false
  pub is_two : is_two (192 + u / 64) (128 + u % 64) ≡ true
  pub value : two (192 + u / 64) (128 + u % 64) ≡ u

pub two_again : (u : ℕ) → is_one u ≡ false → nat_lt u 2048 ≡ true → IsTwoAgain u
two_again u h k = record { not_one = grind (arith, nat_tests); is_two = grind (arith, nat_tests); value = grind (arith, nat_tests) }

pub record IsThreeAgain (u : ℕ) : Type 0 where
  pub not_one : is_one (224 + u / 4096) ≡ false
  pub not_two : is_two (224 + u / 4096) (128 + u / 64 % 64) ≡ false
  pub is_three : is_three (224 + u / 4096) (128 + u / 64 % 64) (128 + u % 64) ≡ true
  pub value : three (224 + u / 4096) (128 + u / 64 % 64) (128 + u % 64) ≡ u

pub three_again : (u : ℕ) → nat_lt u 2048 ≡ false → u < 2 ^ 16 → IsThreeAgain u
three_again u k lt = record { not_one = grind (arith, nat_tests); not_two = grind (arith, nat_tests); is_three = grind (arith, nat_tests); value = grind (arith, nat_tests) }
