-- Where an offset leads.
use Rattle.std.proofs.Common.{◌≡◌, ℕ, ◌^◌, ◌<◌, ℤ, pos, ◌+ℤ◌, FitsSigned, w32, arith}
use Rattle.std.proofs.lemmas.Int.{ints}
use Rattle.code_table.specs.Numbers.{target}

-- a target within the code is the sum
pub target_is_sum : (at : ℕ) (offset : ℤ) → at < 2 ^ 31 → FitsSigned w32 offset → target at offset < 2 ^ 31 → pos (target at offset) ≡ pos at +ℤ offset
target_is_sum at offset below fits within = omega (arith, ints)

-- a sum within the code is the target
pub sum_is_target : (at : ℕ) (offset : ℤ) (to : ℕ) → at < 2 ^ 31 → FitsSigned w32 offset → to < 2 ^ 31 → pos to ≡ pos at +ℤ offset → target at offset ≡ to
sum_is_target at offset to below fits within same = omega (arith, ints)
