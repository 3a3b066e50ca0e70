-- Faults have a cause that the caller's object counted.
use Rattle.std.specs.Prelude.{ℕ, ◌+◌, ◌-◌, ◌^◌, ◌≤◌, min, Result, OnErr}

-- the last value of a u64
abbrev pub last_count : ℕ
last_count = 2 ^ 64 - 1

-- the number after this one; a count stays at its last value
abbrev pub next_count : ℕ → ℕ
next_count n = min (n + 1) last_count

-- the count rose, or stands at its last value
abbrev pub Rose : ℕ → ℕ → Type 0
Rose before now = next_count before ≤ now

-- the count did not fall, and rose where the result is an error
pub record HasCause {T E : Type 0} (before now : ℕ) (result : Result T E) : Type 0 where
  pub later : before ≤ now
  pub failed : OnErr result (Rose before now)
