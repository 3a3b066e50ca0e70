-- Ranges of places that the same handlers cover.
use Rattle.std.specs.Prelude.{◌≡◌, ℕ, zero, suc, ◌+◌, ◌<◌, ◌==◌, Bool, false, ◌||◌, if◌then◌else◌, List, [], ◌∷◌, length, slice_get, Some}
use Rattle.jvm_base.specs.Words.{from}
use Rattle.code_table.specs.declared.code.Placed.{Placed}
use Rattle.program_image.specs.Program.{Program}
use Rattle.flow_verifier.specs.declared.method.Handler.{Handler}
use Rattle.flow_verifier.specs.declared.method.Method.{Method}
use Rattle.flow_verifier.specs.declared.ranges.Ranges.{Ranges}
use Rattle.flow_verifier.specs.Methods.{ops_of, place_of}
use Rattle.flow_verifier.specs.Given.{covers}

-- the flag of a place, if it has one
abbrev pub flag_at : List Bool → ℕ → Bool
flag_at flags i = from false (λ b. b) (slice_get flags i)

-- a handler covers the instruction at a place, if it is there
abbrev pub covers_place : List Placed → ℕ → Handler → Bool
covers_place ops i h = from false (λ o. covers o.at h) (slice_get ops i)

-- a handler covers a place but not the one before, or the other way round
abbrev pub turns_at : List Placed → ℕ → Handler → Bool
turns_at ops i h = (place_of ops h.start == i) || (place_of ops h.until == i)

-- how many of the first n flags are set
abbrev pub flags_to : List Bool → ℕ → ℕ
flags_to flags zero = 0
flags_to [] (suc n) = 0
flags_to (b ∷ bs) (suc n) = (if b then 1 else 0) + flags_to bs n

-- the number of the range of a place
abbrev pub range_at : Ranges → ℕ → ℕ
range_at ranges i = from 0 (λ n. n) (slice_get ranges.number i)

-- a range begins at each place with a flag
pub record AreNumbered (flags : List Bool) (ranges : Ranges) : Type 0 where
  pub long : length ranges.number ≡ length flags
  pub number : (i : ℕ) → i < length flags → range_at ranges i ≡ flags_to flags (i + 1)
  pub within : (i : ℕ) → i < length flags → range_at ranges i < ranges.count

-- each place is in a range, and the same handlers cover places of one range
pub record AreRanges (p : Program) (m : Method) (ranges : Ranges) : Type 0 where
  pub long : length ranges.number ≡ length (ops_of p m.number)
  pub within : (i : ℕ) → i < length (ops_of p m.number) → range_at ranges i < ranges.count
  pub alike : (i j k : ℕ) (h : Handler) →
      i < length (ops_of p m.number) → j < length (ops_of p m.number) →
      range_at ranges i ≡ range_at ranges j → slice_get m.handlers k ≡ Some h →
      covers_place (ops_of p m.number) i h ≡ covers_place (ops_of p m.number) j h
