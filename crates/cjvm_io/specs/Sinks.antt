-- What was written to a sink.
use Rattle.std.specs.Prelude.{ℕ, ◌≤◌, List, length, take, Option, Result, MatchResult}
use Rattle.std.specs.Io.KnownBytes.{Appends}

-- what a sink shows: what it holds, if it tells that, and how many faults struck
pub record Showing : Type 0 where
  pub held : Option (List ℕ)
  pub faults : ℕ

-- what this sink shows, by what its type tells
abbrev pub shown : {O : Type 0} → (O → Option (List ℕ)) → (O → ℕ) → O → Showing
shown held faults sink = record { held = held sink; faults = faults sink }

-- a front of the bytes was appended
pub record GainsFront (old new : Option (List ℕ)) (bytes : List ℕ) : Type 0 where
  pub count : ℕ
  pub within : count ≤ length bytes
  pub gained : Appends old new (take count bytes)

-- all of the bytes were appended at Ok, and a front of them otherwise
abbrev pub GainsAll : {E : Type 0} → Option (List ℕ) → Option (List ℕ) → List ℕ → Result Unit E
    → Type 0
GainsAll old new bytes result =
    MatchResult result (λ _. Appends old new bytes) (λ _. GainsFront old new bytes)
