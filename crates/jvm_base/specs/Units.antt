-- Texts as units of 16 bits.
use Rattle.std.specs.Prelude.{ℕ, ◌<◌, ◌^◌, List}
use Rattle.std.specs.List.{AllByRecursion}

-- each number is a unit
abbrev pub AreUnits : List ℕ → Type 0
AreUnits us = AllByRecursion (λ u. u < 2 ^ 16) us
