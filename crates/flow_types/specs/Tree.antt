-- The tree of superclasses.
use Rattle.std.specs.Prelude.{map, ◌≡◌, ℕ, zero, suc, ◌<◌, ◌==◌, Bool, true, false, if◌then◌else◌, List, length, slice_get, Option, Some, None}
use Rattle.program_image.specs.Program.{Program}

-- the superclass of each class of a program
abbrev pub superclasses : Program → List (Option ℕ)
superclasses p = map (λ c. c.super_class) p.classes

-- a class that isn't there has no superclass
abbrev pub flat : Option (Option ℕ) → Option ℕ
flat None = None
flat (Some up) = up

-- the direct superclass of a class; Object has none
abbrev pub superclass : List (Option ℕ) → ℕ → Option ℕ
superclass supers class = flat (slice_get supers class)

-- whether high is reached from low in fewer than n steps up
abbrev pub above : ℕ → List (Option ℕ) → ℕ → ℕ → Bool
above zero supers low high = false
above (suc n) supers low high =
    if low == high then true
    else elim (superclass supers low) as (λ _. Bool) [
      | None ↦ false
      | Some up ↦ above n supers up high
    ]

-- a class is another, or has it among its superclasses
abbrev pub is_below : List (Option ℕ) → ℕ → ℕ → Bool
is_below supers low high = above (length supers) supers low high

-- the first class from `a` upwards, in at most n steps, that lies above `b` too; Object where no
-- other does
abbrev pub first_common : ℕ → List (Option ℕ) → ℕ → ℕ → ℕ
first_common zero supers a b = 0
first_common (suc n) supers a b =
    if is_below supers b a then a
    else elim (superclass supers a) as (λ _. ℕ) [
      | None ↦ 0
      | Some up ↦ first_common n supers up b
    ]

-- n steps up
abbrev pub Up : List (Option ℕ) → ℕ → ℕ → ℕ → Type 0
Up supers zero low high = low ≡ high
Up supers (suc n) low high =
    (next : ℕ) × (superclass supers low ≡ Some next) × Up supers n next high

-- one tree with the root 0: from each class the root is reached in fewer steps than there are
-- classes
pub record IsTree (supers : List (Option ℕ)) : Type 0 where
  pub some : 0 < length supers
  pub root : superclass supers 0 ≡ None
  pub reached : (class : ℕ) → class < length supers →
      (n : ℕ) × (n < length supers) × Up supers n class 0
