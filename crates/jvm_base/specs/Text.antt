-- Modified UTF-8, JVMS2 4.4.7. Each unit has one spelling here; a surrogate is a unit like any other.
use Rattle.std.specs.Prelude.{ℕ, ◌+◌, ◌*◌, ◌-◌, ◌/◌, ◌%◌, List, [], ◌∷◌, Bool, ◌&&◌, ◌||◌, nat_eq, nat_lt, nat_le, if◌then◌else◌, Option, Some, None, option_map}
use Rattle.std.specs.List.{flat_map}

-- ---- the spelling

-- a unit that is one byte: from 1 to 127
abbrev pub is_one : ℕ → Bool
is_one a = nat_lt 0 a && nat_lt a 128

-- 0 and 128 to 2047 are two bytes, the others from 2048 on three
abbrev pub unit_bytes : ℕ → List ℕ
unit_bytes u =
    if is_one u then u ∷ []
    else (if nat_lt u 2048 then (192 + u / 64) ∷ (128 + u % 64) ∷ []
    else (224 + u / 4096) ∷ (128 + u / 64 % 64) ∷ (128 + u % 64) ∷ [])

-- the bytes of a text
abbrev pub text_bytes : List ℕ → List ℕ
text_bytes us = flat_map unit_bytes us

-- ---- the reading

-- two bytes that are a unit: 0, or one from 128 on
abbrev pub is_two : ℕ → ℕ → Bool
is_two a b =
    nat_le 192 a && nat_lt a 224 && nat_le 128 b && nat_lt b 192
    && (nat_eq a 192 && nat_eq b 128 || nat_le 194 a)

-- the unit of a first byte and one that continues it
abbrev pub two : ℕ → ℕ → ℕ
two a b = (a - 192) * 64 + (b - 128)

-- three bytes that are a unit from 2048 on
abbrev pub is_three : ℕ → ℕ → ℕ → Bool
is_three a b c =
    nat_le 224 a && nat_lt a 240 && nat_le 128 b && nat_lt b 192 && nat_le 128 c && nat_lt c 192
    && (nat_lt 224 a || nat_le 160 b)

-- the unit of a first byte and two that continue it
abbrev pub three : ℕ → ℕ → ℕ → ℕ
three a b c = (a - 224) * 4096 + (b - 128) * 64 + (c - 128)

-- the units that bytes spell
unfoldable pub units_of : List ℕ → Option (List ℕ)
units_of [] = Some []
units_of (a ∷ []) = if is_one a then Some (a ∷ []) else None
units_of (a ∷ b ∷ []) =
    if is_one a then option_map (λ us. a ∷ us) (units_of (b ∷ []))
    else (if is_two a b then Some (two a b ∷ []) else None)
units_of (a ∷ b ∷ c ∷ bytes) =
    if is_one a then option_map (λ us. a ∷ us) (units_of (b ∷ c ∷ bytes))
    else (if is_two a b then option_map (λ us. two a b ∷ us) (units_of (c ∷ bytes))
    else (if is_three a b c then option_map (λ us. three a b c ∷ us) (units_of bytes) else None))

-- the first unit that bytes spell, and the bytes after it
unfoldable pub unit_at : List ℕ → Option (ℕ × List ℕ)
unit_at [] = None
unit_at (a ∷ []) = if is_one a then Some (a, []) else None
unit_at (a ∷ b ∷ []) = if is_one a then Some (a, b ∷ []) else (if is_two a b then Some (two a b, []) else None)
unit_at (a ∷ b ∷ c ∷ bytes) =
    if is_one a then Some (a, b ∷ c ∷ bytes)
    else (if is_two a b then Some (two a b, c ∷ bytes)
    else (if is_three a b c then Some (three a b c, bytes) else None))
