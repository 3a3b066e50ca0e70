-- Numbers in code, high byte first (JVMS2 4.7.3), and what the offsets among them lead to.
use Rattle.std.specs.Prelude.{ℕ, ℤ, ◌+◌, ◌%◌, ◌^◌, List, drop}
use Rattle.std.specs.Int.{Width, w32, from_be_bytes, cast_signed, cast_unsigned}

-- the number of the bytes from a place on
abbrev pub number_at : Width → List ℕ → ℕ → ℕ
number_at w bytes at = from_be_bytes w (drop at bytes)

-- the same with its sign
abbrev pub signed_at : Width → List ℕ → ℕ → ℤ
signed_at w bytes at = cast_signed w (number_at w bytes at)

-- Where an offset leads from an address. Addresses are taken modulo 2^32, so that what lies before
-- the code is far behind it, and no instruction's.
abbrev pub target : ℕ → ℤ → ℕ
target at offset = (at + cast_unsigned w32 offset) % 2 ^ 32
