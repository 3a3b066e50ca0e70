-- Numbers cut to fewer bits (JVMS2 6: i2b, i2c, i2s, l2i).
use Rattle.std.specs.Prelude.{ℕ, ℤ, ◌%◌, ◌^◌}
use Rattle.std.specs.Int.{w8, w16, w32, w64, cast_unsigned, cast_signed}

-- the low 8 bits of an int, with sign
abbrev pub as_byte : ℤ → ℤ
as_byte a = cast_signed w8 (cast_unsigned w32 a % 2 ^ 8)

-- the low 16 bits of an int, without sign
abbrev pub as_unit : ℤ → ℕ
as_unit a = cast_unsigned w32 a % 2 ^ 16

-- the low 16 bits of an int, with sign
abbrev pub as_short : ℤ → ℤ
as_short a = cast_signed w16 (cast_unsigned w32 a % 2 ^ 16)

-- the low 32 bits of a long, with sign
abbrev pub as_int : ℤ → ℤ
as_int a = cast_signed w32 (cast_unsigned w64 a % 2 ^ 32)
