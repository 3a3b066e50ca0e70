-- Arithmetic on ints and longs by opcode (JVMS2 6). Results wrap.
use Rattle.std.specs.Prelude.{ℕ, ℤ, pos, negsuc, ◌+◌, ◌-◌, ◌/◌, ◌%◌, ◌^◌, ◌==◌, ◌||◌, not, Bool, if◌then◌else◌, int_lt, int_rem}
use Rattle.std.specs.Int.{Width, w32, cast_signed, cast_unsigned, int_wrapping_add, int_wrapping_sub, int_wrapping_mul, int_wrapping_div, int_bit_and, int_bit_or, int_bit_xor, int_shl, int_shr}
use Rattle.std.specs.Ordering.{int_eq}
use Rattle.code_table.specs.declared.opcode.TheConstants as code

-- the sum, difference or product
abbrev pub arithmetic : ℕ → Width → ℤ → ℤ → ℤ
arithmetic o w a b =
    if o == code.IADD || o == code.LADD then int_wrapping_add w a b
    else
    (if o == code.ISUB || o == code.LSUB then int_wrapping_sub w a b else int_wrapping_mul w a b)

-- the quotient toward zero, or the remainder, which has the dividend's sign
abbrev pub division : ℕ → Width → ℤ → ℤ → ℤ
division o w a b = if o == code.IDIV || o == code.LDIV then int_wrapping_div w a b else int_rem a b

-- bit by bit
abbrev pub bitwise : ℕ → Width → ℤ → ℤ → ℤ
bitwise o w a b =
    if o == code.IAND || o == code.LAND then int_bit_and w a b
    else (if o == code.IOR || o == code.LOR then int_bit_or w a b else int_bit_xor w a b)

-- by k bits: to the left, to the right with the sign, or to the right with zeros
abbrev pub shifted : ℕ → Width → ℤ → ℕ → ℤ
shifted o w a k =
    if o == code.ISHL || o == code.LSHL then int_shl w a k
    else
    (if o == code.ISHR || o == code.LSHR then int_shr a k else cast_signed w (cast_unsigned w a / 2 ^ k))

-- the shift that an int's low bits tell, of so many places that there are
abbrev pub shift_count : ℕ → ℤ → ℕ
shift_count places b = cast_unsigned w32 b % places

-- `lcmp`: -1 where a is below b, 1 where it is above, else 0
abbrev pub ordered : ℤ → ℤ → ℤ
ordered a b = if int_lt a b then negsuc 0 else (if int_lt b a then pos 1 else pos 0)

-- a comparison of two ints, by how far its opcode lies behind that for equality: equal, unequal,
-- below, at least, above, at most (JVMS2 9)
abbrev pub compares : ℕ → ℤ → ℤ → Bool
compares k a b =
    if k == 0 then int_eq a b
    else (if k == 1 then not (int_eq a b)
    else (if k == 2 then int_lt a b
    else (if k == 3 then not (int_lt a b)
    else (if k == 4 then int_lt b a else not (int_lt b a)))))

-- a - b, where b is at most a
abbrev pub distance : ℤ → ℤ → ℕ
distance a b = (cast_unsigned w32 a + (2 ^ 32 - cast_unsigned w32 b)) % 2 ^ 32
