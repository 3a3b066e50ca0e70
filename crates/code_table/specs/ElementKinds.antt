-- The kinds of an array's elements by their numbers (JVMS2 6, newarray).
use Rattle.std.specs.Prelude.{ℕ, List, [], ◌∷◌, Bool, nat_le, ◌==◌, ◌||◌, ◌&&◌}
use Prim.Native.String.{String}
use Rattle.code_table.specs.declared.element_kind.TheConstants as kind

-- each kind's name and number
abbrev pub kinds : List (String × ℕ)
kinds =
    ("T_BOOLEAN", 4) ∷ ("T_CHAR", 5) ∷ ("T_FLOAT", 6) ∷ ("T_DOUBLE", 7) ∷ ("T_BYTE", 8) ∷ ("T_SHORT", 9)
    ∷ ("T_INT", 10) ∷ ("T_LONG", 11) ∷ []

-- the same names with the code's constants
abbrev pub named_kinds : List (String × ℕ)
named_kinds =
    ("T_BOOLEAN", kind.T_BOOLEAN) ∷ ("T_CHAR", kind.T_CHAR) ∷ ("T_FLOAT", kind.T_FLOAT)
    ∷ ("T_DOUBLE", kind.T_DOUBLE) ∷ ("T_BYTE", kind.T_BYTE) ∷ ("T_SHORT", kind.T_SHORT)
    ∷ ("T_INT", kind.T_INT) ∷ ("T_LONG", kind.T_LONG) ∷ []

-- a number of a kind
abbrev pub is_kind : ℕ → Bool
is_kind n = nat_le kind.T_BOOLEAN n && nat_le n kind.T_LONG

-- a kind that this machine leaves out
abbrev pub is_left_out_kind : ℕ → Bool
is_left_out_kind n = n == kind.T_FLOAT || n == kind.T_DOUBLE
