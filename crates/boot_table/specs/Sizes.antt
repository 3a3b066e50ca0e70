-- How much a row asks of the pool, so that indices fit in two bytes. No promise rests on this.
use Rattle.std.specs.Prelude.{Bool, true, ◌&&◌, IsTrue, length, nat_le, Option, Some, None}
use Rattle.std.specs.List.{list_all}
use Rattle.boot_table.specs.Rows.{Row, Code}

-- code of at most eight instructions
abbrev pub is_short : Option Code → Bool
is_short None = true
is_short (Some c) = nat_le (length c.ops) 8

-- the same, as a condition
abbrev pub IsShort : Option Code → Type 0
IsShort code = IsTrue (is_short code)

-- at most sixteen members of a kind, and no long code
abbrev pub is_small : Row → Bool
is_small row =
    nat_le (length row.interfaces) 16
    && (nat_le (length row.fields) 16
    && (nat_le (length row.methods) 16 && list_all (λ m. is_short m.code) row.methods))
