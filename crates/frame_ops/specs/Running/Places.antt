-- Instructions by their addresses.
use Rattle.std.specs.Prelude.{ℕ, ◌==◌, if◌then◌else◌, Option, Some, None}
use Rattle.code_table.specs.declared.code.Placed.{Placed}

-- an instruction, where it has the address
abbrev pub if_there : ℕ → Placed → Option Placed
if_there at p = if p.at == at then Some p else None
