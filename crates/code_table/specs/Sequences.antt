-- The instructions of some code, one behind the other from address 0 on (JVMS2 4.8.1).
use Rattle.std.specs.Prelude.{◌≡◌, ◌<◌, ◌≤◌, ℕ, zero, suc, List, [], ◌∷◌, length, Result, Ok, nat_lt, if◌then◌else◌}
use Rattle.jvm_base.specs.declared.pool.PoolItem.{PoolItem}
use Rattle.code_table.specs.declared.error.CodeErr.{CodeErr}
use Rattle.code_table.specs.declared.code.Placed.{Placed}
use Rattle.jvm_base.specs.Refusing.{◌>>=◌}
use Rattle.code_table.specs.Instructions.{instruction_at}

-- From one address the instructions lead up to another: each stands where the one before it ends.
abbrev pub Leads : List ℕ → List PoolItem → ℕ → List Placed → ℕ → Type 0
Leads code pool at [] to = at ≡ to
Leads code pool at (p ∷ ps) to = (instruction_at code pool at ≡ Ok p) × Leads code pool p.next ps to

-- The instructions cover the code: the first stands at 0, and the last ends where the code does.
abbrev pub Covers : List ℕ → List PoolItem → List Placed → Type 0
Covers code pool ps = Leads code pool 0 ps (length code)

-- an instruction of an address, which ends behind it, and not behind `end`
pub record EndsWithin (at end : ℕ) (p : Placed) : Type 0 where
  pub here : p.at ≡ at
  pub behind : at < p.next
  pub within : p.next ≤ end

-- The instructions from an address on, computed, or the first refusal. There are no more of them than
-- bytes.
unfoldable pub instructions_from : (most : ℕ) → List ℕ → List PoolItem → ℕ
    → Result (List Placed) CodeErr
instructions_from zero code pool at = Ok []
instructions_from (suc most) code pool at =
    if nat_lt at (length code) then (do
      p ← instruction_at code pool at
      ps ← instructions_from most code pool p.next
      Ok (p ∷ ps))
    else Ok []

-- all instructions of the code
unfoldable pub instructions_of : List ℕ → List PoolItem → Result (List Placed) CodeErr
instructions_of code pool = instructions_from (length code) code pool 0
