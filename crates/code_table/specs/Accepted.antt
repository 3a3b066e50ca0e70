-- Which decoded code is that of an item, and when there is none: facts on bytes and addresses,
-- beside the computing word `decoded`.
use Rattle.std.specs.Prelude.{◌≡◌, ℕ, ◌<◌, ◌⊎◌, List, ◌∷◌, ◌++◌, length, Err, IsTrue, true, false}
use Rattle.std.specs.List.{AllPass, AllByRecursion}
use Rattle.jvm_base.specs.declared.pool.PoolItem.{PoolItem}
use Rattle.jvm_base.specs.declared.code_item.CodeItem.{CodeItem}
use Rattle.jvm_base.specs.declared.code_item.TableItem.{TableItem}
use Rattle.code_table.specs.declared.error.CodeErr.{CodeErr}
use Rattle.code_table.specs.declared.error.CodeErr.TheVariants.{UnknownOp, LeftOutOp, CutOp, BadSwitch, BadIndex, TargetOff, BadTable, NoMemory}
use Rattle.code_table.specs.declared.code.Placed.{Placed}
use Rattle.code_table.specs.declared.code.Code.{Code}
use Rattle.code_table.specs.Instructions.{instruction_at}
use Rattle.code_table.specs.Sequences.{Leads, Covers}
use Rattle.code_table.specs.Targets.{targets_of, is_start, leads_off, is_bad_entry}
use Rattle.jvm_base.specs.Told.{Tells}
use Rattle.code_table.specs.Told.{told}

-- each address that the instruction may jump to is that of an instruction
abbrev pub Lands : List Placed → Placed → Type 0
Lands ops p = AllPass (is_start ops) (targets_of p.op)

-- an entry of the exception table names instructions, and protects some; `last` may be the end of
-- the code
pub record IsEntry (ops : List Placed) (end : ℕ) (e : TableItem) : Type 0 where
  pub start : IsTrue (is_start ops e.start)
  pub last : IsTrue (is_start ops e.end) ⊎ (e.end ≡ end)
  pub handler : IsTrue (is_start ops e.handler)
  pub below : e.start < e.end

-- the decoded code of an item
pub record IsCode (item : CodeItem) (pool : List PoolItem) (code : Code) : Type 0 where
  pub covers : Covers item.code pool code.ops
  pub lands : AllByRecursion (Lands code.ops) code.ops
  pub entries : AllByRecursion (IsEntry code.ops (length item.code)) item.table
  pub max_stack : code.max_stack ≡ item.max_stack
  pub max_locals : code.max_locals ≡ item.max_locals
  pub table : code.table ≡ item.table

-- The instructions from an address on lead to one below the code's end where none stands.
pub record Stops (code : List ℕ) (pool : List PoolItem) (from : ℕ) (e : CodeErr) : Type 0 where
  pub before : List Placed
  pub at : ℕ
  pub leads : Leads code pool from before at
  pub below : at < length code
  pub why : instruction_at code pool at ≡ Err e

-- All is decoded, and an instruction leads off, but none before it.
pub record JumpsOff (item : CodeItem) (pool : List PoolItem) (e : CodeErr) : Type 0 where
  pub before : List Placed
  pub p : Placed
  pub after : List Placed
  pub covers : Covers item.code pool (before ++ p ∷ after)
  pub others : AllByRecursion (λ q. leads_off (is_start (before ++ p ∷ after)) q ≡ false) before
  pub off : leads_off (is_start (before ++ p ∷ after)) p ≡ true
  pub why : e ≡ TargetOff p.at

-- All is decoded and lands, and an entry of the exception table is bad, but none before it.
pub record HasBadEntry (item : CodeItem) (pool : List PoolItem) (e : CodeErr) : Type 0 where
  pub ops : List Placed
  pub covers : Covers item.code pool ops
  pub lands : AllByRecursion (Lands ops) ops
  pub before : List TableItem
  pub entry : TableItem
  pub after : List TableItem
  pub parts : item.table ≡ before ++ entry ∷ after
  pub others : AllByRecursion (λ q. is_bad_entry (is_start ops) (length item.code) q ≡ false) before
  pub bad : is_bad_entry (is_start ops) (length item.code) entry ≡ true
  pub why : e ≡ BadTable (length before)

-- decoding stops at an instruction, or a target is none, or an entry is bad
abbrev pub IsRefused : CodeItem → List PoolItem → CodeErr → Type 0
IsRefused item pool e = Stops item.code pool 0 e ⊎ (JumpsOff item pool e ⊎ HasBadEntry item pool e)

-- a refusal is due; want of memory may come at any time
abbrev pub IsDue : CodeItem → List PoolItem → CodeErr → Type 0
IsDue item pool e = Tells told (IsRefused item pool) e

-- a refusal of the instruction at an address, which names that address
abbrev pub IsHere : ℕ → CodeErr → Type 0
IsHere at (UnknownOp here) = here ≡ at
IsHere at (LeftOutOp here) = here ≡ at
IsHere at (CutOp here) = here ≡ at
IsHere at (BadSwitch here) = here ≡ at
IsHere at (BadIndex here) = here ≡ at
IsHere at (TargetOff here) = ⊥
IsHere at (BadTable place) = ⊥
IsHere at NoMemory = ⊥
