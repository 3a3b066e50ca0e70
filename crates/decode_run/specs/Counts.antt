-- How much the code of a class's methods is decoded to.
use Rattle.std.specs.Prelude.{◌≡◌, ℕ, List, length, take, min, Option, Some, None, slice_get, Result, Ok, All}
use Rattle.std.specs.List.{sum_by}
use Rattle.jvm_base.specs.declared.code_item.CodeItem.{CodeItem}
use Rattle.jvm_base.specs.declared.pool.PoolItem.{PoolItem}
use Rattle.class_format.specs.declared.class.MethodItem.{MethodItem}
use Rattle.code_table.specs.declared.error.CodeErr.{CodeErr}
use Rattle.code_table.specs.Decoded.{decoded}
use Rattle.jvm_base.specs.Refusing.{◌>>=◌}
use Rattle.jvm_base.specs.Told.{Fails}
use Rattle.code_table.specs.Told.{told}
use Rattle.decode_run.specs.declared.counts.Counts.{Counts}
use Rattle.decode_run.specs.declared.counts.Refused.{Refused}

-- how many instructions some code has, where there is code; or its refusal
abbrev pub instructions_of : List PoolItem → Option CodeItem → Result (Option ℕ) CodeErr
instructions_of pool None = Ok None
instructions_of pool (Some item) = do
  code ← decoded item pool
  Ok (Some (length code.ops))

-- the code isn't refused
abbrev pub IsDecoded : List PoolItem → MethodItem → Type 0
IsDecoded pool m = (n : Option ℕ) × (instructions_of pool m.code ≡ Ok n)

-- 1 for what is there
abbrev pub one_if : {X : Type 0} → Option X → ℕ
one_if None = 0
one_if (Some x) = 1

-- the instructions of decoded code; 0 where there is none
abbrev pub count_of : Result (Option ℕ) CodeErr → ℕ
count_of (Ok (Some n)) = n
count_of _ = 0

-- the greatest count
abbrev pub most : ℕ
most = 18446744073709551615

-- each method's code is decoded, and these are all codes and all their instructions, as far as they can be counted
pub record IsCounted (pool : List PoolItem) (items : List MethodItem) (c : Counts) : Type 0 where
  pub each : All (IsDecoded pool) items
  pub codes : c.methods ≡ min (sum_by (λ m. one_if m.code) items) most
  pub instructions : c.instructions ≡ min (sum_by (λ m. count_of (instructions_of pool m.code)) items) most

-- the code of this method is refused, unless memory ran out there, and that of no earlier one
pub record IsRefusedAt (pool : List PoolItem) (items : List MethodItem) (r : Refused) : Type 0 where
  pub method : MethodItem
  pub is : slice_get items r.method ≡ Some method
  pub before : All (IsDecoded pool) (take r.method items)
  pub why : Fails told r.why (instructions_of pool method.code)
