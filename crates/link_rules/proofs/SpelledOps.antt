-- The descriptor that a decoded instruction holds is the one that its item names.
use Rattle.std.proofs.Common.{◌≡◌, sym, subst, refl, ℕ, ◌+◌, true, false, List, [], ◌∷◌, length, Option, Some, None, Result, Ok, Err, nat_lt, ◌==◌, if◌then◌else◌}
use Rattle.std.specs.List.{All, AllByRecursion}
use Rattle.std.specs.Prelude.{find, option_and_then}
use Rattle.std.specs.Int.{w8}
use Rattle.jvm_base.specs.declared.code_item.CodeItem.{CodeItem}
use Rattle.jvm_base.specs.declared.pool.PoolItem.{PoolItem}
use Rattle.jvm_base.specs.Words.{from}
use Rattle.class_format.specs.declared.class.MethodItem.{MethodItem}
use Rattle.class_format.proofs.Recursion.{all_of}
use Rattle.code_table.specs.declared.error.CodeErr.{CodeErr}
use Rattle.code_table.specs.declared.error.CodeErr.TheVariants.{UnknownOp, LeftOutOp, CutOp}
use Rattle.code_table.specs.declared.code.Code.{Code}
use Rattle.code_table.specs.declared.code.Placed.{Placed}
use Rattle.code_table.specs.Decoded.{decoded}
use Rattle.code_table.specs.Forms.{Form, TableSwitch, LookupSwitch, Wide, LeftOut, LeftOutLocal, Unknown}
use Rattle.code_table.specs.Instructions.{wide_at, by_form, instruction_at}
use Rattle.code_table.specs.Numbers.{number_at}
use Rattle.code_table.specs.Sequences.{Leads}
use Rattle.code_table.specs.Table.{Row, table, form_in, form_at}
use Rattle.code_table.proofs.Acceptance.{is_code}
use Rattle.class_names.specs.Classes.{ok_of, code_of, ops_of}
use Rattle.link_rules.specs.Walks.Spelled.{IsSpelledPlaced}
use Rattle.link_rules.proofs.SpelledForms.{Holds, bad, tested, IsSpelledForm, widened_spelled, sized_spelled, table_spelled, lookup_spelled}

-- ---- the table

-- the form of each row
rows_spelled : (pool : List PoolItem) → AllByRecursion (λ r. IsSpelledForm pool r.form) table
unfolding table
rows_spelled pool =
    (tt, (tt, (tt, (tt, (tt, (tt, (tt, (tt, (tt, (tt, (tt, (tt, (tt, (tt, (tt, (tt, (λ n. tt, (λ n. tt, (tt, (tt, (tt, (λ n. tt, (λ n. tt, (tt, (tt, (λ n. tt, (tt, (tt, (tt, (tt, (tt, (tt, (tt, (tt, (tt, (tt, (tt, (tt, (tt, (tt, (tt, (tt, (tt, (tt, (tt, (tt, (tt, (tt, (tt, (tt, (tt, (tt, (tt, (tt, (λ n. tt, (λ n. tt, (tt, (tt, (λ n. tt, (tt, (tt, (tt, (tt, (tt, (tt, (tt, (tt, (tt, (tt, (tt, (tt, (tt, (tt, (tt, (tt, (tt, (tt, (tt, (tt, (tt, (tt, (tt, (tt, (tt, (tt, (tt, (tt, (tt, (tt, (tt, (tt, (tt, (tt, (tt, (tt, (tt, (tt, (tt, (tt, (tt, (tt, (tt, (tt, (tt, (tt, (tt, (tt, (tt, (tt, (tt, (tt, (tt, (tt, (tt, (tt, (tt, (tt, (tt, (tt, (tt, (tt, (tt, (tt, (tt, (tt, (tt, (tt, (tt, (tt, (tt, (tt, (tt, (λ n k. tt, (tt, (tt, (tt, (tt, (tt, (tt, (tt, (tt, (tt, (tt, (tt, (tt, (tt, (tt, (tt, (tt, (tt, (tt, (tt, (tt, (λ n. tt, (λ n. tt, (λ n. tt, (λ n. tt, (λ n. tt, (λ n. tt, (λ n. tt, (λ n. tt, (λ n. tt, (λ n. tt, (λ n. tt, (λ n. tt, (λ n. tt, (λ n. tt, (λ n. tt, (tt, (tt, (tt, (tt, (tt, (tt, (tt, (tt, (tt, (tt, (λ n d s. s, (λ n d s. s, (λ n d s. s, (λ n d s. s, (λ n d s. s, (λ n d s. s, (λ n d s. s, (λ n d s. s, (λ n. tt, (λ n. tt, (λ n. tt, (tt, (tt, (λ n. tt, (λ n. tt, (tt, (tt, (tt, (λ n k. tt, (λ n. tt, (λ n. tt, (λ n. tt, (tt, tt)))))))))))))))))))))))))))))))))))))))))))))))))))))))))))))))))))))))))))))))))))))))))))))))))))))))))))))))))))))))))))))))))))))))))))))))))))))))))))))))))))))))))))))))))))))))))))))))))))))))))

-- the form of a row that is found
found_spelled : (pool : List PoolItem) (rows : List Row) (b : ℕ) → AllByRecursion (λ r. IsSpelledForm pool r.form) rows → IsSpelledForm pool (form_in (find (λ r. r.byte == b) rows))
found_spelled pool [] b all = tt
found_spelled pool (r ∷ rows) b all =
    elim (r.byte == b) as (λ t. IsSpelledForm pool (form_in (if t then Some r else find (λ r. r.byte == b) rows))) [
      | true ↦ all.0
      | false ↦ found_spelled pool rows b (all.1)
    ]

-- the form of a byte
form_spelled : (pool : List PoolItem) (b : ℕ) → IsSpelledForm pool (form_at b)
unfolding form_at
form_spelled pool b = found_spelled pool table b (rows_spelled pool)

-- ---- what stands at an address

wide_spelled : (pool : List PoolItem) (code : List ℕ) (at : ℕ) → Holds (IsSpelledPlaced pool) (wide_at code at)
unfolding wide_at
wide_spelled pool code at = tested (nat_lt (at + 1) (length code)) (CutOp at) _ (widened_spelled pool (form_at (number_at w8 code (at + 1))) code at (form_spelled pool (number_at w8 code (at + 1))))

-- each form
by_form_spelled : (form : Form) (code : List ℕ) (pool : List PoolItem) (at : ℕ) → IsSpelledForm pool form → Holds (IsSpelledPlaced pool) (by_form form code pool at)
by_form_spelled Unknown code pool at h = bad (UnknownOp at)
by_form_spelled LeftOut code pool at h = bad (LeftOutOp at)
by_form_spelled LeftOutLocal code pool at h = bad (LeftOutOp at)
by_form_spelled TableSwitch code pool at h = table_spelled pool code at
by_form_spelled LookupSwitch code pool at h = lookup_spelled pool code at
by_form_spelled Wide code pool at h = wide_spelled pool code at
by_form_spelled form code pool at h = sized_spelled form code pool at h

-- the instruction at an address
spelled_there : (code : List ℕ) (pool : List PoolItem) (at : ℕ) (p : Placed) → instruction_at code pool at ≡ Ok p → IsSpelledPlaced pool p
unfolding instruction_at
spelled_there code pool at p e = (by_form_spelled (form_at (number_at w8 code at)) code pool at (form_spelled pool (number_at w8 code at))).ok p e

-- instructions that follow each other
pub ops_led : (code : List ℕ) (pool : List PoolItem) (at : ℕ) (ps : List Placed) (to : ℕ) → Leads code pool at ps to → AllByRecursion (IsSpelledPlaced pool) ps
ops_led code pool at [] to l = tt
ops_led code pool at (p ∷ ps) to l = (spelled_there code pool at p (l.0), ops_led code pool p.next ps to (l.1))

-- ---- of a method

-- of an item's code, if it is decoded
item_ops : (pool : List PoolItem) (c : CodeItem) (r : Result Code CodeErr) → r ≡ decoded c pool → AllByRecursion (IsSpelledPlaced pool) (from [] (λ x. x.ops) (ok_of r))
item_ops pool c (Ok code) e = ops_led c.code pool 0 code.ops (length c.code) (is_code c pool code (sym e)).covers
item_ops pool c (Err e) h = tt

-- of what a method has as its code
code_ops : (pool : List PoolItem) (c : Option CodeItem) → AllByRecursion (IsSpelledPlaced pool) (from [] (λ x. x.ops) (option_and_then (λ x. ok_of (decoded x pool)) c))
code_ops pool None = tt
code_ops pool (Some c) = item_ops pool c (decoded c pool) refl

-- the code of a method
pub code_spelled : (pool : List PoolItem) (m : MethodItem) (code : Option Code) → code ≡ code_of pool m → All (IsSpelledPlaced pool) (from [] (λ c. c.ops) code)
code_spelled pool m code e =
    subst (λ (c : Option Code). All (IsSpelledPlaced pool) (from [] (λ x. x.ops) c)) (sym e) (all_of (IsSpelledPlaced pool) (ops_of pool m) (code_ops pool m.code))
