-- Addresses that must be those of instructions (JVMS2 4.7.3, 4.8.1).
use Rattle.std.specs.Prelude.{ℕ, ℤ, List, [], ◌∷◌, map, Option, Some, None, Result, Ok, Err, Bool, not, ◌||◌, ◌&&◌, ◌==◌, nat_lt, slice_index_or, false}
use Rattle.std.specs.List.{list_any, list_all}
use Rattle.jvm_base.specs.declared.code_item.TableItem.{TableItem}
use Rattle.code_table.specs.declared.error.CodeErr.{CodeErr}
use Rattle.code_table.specs.declared.code.Placed.{Placed}
use Rattle.code_table.specs.declared.op.Op.{Op}
use Rattle.code_table.specs.declared.op.Op.TheVariants.{IfZero, IfInts, IfRefs, IfNull, Goto, TableSwitch, LookupSwitch}

-- the addresses that an instruction may jump to
abbrev pub targets_of : Op → List ℕ
targets_of (IfZero op to) = to ∷ []
targets_of (IfInts op to) = to ∷ []
targets_of (IfRefs op to) = to ∷ []
targets_of (IfNull op to) = to ∷ []
targets_of (Goto to) = to ∷ []
targets_of (TableSwitch other low high to) = other ∷ to
targets_of (LookupSwitch other pairs) = other ∷ map (λ (p : ℤ × ℕ). p.1) pairs
targets_of _ = []

-- whether an instruction begins at an address
unfoldable pub is_start : List Placed → ℕ → Bool
is_start ops at = list_any (λ p. p.at == at) ops

-- a jump leads to an address that isn't a start
unfoldable pub leads_off : (ℕ → Bool) → Placed → Bool
leads_off start p = not (list_all start (targets_of p.op))

-- An entry of the exception table is bad where one of its addresses isn't a start, or its range is
-- empty. The end may be that of the code.
unfoldable pub is_bad_entry : (ℕ → Bool) → ℕ → TableItem → Bool
is_bad_entry start end e =
    not (start e.start && (start e.end || e.end == end) && start e.handler && nat_lt e.start e.end)

-- nothing is wrong, or the first that is tells the refusal
abbrev pub refused : {A : Type 0} → (A → CodeErr) → Option A → Result (Unit {0}) CodeErr
refused why None = Ok tt
refused why (Some x) = Err (why x)

-- whether a place of a list holds true
unfoldable pub flag_at : List Bool → ℕ → Bool
flag_at flags at = slice_index_or flags at false
