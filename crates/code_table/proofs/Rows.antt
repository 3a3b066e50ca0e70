-- Each opcode's kind in the code has the form that its row in the table has.
use Rattle.std.proofs.Common.{◌≡◌, ◌≢◌, ℕ, ◌<◌, List, Err, map, get_or, slice_get, arith, refl, sym, ◌∙◌, ap}
use Rattle.std.specs.Option.{unwrap_or}
use Rattle.std.proofs.lemmas.List.FromFn.{get_or-map-range_with_len}
use Rattle.std.specs.List.{range_with_len}
use Rattle.jvm_base.specs.declared.pool.PoolItem.{PoolItem}
use Rattle.code_table.specs.declared.kind.TheConstants.{KINDS}
use Rattle.code_table.specs.declared.kind.Kind.{Kind}
use Rattle.code_table.specs.declared.kind.Kind.TheVariants as kind
use Rattle.code_table.specs.declared.kind.Access.{Access}
use Rattle.code_table.specs.declared.error.CodeErr.TheVariants.{UnknownOp}
use Rattle.code_table.specs.Forms.{Form, Unknown}
use Rattle.code_table.specs.Instructions.{by_form, sized_at, widened}
use Rattle.code_table.specs.Steps.Kinds.{form_of}
use Rattle.code_table.specs.Table.{form_at, table, IsOrdered}
use Rattle.code_table.specs.Opcodes.{named}

-- the form of the kind at a byte
kept : ℕ → Form
kept b = form_of (unwrap_or (slice_get KINDS b) kind.Unknown) b

-- all 256 bytes, by computing
all_kept : map kept (range_with_len 0 256) ≡ map form_at (range_with_len 0 256)
unfolding kept form_at table
all_kept = refl

-- a byte's kind in the code has the form of its row
pub kind_of_row : (b : ℕ) (k : Kind) → b < 256 → k ≡ unwrap_or (slice_get KINDS b) kind.Unknown → form_of k b ≡ form_at b
unfolding kept
kind_of_row b k h is =
    ap (λ k. form_of k b) is
    ∙ sym (get_or-map-range_with_len kept 0 256 b b Unknown h (omega arith))
    ∙ ap (λ forms. get_or forms b Unknown) all_kept
    ∙ get_or-map-range_with_len form_at 0 256 b b Unknown h (omega arith)

-- a kind that isn't a switch, nor `wide`, nor left out, has operands that the opcode counts
pub sized : (k : Kind) (b : ℕ) (code : List ℕ) (pool : List PoolItem) (at : ℕ) → k ≢ kind.Unknown → k ≢ kind.LeftOut → k ≢ kind.LeftOutLocal → k ≢ kind.TableSwitch → k ≢ kind.LookupSwitch → k ≢ kind.Wide
    → by_form (form_of k b) code pool at ≡ sized_at (form_of k b) code pool at
sized kind.Unknown b code pool at u o l t s w = absurd (u refl)
sized kind.LeftOut b code pool at u o l t s w = absurd (o refl)
sized kind.LeftOutLocal b code pool at u o l t s w = absurd (l refl)
sized kind.TableSwitch b code pool at u o l t s w = absurd (t refl)
sized kind.LookupSwitch b code pool at u o l t s w = absurd (s refl)
sized kind.Wide b code pool at u o l t s w = absurd (w refl)
sized _ b code pool at u o l t s w = refl

-- a kind that isn't of a local has no wide form
pub no_wide_form : (k : Kind) (b : ℕ) (code : List ℕ) (at : ℕ) → ((a : Access) → k ≢ kind.Local a) → k ≢ kind.LocalAndByte → k ≢ kind.LeftOutLocal
    → widened (form_of k b) code at ≡ Err (UnknownOp at)
no_wide_form (kind.Local a) b code at l i o = absurd (l a refl)
no_wide_form kind.LocalAndByte b code at l i o = absurd (i refl)
no_wide_form kind.LeftOutLocal b code at l i o = absurd (o refl)
no_wide_form _ b code at l i o = refl

-- the rows' bytes rise
pub ordered : IsOrdered
unfolding table
ordered = refl

-- each constant of the code is the byte of its row
pub rows_named : map (λ r. (r.name, r.byte)) table ≡ named
unfolding table named
rows_named = refl
