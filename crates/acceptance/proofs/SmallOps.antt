-- The descriptors that decoded instructions hold are of the grammar, so they have few dimensions.
use Rattle.std.proofs.Common.{◌≡◌, subst, ℕ, zero, suc, List, [], ◌∷◌, length, Option, Some, None}
use Rattle.std.specs.List.{AllByRecursion}
use Rattle.std.specs.Prelude.{slice_get, option_and_then}
use Rattle.jvm_base.specs.declared.desc.Desc.{Desc}
use Rattle.jvm_base.specs.declared.desc.MethodDesc.{MethodDesc}
use Rattle.jvm_base.specs.declared.pool.PoolItem.{PoolItem}
use Rattle.jvm_base.specs.Descriptors.{desc_of, method_of, IsDesc, IsReturn, IsMethodDesc}
use Rattle.jvm_base.proofs.Descs.{desc_of_takes}
use Rattle.jvm_base.proofs.Methods.{method_reader}
use Rattle.code_table.specs.declared.op.Op.{Op}
use Rattle.code_table.specs.declared.op.Op.TheVariants.{Static, Field, Invoke}
use Rattle.code_table.specs.declared.code.Placed.{Placed}
use Rattle.code_table.specs.Sequences.{Leads}
use Rattle.class_names.specs.Texts.{member_in}
use Rattle.link_rules.specs.Walks.Spelled.{IsSpelled, IsSpelledPlaced}
use Rattle.link_rules.proofs.SpelledOps.{ops_led}
use Rattle.acceptance.proofs.Typed.{IsSmall, IsSmallResult, AreSmall, IsSmallOp}

all_small : (ds : List Desc) → AllByRecursion IsDesc ds → AllByRecursion IsSmall ds
all_small [] h = tt
all_small (d ∷ ds) h = (h.0.dims, all_small ds (h.1))

result_small : (d : Option Desc) → IsReturn d → IsSmallResult d
result_small None h = tt
result_small (Some d) h = h.dims

-- of a method
pub are_small : (m : MethodDesc) → IsMethodDesc m → AreSmall m
are_small m h = record { args = all_small m.args h.args; ret = result_small m.ret h.ret }

-- one that a text spells
pub method_small : (t : Option (List ℕ)) (m : MethodDesc) → option_and_then method_of t ≡ Some m → AreSmall m
method_small None m e = absurd cc
method_small (Some text) m e = are_small m ((method_reader.takes text m e).0)

-- a descriptor that an instruction's item spells
spelled_small : (text : List ℕ) (d : Desc) → desc_of text ≡ Some d → IsSmall d
spelled_small text d e = let h : IsDesc d = (desc_of_takes text d e).0 in h.dims

-- so an instruction whose descriptor its item spells holds small ones
small_op : (pool : List PoolItem) (op : Op) → IsSpelled pool op → IsSmallOp op
small_op pool (Static o item d) e = spelled_small (member_in pool item).desc d e
small_op pool (Field o item d) e = spelled_small (member_in pool item).desc d e
small_op pool (Invoke o item m) e = are_small m ((method_reader.takes (member_in pool item).desc m e).0)
small_op pool _ e = tt

-- of some instructions
small_at : (pool : List PoolItem) (ps : List Placed) → AllByRecursion (IsSpelledPlaced pool) ps → (i : ℕ) (p : Placed) → slice_get ps i ≡ Some p → IsSmallOp p.op
small_at pool [] h i p e = absurd cc
small_at pool (q ∷ qs) h zero p e = let s : q ≡ p = cc in subst (λ (x : Placed). IsSmallOp x.op) s (small_op pool q.op (h.0))
small_at pool (q ∷ qs) h (suc i) p e = small_at pool qs (h.1) i p e

-- of those of some code
pub all_small_ops : (code : List ℕ) (pool : List PoolItem) (at : ℕ) (ps : List Placed) (to : ℕ) → Leads code pool at ps to → (i : ℕ) (p : Placed) → slice_get ps i ≡ Some p → IsSmallOp p.op
all_small_ops code pool at ps to l = small_at pool ps (ops_led code pool at ps to l)
