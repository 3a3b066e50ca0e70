-- The array types that files name have one to 255 dimensions.
use Rattle.std.proofs.Common.{◌≡◌, subst, refl, ℕ, zero, suc, ◌+◌, ◌<◌, true, false, Bool, List, [], ◌∷◌, ◌++◌, Option, Some, None, nat_lt, if◌then◌else◌, arith}
use Rattle.std.specs.Prelude.{option_and_then}
use Rattle.std.specs.List.{AllByRecursion, flat_map}
use Rattle.std.proofs.lemmas.Bool.Decides.{nat_tests}
use Rattle.jvm_base.specs.Words.{from}
use Rattle.jvm_base.specs.Descriptors.{desc_of, IsDesc}
use Rattle.jvm_base.specs.declared.desc.Desc.{Desc}
use Rattle.jvm_base.specs.declared.desc.Elem.{Elem}
use Rattle.jvm_base.specs.declared.desc.Elem.TheVariants.{Object}
use Rattle.jvm_base.specs.declared.pool.PoolItem.{PoolItem}
use Rattle.jvm_base.proofs.Descs.{desc_of_takes}
use Rattle.class_format.specs.declared.class.ClassFile.{ClassFile}
use Rattle.class_names.specs.Classes.{codes_of}
use Rattle.class_names.specs.Texts.{is_array, class_text}
use Rattle.code_table.specs.declared.code.Code.{Code}
use Rattle.code_table.specs.declared.code.Placed.{Placed}
use Rattle.code_table.specs.declared.op.Op.{Op}
use Rattle.code_table.specs.declared.op.Op.TheVariants as op
use Rattle.program_image.specs.Signatures.{same_desc}
use Rattle.numbering.specs.Seen.{is_seen, with_item}
use Rattle.link_arrays.specs.Seen.{with_items}
use Rattle.link_arrays.specs.Arrays.{array, kind_elem, deeper, array_named, array_over, op_array, levels, with_parts, op_types, code_types, file_types, strings, array_types}
use Rattle.link_image.proofs.ListLaws.{all_append, all_flat}
use Rattle.acceptance.proofs.LinkedLaws.{IsLevel}

-- a new item has what the others have
item_level : (items : List Desc) (x : Desc) → AllByRecursion IsLevel items → IsLevel x → AllByRecursion IsLevel (with_item same_desc items x)
item_level items x h l =
    elim (is_seen same_desc items x) as (λ b. AllByRecursion IsLevel (if b then items else items ++ x ∷ [])) [
      | true ↦ h
      | false ↦ all_append IsLevel items (x ∷ []) h (l, tt)
    ]

items_level : (items xs : List Desc) → AllByRecursion IsLevel items → AllByRecursion IsLevel xs → AllByRecursion IsLevel (with_items same_desc items xs)
items_level items [] h all = h
items_level items (x ∷ xs) h all = items_level (with_item same_desc items x) xs (item_level items x h (all.0)) (all.1)

-- the levels of a type
levels_level : (n : ℕ) (e : Elem) → n < 256 → AllByRecursion IsLevel (levels n e)
levels_level zero e l = tt
levels_level (suc n) e l = ((omega arith, l), levels_level n e (omega arith))

parts_level : (o : Option Desc) → ((d : Desc) → o ≡ Some d → d.dims < 256) → AllByRecursion IsLevel (from [] with_parts o)
parts_level None h = tt
parts_level (Some d) h = levels_level d.dims d.elem (h d refl)

-- ---- what an instruction names

named_level : (text : List ℕ) (d : Desc) → array_named text ≡ Some d → d.dims < 256
named_level text d e = by (is_array text) e
  where
    by : (b : Bool) → (if b then desc_of text else None) ≡ Some d → d.dims < 256
    by true h = let t : IsDesc d = (desc_of_takes text d h).0 in t.dims
    by false h = absurd cc

deeper_level : (x d : Desc) → deeper x ≡ Some d → d.dims < 256
deeper_level x d e = by (nat_lt x.dims 255) refl e
  where
    by : (b : Bool) → nat_lt x.dims 255 ≡ b → (if b then Some (array (x.dims + 1) x.elem) else None) ≡ Some d → d.dims < 256
    by true q h =
        let l : x.dims < 255 = grind (arith, nat_tests) in
        let s : array (x.dims + 1) x.elem ≡ d = cc in
        subst (λ (y : Desc). y.dims < 256) s (omega arith)
    by false q h = absurd cc

over_level : (text : List ℕ) (d : Desc) → array_over text ≡ Some d → d.dims < 256
over_level text d e = by (is_array text) e
  where
    found : (o : Option Desc) → option_and_then deeper o ≡ Some d → d.dims < 256
    found None h = absurd cc
    found (Some x) h = deeper_level x d h

    by : (b : Bool) → (if b then option_and_then deeper (desc_of text) else Some (array 1 (Object text))) ≡ Some d → d.dims < 256
    by true h = found (desc_of text) h
    by false h = let s : array 1 (Object text) ≡ d = cc in subst (λ (y : Desc). y.dims < 256) s (omega arith)

op_level : (pool : List PoolItem) (o : Op) (d : Desc) → op_array pool o ≡ Some d → d.dims < 256
op_level pool (op.NewArray k) d e = let s : array 1 (kind_elem k) ≡ d = cc in subst (λ (y : Desc). y.dims < 256) s (omega arith)
op_level pool (op.AnewArray i) d e = over_level (class_text pool i) d e
op_level pool (op.MultiNewArray i n) d e = named_level (class_text pool i) d e
op_level pool (op.Cast o i) d e = named_level (class_text pool i) d e
op_level pool _ d e = absurd cc

-- ---- what files name

code_level : (pool : List PoolItem) (code : Option Code) → AllByRecursion IsLevel (code_types pool code)
code_level pool code = all_flat IsLevel (λ (p : Placed). op_types pool p.op) (from [] (λ c. c.ops) code) (λ p. parts_level (op_array pool p.op) (op_level pool p.op))

file_level : (f : ClassFile) → AllByRecursion IsLevel (file_types f)
file_level f = all_flat IsLevel (code_types f.pool) (codes_of f) (code_level f.pool)

-- each array type
pub types_level : (files : List ClassFile) → AllByRecursion IsLevel (array_types files)
unfolding array_types
types_level files = items_level [] (strings ∷ flat_map file_types files) tt ((omega arith, omega arith), all_flat IsLevel file_types files file_level)
