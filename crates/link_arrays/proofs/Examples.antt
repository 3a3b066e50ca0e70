-- The numbering on a small program.
use Rattle.std.proofs.Common.{◌≡◌, ℕ, List, [], ◌∷◌, ◌++◌, map, Option, Some, None, refl}
use Rattle.std.specs.Prelude.{codes}
use Rattle.std.specs.List.{flat_map}
use Rattle.jvm_base.specs.declared.desc.Desc.{Desc}
use Rattle.jvm_base.specs.declared.pool.PoolItem.{PoolItem}
use Rattle.jvm_base.specs.declared.pool.PoolItem.TheVariants as item
use Rattle.jvm_base.specs.Descriptors.{desc_of, desc_at, elem_at, desc_text}
use Rattle.class_format.specs.declared.class.ClassFile.{ClassFile}
use Rattle.class_format.specs.declared.class.FieldItem.{FieldItem}
use Rattle.class_format.specs.declared.class.MethodItem.{MethodItem}
use Rattle.code_table.specs.declared.code.Code.{Code}
use Rattle.code_table.specs.declared.op.Op.{Op}
use Rattle.code_table.specs.declared.op.Op.TheVariants.{NewArray, AnewArray, Cast, MultiNewArray, Ldc}
use Rattle.code_table.specs.Decoded.{decoded}
use Rattle.code_table.specs.Instructions.{sized_at, instruction_at}
use Rattle.code_table.specs.Sequences.{instructions_from, instructions_of}
use Rattle.code_table.specs.Table.{table, form_at}
use Rattle.code_table.specs.Targets.{is_start, leads_off, is_bad_entry}
use Rattle.link_arrays.specs.Arrays.{strings, code_types, with_types, array_types}
use Rattle.link_arrays.specs.ArrayClasses.{class_number, array_info}
use Rattle.link_arrays.specs.Literals.{field_literals, code_literals, with_contents, literals}

-- ---- the program

-- a class of a name and nothing else
class : List ℕ → ClassFile
class name = record { minor = 3; major = 45; pool = item.Gap ∷ item.Utf8 name ∷ item.Class 1 ∷ []; flags = 1; this_class = 2; super_class = 0; interfaces = []; fields = []; methods = [] }

-- three classes, whose numbers are 0 to 2
pub declared : List ClassFile
declared = class (codes "java/lang/Object") ∷ class (codes "java/lang/String") ∷ class (codes "p/A") ∷ []

pool : List PoolItem
pool =
    item.Gap
    ∷ item.Utf8 (codes "[[I") ∷ item.Class 1
    ∷ item.Utf8 (codes "[[Lp/A;") ∷ item.Class 3
    ∷ item.Utf8 (codes "p/A") ∷ item.Class 5
    ∷ item.Utf8 (codes "[Lp/A;") ∷ item.Class 7
    ∷ item.Utf8 (codes "red") ∷ item.Text 9
    ∷ item.Utf8 (codes "blue") ∷ item.Text 11
    ∷ []

-- instructions, whose addresses don't matter here
code : List Op → Option Code
code ops = Some (record { max_stack = 1; max_locals = 1; ops = map (λ op. record { at = 0; next = 0; op = op }) ops; table = [] })

-- an array of int; one of arrays of arrays of int; a cast to arrays of arrays of A; an array of A; one
-- by its own class; an array of boolean; a cast to A
arrays : Option Code
arrays = code (NewArray 10 ∷ AnewArray 2 ∷ Cast 192 4 ∷ AnewArray 6 ∷ MultiNewArray 8 1 ∷ NewArray 4 ∷ Cast 193 6 ∷ [])

pub types : List Desc
types = with_types [] (strings ∷ code_types pool arrays)

-- a field that holds "blue", and one of no constant; then code that loads "red" and "blue"
field : Option ℕ → FieldItem
field constant = record { flags = 8; name = 0; desc = 0; constant = constant }

pub contents : List (List ℕ)
contents = with_contents [] (flat_map (field_literals pool) (field (Some 12) ∷ field None ∷ []) ++ code_literals pool (code (Ldc 10 ∷ Ldc 12 ∷ [])))

-- ---- what follows

-- each array is followed by its parts that are new
pub types_in_order : map desc_text types ≡ codes "[Ljava/lang/String;" ∷ codes "[I" ∷ codes "[[[I" ∷ codes "[[I" ∷ codes "[[Lp/A;" ∷ codes "[Lp/A;" ∷ codes "[Z" ∷ []
unfolding types arrays code pool desc_of desc_at elem_at
types_in_order = refl

-- the part of an array of arrays is an array class, and that of one of objects a declared one
pub parts_by_number : map (λ d. (array_info declared types d).part) types ≡ Some 1 ∷ None ∷ Some 6 ∷ Some 4 ∷ Some 8 ∷ Some 2 ∷ None ∷ []
unfolding types arrays code pool declared class desc_of desc_at elem_at
parts_by_number = refl

-- numbers of classes by their texts
pub classes_by_text : map (class_number declared types) (codes "p/A" ∷ codes "[Lp/A;" ∷ codes "[[[I" ∷ codes "[J" ∷ codes "p/B" ∷ []) ≡ Some 2 ∷ Some 8 ∷ Some 5 ∷ None ∷ None ∷ []
unfolding types arrays code pool declared class desc_of desc_at elem_at
classes_by_text = refl

-- constants of fields come before those of code, each once
pub literals_in_order : contents ≡ codes "blue" ∷ codes "red" ∷ []
unfolding contents code pool field
literals_in_order = refl

-- ---- the same from bytes: a file whose method makes an array of short and one of arrays of A, and
-- loads "red"

method : MethodItem
method = record {
  flags = 8;
  name = 0;
  desc = 0;
  code = Some (record {
    max_stack = 1;
    max_locals = 0;
    code = 4 ∷ 188 ∷ 9 ∷ 87 ∷ 4 ∷ 189 ∷ 0 ∷ 8 ∷ 87 ∷ 18 ∷ 10 ∷ 87 ∷ 177 ∷ [];
    table = [];
  });
}

pub file : ClassFile
file = record { minor = 3; major = 45; pool = pool; flags = 1; this_class = 6; super_class = 0; interfaces = []; fields = field (Some 12) ∷ []; methods = method ∷ [] }

pub types_of_file : map desc_text (array_types (file ∷ [])) ≡ codes "[Ljava/lang/String;" ∷ codes "[S" ∷ codes "[[Lp/A;" ∷ codes "[Lp/A;" ∷ []
unfolding file method field pool array_types decoded sized_at instruction_at instructions_from instructions_of table form_at is_start leads_off is_bad_entry desc_of desc_at elem_at
types_of_file = refl

pub literals_of_file : literals (file ∷ []) ≡ codes "blue" ∷ codes "red" ∷ []
unfolding file method field pool literals decoded sized_at instruction_at instructions_from instructions_of table form_at is_start leads_off is_bad_entry desc_of desc_at elem_at
literals_of_file = refl
