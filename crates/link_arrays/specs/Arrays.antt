-- The array types that a program names, in order of first sight.
use Rattle.std.specs.Prelude.{ℕ, zero, suc, ◌+◌, ◌==◌, List, [], ◌∷◌, Option, Some, None, option_and_then, nat_lt, codes, if◌then◌else◌}
use Rattle.std.specs.List.{flat_map}
use Rattle.jvm_base.specs.declared.desc.Desc.{Desc}
use Rattle.jvm_base.specs.declared.desc.Elem.{Elem}
use Rattle.jvm_base.specs.declared.desc.Elem.TheVariants.{Byte, Char, Double, Float, Int, Long, Short, Boolean, Object}
use Rattle.jvm_base.specs.declared.pool.PoolItem.{PoolItem}
use Rattle.jvm_base.specs.Descriptors.{desc_of}
use Rattle.jvm_base.specs.Words.{from}
use Rattle.class_format.specs.declared.class.ClassFile.{ClassFile}
use Rattle.code_table.specs.declared.code.Code.{Code}
use Rattle.code_table.specs.declared.element_kind.TheConstants as kind
use Rattle.code_table.specs.declared.op.Op.{Op}
use Rattle.code_table.specs.declared.op.Op.TheVariants.{NewArray, AnewArray, Cast, MultiNewArray}
use Rattle.class_names.specs.Classes.{codes_of}
use Rattle.class_names.specs.Texts.{is_array, class_text}
use Rattle.program_image.specs.Signatures.{same_desc}
use Rattle.link_arrays.specs.Seen.{with_items}

-- ---- the array type that an instruction names

-- an element type under so many dimensions
abbrev pub array : ℕ → Elem → Desc
array dims elem = record { dims = dims; elem = elem }

-- the element type of a number at `newarray` (JVMS2 6, newarray)
abbrev pub kind_elem : ℕ → Elem
kind_elem n =
    if n == kind.T_BOOLEAN then Boolean
    else (if n == kind.T_CHAR then Char
    else (if n == kind.T_FLOAT then Float
    else (if n == kind.T_DOUBLE then Double
    else (if n == kind.T_BYTE then Byte
    else (if n == kind.T_SHORT then Short
    else (if n == kind.T_INT then Int
    else Long))))))

-- the arrays of a type; an array has at most 255 dimensions
abbrev pub deeper : Desc → Option Desc
deeper d = if nat_lt d.dims 255 then Some (array (d.dims + 1) d.elem) else None

-- the array type that a class item's text names, if it's one
abbrev pub array_named : List ℕ → Option Desc
array_named text = if is_array text then desc_of text else None

-- the arrays of the class that a class item's text names
abbrev pub array_over : List ℕ → Option Desc
array_over text = if is_array text then option_and_then deeper (desc_of text) else Some (array 1 (Object text))

-- the array type that an instruction makes, or asks an object for
abbrev pub op_array : List PoolItem → Op → Option Desc
op_array pool (NewArray number) = Some (array 1 (kind_elem number))
op_array pool (AnewArray item) = array_over (class_text pool item)
op_array pool (MultiNewArray item dims) = array_named (class_text pool item)
op_array pool (Cast op item) = array_named (class_text pool item)
op_array pool _ = None

-- ---- the array types of a program

-- an element type under so many dimensions, then under one less, down to one
abbrev pub levels : ℕ → Elem → List Desc
levels zero elem = []
levels (suc dims) elem = array (suc dims) elem ∷ levels dims elem

-- an array type, and its parts that are arrays
abbrev pub with_parts : Desc → List Desc
with_parts d = levels d.dims d.elem

-- those that an instruction names
abbrev pub op_types : List PoolItem → Op → List Desc
op_types pool op = from [] with_parts (op_array pool op)

-- those that some code names, by address
abbrev pub code_types : List PoolItem → Option Code → List Desc
code_types pool code = flat_map (λ p. op_types pool p.op) (from [] (λ c. c.ops) code)

-- those that the methods of a file name
abbrev pub file_types : ClassFile → List Desc
file_types f = flat_map (code_types f.pool) (codes_of f)

-- the type of what `main` is given
abbrev pub strings : Desc
strings = array 1 (Object (codes "java/lang/String"))

-- types once some more are seen
abbrev pub with_types : List Desc → List Desc → List Desc
with_types types more = with_items same_desc types more

-- the array types of a program of these files, each where it's seen first. What the boot classes'
-- code names isn't asked for: it names none
unfoldable pub array_types : List ClassFile → List Desc
array_types files = with_types [] (strings ∷ flat_map file_types files)
