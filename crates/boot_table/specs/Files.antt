-- The class file of a row: where its names stand in the pool, and its code as bytes (JVMS2 4, 6).
-- Each part adds the items that it needs at the pool's end, and names them by their indices.
use Rattle.std.specs.Prelude.{ℕ, ◌+◌, List, [], ◌∷◌, ◌++◌, length, map, Option, Some, None, codes}
use Rattle.jvm_base.specs.declared.code_item.CodeItem.{CodeItem}
use Rattle.jvm_base.specs.declared.pool.PoolItem.{PoolItem}
use Rattle.jvm_base.specs.declared.pool.PoolItem.TheVariants.{Gap, Utf8, Class, Field as FieldOf, Method as MethodOf, InterfaceMethod, NameAndKind}
use Rattle.class_format.specs.declared.class.ClassFile.{ClassFile}
use Rattle.class_format.specs.declared.class.FieldItem.{FieldItem}
use Rattle.class_format.specs.declared.class.MethodItem.{MethodItem}
use Rattle.class_format.specs.Spelling.{number2}
use Rattle.code_table.specs.declared.opcode.TheConstants as op
use Rattle.boot_table.specs.Rows.{Row, Field, Method, Code, Member, Instruction}
use Rattle.boot_table.specs.Rows.Instruction.{Aload0, Aload1, Areturn, Return, Getfield, Putfield, Invokespecial, Invokeinterface, Ifnull}
use Rattle.boot_table.specs.Table.{boot_rows}

-- ---- classes

-- a class behind its name
abbrev pub with_class : List PoolItem → List ℕ → List PoolItem
with_class pool name = pool ++ Utf8 name ∷ Class (length pool) ∷ []

-- some classes
abbrev pub with_classes : List PoolItem → List (List ℕ) → List PoolItem
with_classes pool [] = pool
with_classes pool (name ∷ names) = with_classes (with_class pool name) names

-- the indices of those classes
abbrev pub class_indices : List PoolItem → List (List ℕ) → List ℕ
class_indices pool [] = []
class_indices pool (name ∷ names) = (length pool + 1) ∷ class_indices (with_class pool name) names

-- the superclass, if there is one
abbrev pub with_super : List PoolItem → Option (List ℕ) → List PoolItem
with_super pool None = pool
with_super pool (Some name) = with_class pool name

-- its index, or 0
abbrev pub super_index : List PoolItem → Option (List ℕ) → ℕ
super_index pool None = 0
super_index pool (Some name) = length pool + 1

-- ---- members

-- a name and a descriptor
abbrev pub with_key : List PoolItem → List ℕ → List ℕ → List PoolItem
with_key pool name desc = pool ++ Utf8 name ∷ Utf8 desc ∷ []

-- what a member that code names needs in front of its own item
abbrev pub with_reference : List PoolItem → Member → List PoolItem
with_reference pool m =
    with_key (with_class pool m.class) m.name m.desc
    ++ NameAndKind (length pool + 2) (length pool + 3) ∷ []

-- such a member behind it, an item of a class and a pair
abbrev pub with_member : (ℕ → ℕ → PoolItem) → List PoolItem → Member → List PoolItem
with_member item pool m = with_reference pool m ++ item (length pool + 1) (length pool + 4) ∷ []

-- ---- code

-- what an instruction names
abbrev pub with_op : List PoolItem → Instruction → List PoolItem
with_op pool (Getfield m) = with_member FieldOf pool m
with_op pool (Putfield m) = with_member FieldOf pool m
with_op pool (Invokespecial m) = with_member MethodOf pool m
with_op pool (Invokeinterface m) = with_member InterfaceMethod pool m
with_op pool _ = pool

-- an instruction's bytes, where what it names is added at the pool's end. A method that
-- invokeinterface calls has a receiver and no parameters
abbrev pub op_bytes : List PoolItem → Instruction → List ℕ
op_bytes pool Aload0 = op.ALOAD_0 ∷ []
op_bytes pool Aload1 = op.ALOAD_1 ∷ []
op_bytes pool Areturn = op.ARETURN ∷ []
op_bytes pool Return = op.RETURN ∷ []
op_bytes pool (Getfield m) = op.GETFIELD ∷ number2 (length pool + 5)
op_bytes pool (Putfield m) = op.PUTFIELD ∷ number2 (length pool + 5)
op_bytes pool (Invokespecial m) = op.INVOKESPECIAL ∷ number2 (length pool + 5)
op_bytes pool (Invokeinterface m) = op.INVOKEINTERFACE ∷ number2 (length pool + 5) ++ 1 ∷ 0 ∷ []
op_bytes pool (Ifnull n) = op.IFNULL ∷ number2 n

-- what some instructions name, one behind the other
abbrev pub with_ops : List PoolItem → List Instruction → List PoolItem
with_ops pool [] = pool
with_ops pool (i ∷ is) = with_ops (with_op pool i) is

-- their bytes
abbrev pub ops_bytes : List PoolItem → List Instruction → List ℕ
ops_bytes pool [] = []
ops_bytes pool (i ∷ is) = op_bytes pool i ++ ops_bytes (with_op pool i) is

-- what a method's code names
abbrev pub with_code : List PoolItem → Option Code → List PoolItem
with_code pool None = pool
with_code pool (Some c) = with_ops pool c.ops

-- the code itself, if there is some
abbrev pub code_item : List PoolItem → Option Code → Option CodeItem
code_item pool None = None
code_item pool (Some c) = Some (record {
  max_stack = c.max_stack;
  max_locals = c.max_locals;
  code = ops_bytes pool c.ops;
  table = [];
})

-- ---- fields and methods

-- the names and descriptors of some fields
abbrev pub with_fields : List PoolItem → List Field → List PoolItem
with_fields pool [] = pool
with_fields pool (f ∷ fields) = with_fields (with_key pool f.name f.desc) fields

-- a field whose name and descriptor are added at the pool's end
abbrev pub field_item : List PoolItem → Field → FieldItem
field_item pool f = record { flags = f.flags; name = length pool; desc = length pool + 1; constant = None }

-- some fields
abbrev pub field_items : List PoolItem → List Field → List FieldItem
field_items pool [] = []
field_items pool (f ∷ fields) = field_item pool f ∷ field_items (with_key pool f.name f.desc) fields

-- a method's name and descriptor, and what its code names
abbrev pub with_method : List PoolItem → Method → List PoolItem
with_method pool m = with_code (with_key pool m.name m.desc) m.code

-- the same of some methods
abbrev pub with_methods : List PoolItem → List Method → List PoolItem
with_methods pool [] = pool
with_methods pool (m ∷ methods) = with_methods (with_method pool m) methods

-- a method whose parts are added at the pool's end
abbrev pub method_item : List PoolItem → Method → MethodItem
method_item pool m = record {
  flags = m.flags;
  name = length pool;
  desc = length pool + 1;
  code = code_item (with_key pool m.name m.desc) m.code;
}

-- some methods
abbrev pub method_items : List PoolItem → List Method → List MethodItem
method_items pool [] = []
method_items pool (m ∷ methods) = method_item pool m ∷ method_items (with_method pool m) methods

-- ---- the file

-- item 2 is the class itself, and item 3 names the attribute of code
abbrev pub head : List ℕ → List PoolItem
head name = Gap ∷ Utf8 name ∷ Class 1 ∷ Utf8 (codes "Code") ∷ []

-- the pool with the superclass
abbrev pub above_pool : Row → List PoolItem
above_pool row = with_super (head row.name) row.super_class

-- with the interfaces behind it
abbrev pub interfaces_pool : Row → List PoolItem
interfaces_pool row = with_classes (above_pool row) row.interfaces

-- with the fields behind these
abbrev pub fields_pool : Row → List PoolItem
fields_pool row = with_fields (interfaces_pool row) row.fields

-- a class file of version 46.0
abbrev pub file_of : Row → ClassFile
file_of row = record {
  minor = 0;
  major = 46;
  pool = with_methods (fields_pool row) row.methods;
  flags = row.flags;
  this_class = 2;
  super_class = super_index (head row.name) row.super_class;
  interfaces = class_indices (above_pool row) row.interfaces;
  fields = field_items (interfaces_pool row) row.fields;
  methods = method_items (fields_pool row) row.methods;
}

-- the class files of the boot classes, each at its number
unfoldable pub boot_files : List ClassFile
boot_files = map file_of boot_rows
