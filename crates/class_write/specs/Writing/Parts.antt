-- The bytes of the parts of a class file that has no attributes but constants and code, which have
-- names at these indices.
use Rattle.std.specs.Prelude.{ℕ, List, [], ◌++◌, Option, Some, None}
use Rattle.jvm_base.specs.declared.code_item.CodeItem.{CodeItem}
use Rattle.class_format.specs.declared.class.ClassFile.{ClassFile}
use Rattle.class_format.specs.declared.class.FieldItem.{FieldItem}
use Rattle.class_format.specs.declared.class.MethodItem.{MethodItem}
use Rattle.class_format.specs.Spelling.{magic_number, number2, number4, listed, item_bytes, attribute_bytes, code_bytes}

-- the attributes of a field, where ConstantValue stands at this index
abbrev pub constant_bytes : (name : ℕ) → Option ℕ → List ℕ
constant_bytes name None = number2 0
constant_bytes name (Some value) =
    number2 1 ++ attribute_bytes (record { name = name; contents = number2 value })

-- the attributes of a method, where Code stands at this index
abbrev pub method_code_bytes : (name : ℕ) → Option CodeItem → List ℕ
method_code_bytes name None = number2 0
method_code_bytes name (Some c) =
    number2 1 ++ attribute_bytes (record { name = name; contents = code_bytes c [] })

-- a field with them
abbrev pub field_bytes : (name : ℕ) → FieldItem → List ℕ
field_bytes name f =
    number2 f.flags ++ number2 f.name ++ number2 f.desc ++ constant_bytes name f.constant

-- a method with them
abbrev pub method_bytes : (name : ℕ) → MethodItem → List ℕ
method_bytes name m =
    number2 m.flags ++ number2 m.name ++ number2 m.desc ++ method_code_bytes name m.code

-- a class file with them
abbrev pub class_bytes : (constant_name code_name : ℕ) → ClassFile → List ℕ
class_bytes constant_name code_name c =
    number4 magic_number ++ number2 c.minor ++ number2 c.major ++ listed item_bytes c.pool
    ++ number2 c.flags ++ number2 c.this_class ++ number2 c.super_class
    ++ listed number2 c.interfaces
    ++ listed (field_bytes constant_name) c.fields ++ listed (method_bytes code_name) c.methods
    ++ number2 0
