-- A class file by its names, and its decoded code.
use Rattle.std.specs.Prelude.{ℕ, List, [], ◌==◌, map, Option, Some, None, Result, Ok, Err, if◌then◌else◌, option_and_then}
use Rattle.jvm_base.specs.declared.code_item.TableItem.{TableItem}
use Rattle.jvm_base.specs.declared.pool.PoolItem.{PoolItem}
use Rattle.jvm_base.specs.Words.{from}
use Rattle.class_format.specs.declared.class.ClassFile.{ClassFile}
use Rattle.class_format.specs.declared.class.MethodItem.{MethodItem}
use Rattle.code_table.specs.declared.code.Code.{Code}
use Rattle.code_table.specs.declared.code.Placed.{Placed}
use Rattle.code_table.specs.Decoded.{decoded}
use Rattle.class_names.specs.Texts.{class_text}

-- the class's own name
abbrev pub this_name : ClassFile → List ℕ
this_name f = class_text f.pool f.this_class

-- the text of the superclass, if there is one
abbrev pub super_text : ClassFile → Option (List ℕ)
super_text f = if f.super_class == 0 then None else Some (class_text f.pool f.super_class)

-- the texts of the listed interfaces
abbrev pub interface_texts : ClassFile → List (List ℕ)
interface_texts f = map (class_text f.pool) f.interfaces

-- the value, where there is one
abbrev pub ok_of : {X E : Type 0} → Result X E → Option X
ok_of (Ok x) = Some x
ok_of (Err e) = None

-- the code of a method, if it has some that is decoded
abbrev pub code_of : List PoolItem → MethodItem → Option Code
code_of pool m = option_and_then (λ c. ok_of (decoded c pool)) m.code

-- the instructions of a method
abbrev pub ops_of : List PoolItem → MethodItem → List Placed
ops_of pool m = from [] (λ c. c.ops) (code_of pool m)

-- its exception table
abbrev pub table_of : MethodItem → List TableItem
table_of m = from [] (λ c. c.table) m.code

-- the code of each method of a file
abbrev pub codes_of : ClassFile → List (Option Code)
codes_of f = map (code_of f.pool) f.methods
