-- The classes that a class file names, in the order of its bytes: its superclass, its interfaces,
-- then the classes in the descriptors of its fields, then method by method those in its descriptor,
-- in its instructions and in its exception table. An array class stands for the class of its
-- elements.
use Rattle.std.specs.Prelude.{ℕ, List, [], ◌∷◌, ◌++◌, ◌==◌, if◌then◌else◌}
use Rattle.std.specs.List.{flat_map}
use Rattle.std.specs.Option.{option_to_list}
use Rattle.jvm_base.specs.declared.code_item.TableItem.{TableItem}
use Rattle.jvm_base.specs.declared.desc.Desc.{Desc}
use Rattle.jvm_base.specs.declared.desc.Elem.{Elem}
use Rattle.jvm_base.specs.declared.desc.Elem.TheVariants.{Object}
use Rattle.jvm_base.specs.declared.desc.MethodDesc.{MethodDesc}
use Rattle.jvm_base.specs.declared.pool.PoolItem.{PoolItem}
use Rattle.jvm_base.specs.Descriptors.{desc_of, method_of}
use Rattle.jvm_base.specs.Words.{from}
use Rattle.class_format.specs.declared.class.ClassFile.{ClassFile}
use Rattle.class_format.specs.declared.class.FieldItem.{FieldItem}
use Rattle.class_format.specs.declared.class.MethodItem.{MethodItem}
use Rattle.code_table.specs.declared.op.Op.{Op}
use Rattle.code_table.specs.declared.op.Op.TheVariants.{Static, Field, Invoke, New, AnewArray, Cast, MultiNewArray}
use Rattle.class_names.specs.Texts.{is_array, text_in, class_text, member_in}
use Rattle.class_names.specs.Classes.{super_text, interface_texts, ops_of, table_of}

-- the class of an element type, if it is one
abbrev pub elem_names : Elem → List (List ℕ)
elem_names (Object name) = name ∷ []
elem_names _ = []

-- the class in a field's descriptor
abbrev pub desc_names : Desc → List (List ℕ)
desc_names d = elem_names d.elem

-- the classes in a method's descriptor: those of the parameters in order, then that of the result
abbrev pub method_desc_names : MethodDesc → List (List ℕ)
method_desc_names m = flat_map desc_names m.args ++ flat_map desc_names (option_to_list m.ret)

-- the class that a class item's text names
abbrev pub named_by : List ℕ → List (List ℕ)
named_by text = if is_array text then from [] desc_names (desc_of text) else text ∷ []

-- the class that the item at an index names
abbrev pub item_names : List PoolItem → ℕ → List (List ℕ)
item_names pool i = named_by (class_text pool i)

-- the classes that an instruction names: the item's class, then those in its descriptor
abbrev pub op_names : List PoolItem → Op → List (List ℕ)
op_names pool (Static op item desc) = named_by (member_in pool item).class ++ desc_names desc
op_names pool (Field op item desc) = named_by (member_in pool item).class ++ desc_names desc
op_names pool (Invoke op item desc) = named_by (member_in pool item).class ++ method_desc_names desc
op_names pool (New item) = item_names pool item
op_names pool (AnewArray item) = item_names pool item
op_names pool (Cast op item) = item_names pool item
op_names pool (MultiNewArray item dims) = item_names pool item
op_names pool _ = []

-- the class that an entry of an exception table names; 0 stands for any
abbrev pub entry_names : List PoolItem → TableItem → List (List ℕ)
entry_names pool e = if e.class == 0 then [] else item_names pool e.class

-- the class in the descriptor of a field
abbrev pub field_names : List PoolItem → FieldItem → List (List ℕ)
field_names pool f = from [] desc_names (desc_of (text_in pool f.desc))

-- the classes that a method names
abbrev pub method_names : List PoolItem → MethodItem → List (List ℕ)
method_names pool m =
    from [] method_desc_names (method_of (text_in pool m.desc))
    ++ (flat_map (λ p. op_names pool p.op) (ops_of pool m)
    ++ flat_map (entry_names pool) (table_of m))

-- the classes that a file names
unfoldable pub class_names : ClassFile → List (List ℕ)
class_names f =
    flat_map named_by (option_to_list (super_text f))
    ++ (flat_map named_by (interface_texts f)
    ++ (flat_map (field_names f.pool) f.fields
    ++ flat_map (method_names f.pool) f.methods))
