-- no-class, place by place as the check goes; the rule itself is in Classes.
use Rattle.std.specs.Prelude.{ℕ, Bool, true, ◌&&◌, List, [], ◌++◌, ◌==◌, if◌then◌else◌}
use Rattle.std.specs.List.{flat_map, list_all}
use Rattle.std.specs.Option.{option_to_list}
use Rattle.jvm_base.specs.declared.code_item.TableItem.{TableItem}
use Rattle.jvm_base.specs.declared.desc.Desc.{Desc}
use Rattle.jvm_base.specs.declared.desc.MethodDesc.{MethodDesc}
use Rattle.jvm_base.specs.declared.pool.PoolItem.{PoolItem}
use Rattle.jvm_base.specs.Descriptors.{desc_of, method_of}
use Rattle.jvm_base.specs.Words.{from}
use Rattle.class_format.specs.declared.class.ClassFile.{ClassFile}
use Rattle.class_format.specs.declared.class.FieldItem.{FieldItem}
use Rattle.class_format.specs.declared.class.MethodItem.{MethodItem}
use Rattle.code_table.specs.declared.code.Placed.{Placed}
use Rattle.code_table.specs.declared.op.Op.{Op}
use Rattle.code_table.specs.declared.op.Op.TheVariants.{Static, Field, Invoke, New, AnewArray, Cast, MultiNewArray}
use Rattle.class_names.specs.Known.{is_known}
use Rattle.class_names.specs.Texts.{is_array, text_in, class_text, member_in}
use Rattle.class_names.specs.Classes.{ops_of, table_of, super_text}
use Rattle.class_names.specs.Named.{named_by, desc_names}
use Rattle.link_rules.specs.declared.error.LinkErr.{LinkErr}
use Rattle.link_rules.specs.declared.known.Known.{Known}
use Rattle.link_rules.specs.Marks.{AreTested}
use Rattle.link_rules.specs.Classes.{missing}

abbrev pub missing_text : List (List ℕ) → ClassFile → List ℕ → List LinkErr
missing_text names f text = flat_map (missing names f) (named_by text)

abbrev pub missing_item : List (List ℕ) → ClassFile → ℕ → List LinkErr
missing_item names f i = missing_text names f (class_text f.pool i)

abbrev pub missing_desc : List (List ℕ) → ClassFile → Desc → List LinkErr
missing_desc names f d = flat_map (missing names f) (desc_names d)

abbrev pub missing_method_desc : List (List ℕ) → ClassFile → MethodDesc → List LinkErr
missing_method_desc names f d = flat_map (missing_desc names f) d.args ++ flat_map (missing_desc names f) (option_to_list d.ret)

abbrev pub missing_op : List (List ℕ) → ClassFile → Op → List LinkErr
missing_op names f (Static op item d) = missing_text names f (member_in f.pool item).class ++ missing_desc names f d
missing_op names f (Field op item d) = missing_text names f (member_in f.pool item).class ++ missing_desc names f d
missing_op names f (Invoke op item d) = missing_text names f (member_in f.pool item).class ++ missing_method_desc names f d
missing_op names f (New item) = missing_item names f item
missing_op names f (AnewArray item) = missing_item names f item
missing_op names f (Cast op item) = missing_item names f item
missing_op names f (MultiNewArray item dims) = missing_item names f item
missing_op names f _ = []

abbrev pub missing_placed : List (List ℕ) → ClassFile → Placed → List LinkErr
missing_placed names f p = missing_op names f p.op

unfoldable pub missing_entry : List (List ℕ) → ClassFile → TableItem → List LinkErr
missing_entry names f e = if e.class == 0 then [] else missing_item names f e.class

abbrev pub missing_field : List (List ℕ) → ClassFile → FieldItem → List LinkErr
missing_field names f x = from [] (missing_desc names f) (desc_of (text_in f.pool x.desc))

abbrev pub missing_method : List (List ℕ) → ClassFile → MethodItem → List LinkErr
missing_method names f m =
    from [] (missing_method_desc names f) (method_of (text_in f.pool m.desc))
    ++ (flat_map (missing_placed names f) (ops_of f.pool m) ++ flat_map (missing_entry names f) (table_of m))

unfoldable pub missing_interface : List (List ℕ) → ClassFile → ℕ → List LinkErr
missing_interface names f i = missing_text names f (class_text f.pool i)

abbrev pub missing_above : List (List ℕ) → ClassFile → List LinkErr
missing_above names f = flat_map (missing_text names f) (option_to_list (super_text f)) ++ flat_map (missing_interface names f) f.interfaces

abbrev pub missing_members : List (List ℕ) → ClassFile → List LinkErr
missing_members names f = flat_map (missing_field names f) f.fields ++ flat_map (missing_method names f) f.methods

unfoldable pub missing_file : List (List ℕ) → ClassFile → List LinkErr
missing_file names f = missing_above names f ++ missing_members names f

-- ---- what a table tells of each text of a pool: whether no class that it names is missing

-- the class in a field's descriptor is there
abbrev pub knows_desc : List (List ℕ) → Desc → Bool
knows_desc names d = list_all (is_known names) (desc_names d)

-- those in a method's
abbrev pub knows_method : List (List ℕ) → MethodDesc → Bool
knows_method names m = list_all (knows_desc names) m.args && list_all (knows_desc names) (option_to_list m.ret)

-- in a text that is a field's descriptor, or a method's
unfoldable pub knows_field_text : List (List ℕ) → List ℕ → Bool
knows_field_text names text = from true (knows_desc names) (desc_of text)

unfoldable pub knows_method_text : List (List ℕ) → List ℕ → Bool
knows_method_text names text = from true (knows_method names) (method_of text)

-- the class that a class item's text names
unfoldable pub knows_class_text : List (List ℕ) → List ℕ → Bool
knows_class_text names text = if is_array text then knows_field_text names text else is_known names text

-- the three tables of a pool
pub record AreKnown (names : List (List ℕ)) (pool : List PoolItem) (known : Known) : Type 0 where
  pub classes : AreTested (knows_class_text names) pool known.classes
  pub fields : AreTested (knows_field_text names) pool known.fields
  pub methods : AreTested (knows_method_text names) pool known.methods
