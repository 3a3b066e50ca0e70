-- left-out-desc: floats and doubles in descriptors that are declared or that code uses.
use Rattle.std.specs.Prelude.{ℕ, Bool, true, false, ◌&&◌, ◌||◌, ◌==◌, List, [], ◌++◌, if◌then◌else◌}
use Rattle.std.specs.List.{flat_map, list_any}
use Rattle.std.specs.Option.{option_to_list}
use Rattle.jvm_base.specs.declared.code_item.TableItem.{TableItem}
use Rattle.jvm_base.specs.declared.desc.Desc.{Desc}
use Rattle.jvm_base.specs.declared.desc.Elem.{Elem}
use Rattle.jvm_base.specs.declared.desc.Elem.TheVariants.{Float, Double}
use Rattle.jvm_base.specs.declared.desc.MethodDesc.{MethodDesc}
use Rattle.jvm_base.specs.declared.pool.PoolItem.{PoolItem}
use Rattle.jvm_base.specs.Descriptors.{desc_of, method_of}
use Rattle.jvm_base.specs.Words.{from}
use Rattle.class_format.specs.declared.class.ClassFile.{ClassFile}
use Rattle.class_format.specs.declared.class.FieldItem.{FieldItem}
use Rattle.class_format.specs.declared.class.MethodItem.{MethodItem}
use Rattle.code_table.specs.declared.code.Placed.{Placed}
use Rattle.code_table.specs.declared.op.Op.{Op}
use Rattle.code_table.specs.declared.op.Op.TheVariants.{Static, Field as FieldOp, Invoke, New, AnewArray, Cast, MultiNewArray}
use Rattle.class_names.specs.Texts.{Member, is_array, text_in, class_text, member_in}
use Rattle.class_names.specs.Classes.{ops_of, table_of}
use Rattle.link_rules.specs.declared.error.LinkErr.{LinkErr}
use Rattle.link_rules.specs.declared.error.LinkWhy.TheVariants.{LeftOutDesc}
use Rattle.link_rules.specs.declared.left_out.LeftOut.{LeftOut}
use Rattle.link_rules.specs.Answers.{refused_if}
use Rattle.link_rules.specs.Marks.{AreTested}

-- a float or a double
abbrev pub is_left_out_elem : Elem → Bool
is_left_out_elem Float = true
is_left_out_elem Double = true
is_left_out_elem _ = false

-- one of them, or an array of them
abbrev pub is_left_out : Desc → Bool
is_left_out d = is_left_out_elem d.elem

-- among the parameters, or as the result
abbrev pub leaves_out : MethodDesc → Bool
leaves_out m = list_any is_left_out m.args || list_any is_left_out (option_to_list m.ret)

-- in a text that is a field's descriptor, and in one that is a method's
abbrev pub is_left_out_text : List ℕ → Bool
is_left_out_text text = from false is_left_out (desc_of text)

abbrev pub leaves_out_text : List ℕ → Bool
leaves_out_text text = from false leaves_out (method_of text)

-- a member as a refusal names it: its name followed by its descriptor
abbrev pub key_text : Member → List ℕ
key_text m = m.name ++ m.desc

-- an array class of floats or doubles
abbrev pub is_left_out_class : List ℕ → Bool
is_left_out_class text = is_array text && from false is_left_out (desc_of text)

abbrev pub left_out_class : ClassFile → List ℕ → List LinkErr
left_out_class f text = refused_if (is_left_out_class text) LeftOutDesc f text

-- the class of the item at an index
abbrev pub left_out_item : ClassFile → ℕ → List LinkErr
left_out_item f i = left_out_class f (class_text f.pool i)

-- a member that code uses: its class, then its own descriptor
abbrev pub left_out_member : ClassFile → Member → Bool → List LinkErr
left_out_member f m left_out = left_out_class f m.class ++ refused_if left_out LeftOutDesc f (key_text m)

abbrev pub left_out_op : ClassFile → Op → List LinkErr
left_out_op f (Static op item desc) = left_out_member f (member_in f.pool item) (is_left_out desc)
left_out_op f (FieldOp op item desc) = left_out_member f (member_in f.pool item) (is_left_out desc)
left_out_op f (Invoke op item desc) = left_out_member f (member_in f.pool item) (leaves_out desc)
left_out_op f (New item) = left_out_item f item
left_out_op f (AnewArray item) = left_out_item f item
left_out_op f (Cast op item) = left_out_item f item
left_out_op f (MultiNewArray item dims) = left_out_item f item
left_out_op f _ = []

-- an instruction at its address
abbrev pub left_out_placed : ClassFile → Placed → List LinkErr
left_out_placed f p = left_out_op f p.op

unfoldable pub left_out_entry : ClassFile → TableItem → List LinkErr
left_out_entry f e = if e.class == 0 then [] else left_out_item f e.class

-- a field that the file declares
unfoldable pub left_out_field : ClassFile → FieldItem → List LinkErr
left_out_field f x =
    refused_if (from false is_left_out (desc_of (text_in f.pool x.desc))) LeftOutDesc f (text_in f.pool x.name ++ text_in f.pool x.desc)

-- a method that it declares: its descriptor, its instructions, its exception table
unfoldable pub left_out_declared : ClassFile → MethodItem → List LinkErr
left_out_declared f m =
    refused_if (from false leaves_out (method_of (text_in f.pool m.desc))) LeftOutDesc f (text_in f.pool m.name ++ text_in f.pool m.desc)

abbrev pub left_out_body : ClassFile → MethodItem → List LinkErr
left_out_body f m = flat_map (left_out_placed f) (ops_of f.pool m) ++ flat_map (left_out_entry f) (table_of m)

unfoldable pub left_out_method : ClassFile → MethodItem → List LinkErr
left_out_method f m = left_out_declared f m ++ left_out_body f m

unfoldable pub left_out_desc : ClassFile → List LinkErr
left_out_desc f = flat_map (left_out_field f) f.fields ++ flat_map (left_out_method f) f.methods

-- the three tables of a pool: which texts leave a type out, as the text of a class item, as the
-- descriptor of a field, and as that of a method
pub record AreLeftOut (pool : List PoolItem) (told : LeftOut) : Type 0 where
  pub classes : AreTested is_left_out_class pool told.classes
  pub fields : AreTested is_left_out_text pool told.fields
  pub methods : AreTested leaves_out_text pool told.methods
