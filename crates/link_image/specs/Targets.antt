-- What instructions and exception tables name, by the method's number and the address.
use Rattle.std.specs.Prelude.{ℕ, ◌+◌, ◌==◌, ◌||◌, List, ◌++◌, length, map, Option, None, option_map, option_and_then, slice_get, if◌then◌else◌}
use Rattle.std.specs.List.{flat_map}
use Rattle.std.specs.Option.{option_to_list}
use Rattle.jvm_base.specs.declared.code_item.TableItem.{TableItem}
use Rattle.jvm_base.specs.declared.desc.Desc.{Desc}
use Rattle.class_format.specs.declared.class.ClassFile.{ClassFile}
use Rattle.class_format.specs.declared.class.MethodItem.{MethodItem}
use Rattle.class_format.specs.Flags.{is_static}
use Rattle.code_table.specs.declared.code.Placed.{Placed}
use Rattle.code_table.specs.declared.op.Op.{Op}
use Rattle.code_table.specs.declared.op.Op.TheVariants as op
use Rattle.class_names.specs.Classes.{ops_of, table_of}
use Rattle.class_names.specs.Texts.{is_array, class_text, member_in}
use Rattle.link_rules.specs.Numbers.{numbered, number_of}
use Rattle.link_uses.specs.Lookups.{found_field, found_method}
use Rattle.link_uses.specs.declared.lookup.Found.{Found}
use Rattle.link_arrays.specs.ArrayClasses.{class_number}
use Rattle.program_image.specs.Places.{Placing}
use Rattle.program_image.specs.declared.info.ClassInfo.{ClassInfo}
use Rattle.program_image.specs.declared.info.FieldInfo.{FieldInfo}
use Rattle.program_image.specs.declared.info.Target.{Target}
use Rattle.program_image.specs.declared.info.Target.TheVariants.{Field, Method, Class, Constant}
use Rattle.link_image.specs.Classes.{class_infos}
use Rattle.link_image.specs.Constants.{constant_value}
use Rattle.link_image.specs.Methods.{first_method}

-- what names are looked up in: the declared classes, the array types, the literals, and all classes
-- as the image has them
pub record Known : Type 0 where
  pub all : List ClassFile
  pub arrays : List Desc
  pub literals : List (List ℕ)
  pub infos : List ClassInfo

-- all of it, from the first three
abbrev pub known : List ClassFile → List Desc → List (List ℕ) → Known
known all arrays literals = record { all = all; arrays = arrays; literals = literals; infos = class_infos all arrays literals }

-- ---- members and classes

-- the field that a class declares, by its place
abbrev pub field_target : Found → FieldInfo → Target
field_target x f = Field x.class f.place (is_static f.flags)

-- the field that was found
abbrev pub field_at : List ClassInfo → Found → Option Target
field_at infos x = option_map (field_target x) (option_and_then (λ c. slice_get c.fields x.place) (slice_get infos x.class))

-- the method that was found
abbrev pub method_at : List ClassInfo → Found → Option Target
method_at infos x = option_map Method (option_and_then (λ c. slice_get c.methods x.place) (slice_get infos x.class))

-- the class of a class item's text
abbrev pub class_of : Known → List ℕ → Option Target
class_of k text = option_map Class (class_number k.all k.arrays text)

-- the constant at an index
abbrev pub constant_of : Known → ClassFile → ℕ → Option Target
constant_of k f i = option_map Constant (constant_value (length k.all + length k.arrays) k.literals f.pool i)

-- ---- instructions

-- what an instruction of a class names
abbrev pub op_target : Known → ClassFile → Op → Option Target
op_target k f (op.Static op item desc) = option_and_then (field_at k.infos) (found_field k.all (member_in f.pool item))
op_target k f (op.Field op item desc) = option_and_then (field_at k.infos) (found_field k.all (member_in f.pool item))
op_target k f (op.Invoke op item desc) = option_and_then (method_at k.infos) (found_method k.all (member_in f.pool item))
op_target k f (op.New item) = class_of k (class_text f.pool item)
op_target k f (op.AnewArray item) = class_of k (class_text f.pool item)
op_target k f (op.Cast op item) = class_of k (class_text f.pool item)
op_target k f (op.MultiNewArray item dims) = class_of k (class_text f.pool item)
op_target k f (op.Ldc item) = constant_of k f item
op_target k f (op.Ldc2 item) = constant_of k f item
op_target k f _ = None

-- a target at an address of a method, if there is one
abbrev pub placing : ℕ → ℕ → Option Target → List Placing
placing m at target = map (λ t. (m, at, t)) (option_to_list target)

-- that of the instruction at its address
abbrev pub placed_target : Known → ClassFile → ℕ → Placed → List Placing
placed_target k f m p = placing m p.at (op_target k f p.op)

-- ---- exception tables

-- the class of an entry; no array is thrown
abbrev pub caught : Known → ClassFile → TableItem → Option Target
caught k f e = if e.class == 0 || is_array (class_text f.pool e.class) then None else option_map Class (number_of k.all (class_text f.pool e.class))

-- behind all code
abbrev pub entry_target : Known → ClassFile → ℕ → ℕ → TableItem → List Placing
entry_target k f m i e = placing m (65536 + i) (caught k f e)

-- ---- methods

-- what a method names, whose number is m
unfoldable pub method_targets : Known → ClassFile → ℕ → MethodItem → List Placing
method_targets k f m x =
    flat_map (placed_target k f m) (ops_of f.pool x) ++ numbered (entry_target k f m) 0 (table_of x)

-- what the methods of a class name, from a number on
unfoldable pub class_targets : Known → ℕ → ClassFile → List Placing
class_targets k first f = numbered (λ i x. method_targets k f (first + i) x) 0 f.methods

-- what all methods name
unfoldable pub all_targets : Known → List Placing
all_targets k = numbered (λ c f. class_targets k (first_method k.all c) f) 0 k.all
