-- Classes by number: a class's number is its place among the boot classes and the files.
use Rattle.std.specs.Prelude.{ℕ, ◌+◌, List, [], ◌∷◌, ◌++◌, map, Option, position, slice_get, if◌then◌else◌}
use Rattle.std.specs.List.{filter_map, flat_map}
use Rattle.std.specs.Option.{option_to_list}
use Rattle.jvm_base.specs.Words.{from}
use Rattle.class_format.specs.declared.class.ClassFile.{ClassFile}
use Rattle.class_format.specs.declared.class.FieldItem.{FieldItem}
use Rattle.class_format.specs.declared.class.MethodItem.{MethodItem}
use Rattle.hierarchy.specs.Hierarchy.{row_of}
use Rattle.hierarchy.specs.Walks.{all_from}
use Rattle.class_names.specs.Known.{is_name}
use Rattle.class_names.specs.Texts.{is_array}
use Rattle.class_names.specs.Classes.{this_name, super_text, interface_texts}

-- what a function of its number makes of each item, the first having the number k
abbrev pub map_from : {A B : Type 0} → (ℕ → A → B) → ℕ → List A → List B
map_from g k [] = []
map_from g k (x ∷ xs) = g k x ∷ map_from g (k + 1) xs

-- the lists that a function of its number makes of each item, one behind the other
abbrev pub numbered : {A B : Type 0} → (ℕ → A → List B) → ℕ → List A → List B
numbered g k [] = []
numbered g k (x ∷ xs) = g k x ++ numbered g (k + 1) xs

-- the number of the class of a name
abbrev pub number_of : List ClassFile → List ℕ → Option ℕ
number_of all name = position (is_name name) (map this_name all)

-- the number of the class whose members a class item has: an array class has those of Object
abbrev pub holder_of : List ClassFile → List ℕ → ℕ
holder_of all text = if is_array text then 0 else from 0 (λ k. k) (number_of all text)

-- the name of the class of a number
abbrev pub name_at : List ClassFile → ℕ → List ℕ
name_at all k = from [] this_name (slice_get all k)

-- the flags of the class of a number
abbrev pub flags_at : List ClassFile → ℕ → ℕ
flags_at all k = from 0 (λ f. f.flags) (slice_get all k)

-- its fields, and its methods
abbrev pub fields_at : List ClassFile → ℕ → List FieldItem
fields_at all k = from [] (λ f. f.fields) (slice_get all k)

abbrev pub methods_at : List ClassFile → ℕ → List MethodItem
methods_at all k = from [] (λ f. f.methods) (slice_get all k)

-- the flags of the class of a name
abbrev pub flags_of : List ClassFile → List ℕ → ℕ
flags_of all name = from 0 (flags_at all) (number_of all name)

-- ---- what lies directly above a class

-- its superclass
abbrev pub super_row : List ClassFile → ClassFile → List ℕ
super_row all f = filter_map (number_of all) (option_to_list (super_text f))

-- its listed interfaces, in order
abbrev pub interface_row : List ClassFile → ClassFile → List ℕ
interface_row all f = filter_map (number_of all) (interface_texts f)

-- for each class its superclass, its interfaces, both
abbrev pub super_rows : List ClassFile → List (List ℕ)
super_rows all = map (super_row all) all

abbrev pub interface_rows : List ClassFile → List (List ℕ)
interface_rows all = map (interface_row all) all

abbrev pub above_rows : List ClassFile → List (List ℕ)
above_rows all = map (λ f. super_row all f ++ interface_row all f) all

-- the order in which fields are looked up: interfaces before the superclass (JVMS2 5.4.3.2)
abbrev pub field_rows : List ClassFile → List (List ℕ)
field_rows all = map (λ f. interface_row all f ++ super_row all f) all

-- ---- what lies above a class

-- its superclasses, nearest first
abbrev pub supers_of : List ClassFile → ℕ → List ℕ
supers_of all c = flat_map (all_from (super_rows all)) (row_of (super_rows all) c)

-- itself and its superclasses
abbrev pub lineage : List ClassFile → ℕ → List ℕ
lineage all c = all_from (super_rows all) c

-- the superinterfaces of a class and of its superclasses, class by class upwards: each listed
-- interface, followed by its own superinterfaces
abbrev pub interfaces_of : List ClassFile → ℕ → List ℕ
interfaces_of all c = flat_map (λ k. flat_map (all_from (interface_rows all)) (row_of (interface_rows all) k)) (lineage all c)
