-- The contents of a program's string literals, in order of first sight.
use Rattle.std.specs.Prelude.{ℕ, ◌+◌, List, [], ◌∷◌, ◌++◌, Option, Some, position, slice_get}
use Rattle.std.specs.List.{flat_map}
use Rattle.jvm_base.specs.declared.name.Name.{Name}
use Rattle.jvm_base.specs.declared.pool.PoolItem.{PoolItem}
use Rattle.jvm_base.specs.declared.pool.PoolItem.TheVariants.{Text}
use Rattle.jvm_base.specs.Names.{named}
use Rattle.jvm_base.specs.Words.{from}
use Rattle.class_format.specs.declared.class.ClassFile.{ClassFile}
use Rattle.class_format.specs.declared.class.FieldItem.{FieldItem}
use Rattle.code_table.specs.declared.code.Code.{Code}
use Rattle.code_table.specs.declared.op.Op.{Op}
use Rattle.code_table.specs.declared.op.Op.TheVariants.{Ldc}
use Rattle.class_names.specs.Classes.{codes_of}
use Rattle.class_names.specs.Known.{is_name}
use Rattle.class_names.specs.Texts.{text_in}
use Rattle.link_arrays.specs.Seen.{with_items}

-- ---- contents

-- the content of a String item
abbrev pub text_contents : List PoolItem → Option PoolItem → List (List ℕ)
text_contents pool (Some (Text text)) = text_in pool text ∷ []
text_contents pool _ = []

-- of the item at an index, if it's one
abbrev pub contents_at : List PoolItem → ℕ → List (List ℕ)
contents_at pool i = text_contents pool (slice_get pool i)

-- of what a field holds at first, if its file says so (JVMS2 4.7.2)
abbrev pub field_literals : List PoolItem → FieldItem → List (List ℕ)
field_literals pool f = from [] (contents_at pool) f.constant

-- of what an instruction loads
abbrev pub op_literals : List PoolItem → Op → List (List ℕ)
op_literals pool (Ldc item) = contents_at pool item
op_literals pool _ = []

-- of what some code loads, by address
abbrev pub code_literals : List PoolItem → Option Code → List (List ℕ)
code_literals pool code = flat_map (λ p. op_literals pool p.op) (from [] (λ c. c.ops) code)

-- of a file: those of its fields before those of its code
abbrev pub file_literals : ClassFile → List (List ℕ)
file_literals f =
    flat_map (field_literals f.pool) f.fields ++ flat_map (code_literals f.pool) (codes_of f)

-- ---- literals

-- contents once some more are seen
abbrev pub with_contents : List (List ℕ) → List (List ℕ) → List (List ℕ)
with_contents contents more = with_items is_name contents more

-- the contents of these files' literals, each where it's seen first
unfoldable pub literals : List ClassFile → List (List ℕ)
literals files = with_contents [] (flat_map file_literals files)

-- the number of the literal of a content
abbrev pub literal_number : List (List ℕ) → List ℕ → Option ℕ
literal_number contents text = position (is_name text) contents

-- the node of names that no step makes
abbrev pub premade_node : ℕ
premade_node = 255

-- the number of `java/lang/String` among the boot classes, which come first
abbrev pub string_class : ℕ
string_class = 2

-- the name of the String that is there for a literal: in a program of so many classes, arrays among
-- them, they stand behind the holders of the classes
abbrev pub literal_name : ℕ → ℕ → Name
literal_name classes k = named premade_node string_class (classes + k)
