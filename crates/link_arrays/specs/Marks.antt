-- Which texts of a pool were read, and that what they name is there.
use Rattle.std.specs.Prelude.{◌≡◌, ℕ, Bool, true, false, List, [], length, Option, None, option_map, replicate, slice_get, slice_set}
use Rattle.std.specs.List.{list_all}
use Rattle.jvm_base.specs.declared.desc.Desc.{Desc}
use Rattle.jvm_base.specs.declared.pool.PoolItem.{PoolItem}
use Rattle.jvm_base.specs.Words.{from}
use Rattle.constant_pool.specs.Items.{class_at}
use Rattle.code_table.specs.declared.op.Op.{Op}
use Rattle.code_table.specs.declared.op.Op.TheVariants.{AnewArray, Cast, MultiNewArray}
use Rattle.class_names.specs.Known.{is_name}
use Rattle.class_names.specs.Texts.{text_in}
use Rattle.numbering.specs.Seen.{is_seen}
use Rattle.program_image.specs.Signatures.{same_desc}
use Rattle.link_arrays.specs.declared.marks.Key.{Key}
use Rattle.link_arrays.specs.declared.marks.Keys.{Keys}
use Rattle.link_arrays.specs.declared.marks.Naming.{Naming}
use Rattle.link_arrays.specs.declared.marks.Naming.TheVariants.{Itself, ArraysOf}
use Rattle.link_arrays.specs.Arrays.{array_named, array_over, with_parts}

-- the text at an index is marked
abbrev pub is_marked : List Bool → ℕ → Bool
is_marked marks t = from false (λ b. b) (slice_get marks t)

-- ---- keys

-- what an instruction names by the text of a class item
abbrev pub key_of : List PoolItem → Op → Option Key
key_of pool (AnewArray item) = option_map (λ t. record { naming = ArraysOf; text = t }) (class_at pool item)
key_of pool (MultiNewArray item dims) = option_map (λ t. record { naming = Itself; text = t }) (class_at pool item)
key_of pool (Cast op item) = option_map (λ t. record { naming = Itself; text = t }) (class_at pool item)
key_of pool _ = None

-- no key of a pool's texts
abbrev pub no_keys : List PoolItem → Keys
no_keys pool = record { itself = replicate (length pool) false; arrays_of = replicate (length pool) false }

-- the marks of the texts that name something in one way
abbrev pub marks_of : Keys → Naming → List Bool
marks_of keys Itself = keys.itself
marks_of keys ArraysOf = keys.arrays_of

-- a key is among them
abbrev pub has_key : Keys → Key → Bool
has_key keys key = is_marked (marks_of keys key.naming) key.text

-- they have one more
abbrev pub with_marked : Keys → Naming → ℕ → Keys
with_marked keys Itself t = record { itself = slice_set keys.itself t true; arrays_of = keys.arrays_of }
with_marked keys ArraysOf t = record { itself = keys.itself; arrays_of = slice_set keys.arrays_of t true }

abbrev pub with_key : Keys → Key → Keys
with_key keys key = with_marked keys key.naming key.text

-- the types that are named
abbrev pub types_by : Naming → List ℕ → List Desc
types_by Itself text = from [] with_parts (array_named text)
types_by ArraysOf text = from [] with_parts (array_over text)

abbrev pub key_types : List PoolItem → Key → List Desc
key_types pool key = types_by key.naming (text_in pool key.text)

-- ---- what is there

-- the types that the keys name are there
pub record AreAdded (pool : List PoolItem) (keys : Keys) (types : List Desc) : Type 0 where
  pub each : (key : Key) → has_key keys key ≡ true → list_all (is_seen same_desc types) (key_types pool key) ≡ true

-- the contents of the marked texts are there
pub record AreContents (pool : List PoolItem) (marks : List Bool) (contents : List (List ℕ)) : Type 0 where
  pub each : (t : ℕ) → is_marked marks t ≡ true → is_seen is_name contents (text_in pool t) ≡ true
