-- Names and descriptors of methods as numbers of texts.
use Rattle.std.specs.Prelude.{ℕ, Bool, false, ◌&&◌, nat_eq, List, [], ◌∷◌, Option, position, option_map, option_and_then}
use Rattle.std.specs.List.{flat_map}
use Rattle.std.specs.Option.{option_to_list}
use Rattle.jvm_base.specs.declared.pool.PoolItem.{PoolItem}
use Rattle.jvm_base.specs.Words.{from}
use Rattle.constant_pool.specs.Items.{text_of}
use Rattle.class_format.specs.declared.class.ClassFile.{ClassFile}
use Rattle.class_names.specs.Known.{is_name, add_names}

-- a name and a descriptor
abbrev pub Pair : Type 0
Pair = List ℕ × List ℕ

-- the numbers of both
abbrev pub Sign : Type 0
Sign = ℕ × ℕ

-- the text that an item is, and those of a file's pool
abbrev pub item_texts : PoolItem → List (List ℕ)
item_texts item = option_to_list (text_of item)

abbrev pub file_texts : ClassFile → List (List ℕ)
file_texts f = flat_map item_texts f.pool

-- the texts of some files and the empty one, each once: a text's number is its place
unfoldable pub text_names : List ClassFile → List (List ℕ)
text_names all = add_names [] ([] ∷ flat_map file_texts all)

-- the number of a text, where it was seen
abbrev pub name_number : List (List ℕ) → List ℕ → Option ℕ
name_number names text = position (is_name text) names

-- the number is there, and is that one
abbrev pub is_number : Option ℕ → ℕ → Bool
is_number number n = from false (λ k. nat_eq k n) number

-- both numbers, where there are both
abbrev pub signed : Option ℕ → Option ℕ → Option Sign
signed name desc = option_and_then (λ n. option_map (λ d. (n, d)) desc) name

-- the numbers of a name and of a descriptor, where both were seen
abbrev pub sign_of : List (List ℕ) → Pair → Option Sign
sign_of names s = signed (name_number names s.0) (name_number names s.1)

-- both signs are one
abbrev pub is_sign : Sign → Sign → Bool
is_sign a b = nat_eq a.0 b.0 && nat_eq a.1 b.1

-- there is a sign, and it is that one
abbrev pub is_signed : Option Sign → Sign → Bool
is_signed sign k = from false (λ a. is_sign a k) sign
