-- The members that the classes of a program declare, by class and by the numbers of texts.
use Rattle.std.specs.Prelude.{◌≡◌, ℕ, Bool, true, ◌&&◌, nat_eq, List, [], ◌∷◌, ◌++◌, map, Option, position, slice_get, option_map, option_and_then, if◌then◌else◌}
use Rattle.std.specs.List.{flat_map, AllByRecursion}
use Rattle.std.specs.declared.cmp.Ordering.{Ordering}
use Rattle.std.specs.Ordering.{ordering_then, nat_cmp}
use Rattle.jvm_base.specs.Maps.{find}
use Rattle.jvm_base.specs.Words.{from}
use Rattle.hierarchy.specs.Hierarchy.{row_of}
use Rattle.hierarchy.specs.Walks.{first_some, or_else}
use Rattle.class_format.specs.declared.class.ClassFile.{ClassFile}
use Rattle.class_format.specs.declared.class.FieldItem.{FieldItem}
use Rattle.class_format.specs.declared.class.MethodItem.{MethodItem}
use Rattle.class_format.specs.declared.member_kind.MemberKind.{MemberKind}
use Rattle.class_format.specs.declared.member_kind.MemberKind.TheVariants.{Field, Method}
use Rattle.class_format.specs.Flags.{is_interface}
use Rattle.class_names.specs.Known.{is_known, add_names}
use Rattle.class_names.specs.Texts.{Member, text_in}
use Rattle.link_rules.specs.Numbers.{flags_at}
use Rattle.link_members.specs.Signs.{Sign, name_number, is_number, signed}
use Rattle.link_uses.specs.declared.lookup.Found.{Found}
use Rattle.link_uses.specs.declared.owned.Owned.{Owned}

-- a name and a descriptor
abbrev pub Signature : Type 0
Signature = List ℕ × List ℕ

-- a class and a sign
abbrev pub Key : Type 0
Key = ℕ × Sign

-- by the class, then by the number of the name, then by that of the descriptor
abbrev pub key_cmp : Key → Key → Ordering
key_cmp a b = ordering_then (nat_cmp a.0 b.0) (ordering_then (nat_cmp a.1.0 b.1.0) (nat_cmp a.1.1 b.1.1))

-- the place of the member of a key
abbrev pub place_at : List (Key × ℕ) → Key → Option ℕ
place_at entries key = find key_cmp key entries

-- of a field, and of a method, that a class declares
abbrev pub field_signature : ClassFile → FieldItem → Signature
field_signature g x = (text_in g.pool x.name, text_in g.pool x.desc)

abbrev pub method_signature : ClassFile → MethodItem → Signature
method_signature g x = (text_in g.pool x.name, text_in g.pool x.desc)

-- those of its fields, or of its methods
abbrev pub signatures : MemberKind → ClassFile → List Signature
signatures Field g = map (field_signature g) g.fields
signatures Method g = map (method_signature g) g.methods

-- those of the class of a number
abbrev pub signatures_at : List ClassFile → MemberKind → ℕ → List Signature
signatures_at all kind k = from [] (signatures kind) (slice_get all k)

-- the texts of a member, of a class's members of a kind, and of all its members
abbrev pub signature_texts : Signature → List (List ℕ)
signature_texts s = s.0 ∷ s.1 ∷ []

abbrev pub member_texts : MemberKind → ClassFile → List (List ℕ)
member_texts Field g = flat_map (λ x. signature_texts (field_signature g x)) g.fields
member_texts Method g = flat_map (λ x. signature_texts (method_signature g x)) g.methods

abbrev pub class_texts : ClassFile → List (List ℕ)
class_texts g = member_texts Field g ++ member_texts Method g

-- the texts of all members, each once: a text's number is its place
unfoldable pub member_names : List ClassFile → List (List ℕ)
member_names all = add_names [] (flat_map class_texts all)

-- the text has the number
abbrev pub has_number : List (List ℕ) → List ℕ → ℕ → Bool
has_number names text n = is_number (name_number names text) n

-- name and descriptor have the numbers
abbrev pub has_sign : List (List ℕ) → Sign → Signature → Bool
has_sign names sign s = has_number names s.0 sign.0 && has_number names s.1 sign.1

-- the member of a class has the key
abbrev pub has_key : List (List ℕ) → ℕ → Key → Signature → Bool
has_key names class key s = nat_eq class key.0 && has_sign names key.1 s

-- the numbers of a member's name and descriptor, where both were seen
abbrev pub sign_of : List (List ℕ) → Member → Option Sign
sign_of names m = signed (name_number names m.name) (name_number names m.desc)

-- name and descriptor were seen
abbrev pub AreSeen : List (List ℕ) → List Signature → Type 0
AreSeen names ss = AllByRecursion (λ s. (is_known names s.0 ≡ true) × (is_known names s.1 ≡ true)) ss

-- each class's first member of each sign
pub record ArePlaces (all : List ClassFile) (names : List (List ℕ)) (kind : MemberKind) (entries : List (Key × ℕ)) : Type 0 where
  pub each : (key : Key) → place_at entries key ≡ position (has_sign names key.1) (signatures_at all kind key.0)

-- what is kept of a program's members is right
pub record IsOwned (all : List ClassFile) (owned : Owned) : Type 0 where
  pub names : owned.names ≡ member_names all
  pub seen : (kind : MemberKind) (k : ℕ) → AreSeen owned.names (signatures_at all kind k)
  pub fields : ArePlaces all owned.names Field owned.fields.entries
  pub methods : ArePlaces all owned.names Method owned.methods.entries

-- the member of a class and a sign
unfoldable pub found_at : List (Key × ℕ) → Sign → ℕ → Option Found
found_at entries sign k = option_map (λ i. record { class = k; place = i }) (place_at entries (k, sign))

-- ---- the first member of a sign along the walks that tables have from a class on

-- a field: along the walk over what lies above, interfaces before the superclass
abbrev pub signed_field : List (Key × ℕ) → List (List ℕ) → Option Sign → ℕ → Option Found
signed_field entries fields sign c = option_and_then (λ s. first_some (found_at entries s) (row_of fields c)) sign

-- a method of a class: along its superclasses, then along the interfaces of them all
abbrev pub signed_class_method : List (Key × ℕ) → List (List ℕ) → List (List ℕ) → Option Sign → ℕ → Option Found
signed_class_method entries supers met sign c =
    option_and_then (λ s. or_else (first_some (found_at entries s) (row_of supers c)) (first_some (found_at entries s) (row_of met c))) sign

-- a method of an interface: along its superinterfaces, then in Object
abbrev pub signed_interface_method : List (Key × ℕ) → List (List ℕ) → Option Sign → ℕ → Option Found
signed_interface_method entries interfaces sign c =
    option_and_then (λ s. or_else (first_some (found_at entries s) (row_of interfaces c)) (found_at entries s 0)) sign

-- a method of a class or an interface
abbrev pub signed_method : List ClassFile → List (Key × ℕ) → List (List ℕ) → List (List ℕ) → List (List ℕ) → Option Sign → ℕ → Option Found
signed_method all entries supers interfaces met sign c =
    if is_interface (flags_at all c) then signed_interface_method entries interfaces sign c else signed_class_method entries supers met sign c
