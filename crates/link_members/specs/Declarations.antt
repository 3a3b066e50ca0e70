-- The methods of all classes by name and descriptor, and superclasses by package, as the check of
-- overriding keeps them.
use Rattle.std.specs.Prelude.{◌==◌, ◌≡◌, ◌<◌, ℕ, Bool, false, ◌&&◌, ◌||◌, not, List, [], ◌∷◌, ◌++◌, length, Option, Some, None, slice_index_or, if◌then◌else◌}
use Rattle.std.specs.List.{flat_map, list_any}
use Rattle.std.specs.Map.{lookup}
use Rattle.jvm_base.specs.Words.{from}
use Rattle.class_format.specs.declared.class.ClassFile.{ClassFile}
use Rattle.class_format.specs.declared.class.MethodItem.{MethodItem}
use Rattle.class_format.specs.Flags.{is_public, is_private, is_protected}
use Rattle.class_names.specs.Known.{is_name}
use Rattle.class_names.specs.Classes.{this_name}
use Rattle.hierarchy.specs.Walks.{has}
use Rattle.link_rules.specs.declared.error.LinkErr.{LinkErr}
use Rattle.link_rules.specs.declared.error.LinkWhy.TheVariants.{BadOverride}
use Rattle.link_rules.specs.Answers.{refused_if}
use Rattle.link_rules.specs.Members.{method_name, method_desc, is_unlike, is_initialiser}
use Rattle.link_rules.specs.Numbers.{name_at, numbered, supers_of}
use Rattle.link_rules.specs.Packages.{is_one_package}
use Rattle.link_members.specs.declared.declarations.Declared.{Declared}
use Rattle.link_members.specs.Signs.{Pair, Sign, sign_of, is_sign, is_signed}

-- those of a method
abbrev pub signature_of : ClassFile → MethodItem → Pair
signature_of g m = (method_name g m, method_desc g m)

-- both are one
abbrev pub is_signature : Pair → Pair → Bool
is_signature a b = is_name a.0 b.0 && is_name a.1 b.1

-- methods by the numbers of their signatures
abbrev pub Table : Type 0
Table = List (Sign × List Declared)

-- those of a sign, and those of a signature
abbrev pub methods_at : Table → Sign → List Declared
methods_at table k = from [] (λ methods. methods) (lookup (is_sign k) table)

abbrev pub declared_at : List (List ℕ) → Table → Pair → List Declared
declared_at names table s = from [] (methods_at table) (sign_of names s)

-- a method of the class of a number, where it has the signature
abbrev pub declared_one : Pair → ℕ → ClassFile → MethodItem → List Declared
declared_one s k g m =
    if is_signature (signature_of g m) s then record { class = k; flags = m.flags } ∷ [] else []

-- the methods of a signature that a class declares
abbrev pub declared_in : Pair → ℕ → ClassFile → List Declared
declared_in s k g = flat_map (declared_one s k g) g.methods

-- a table has the methods of all classes
abbrev pub AreDeclared : List ClassFile → List (List ℕ) → Table → Type 0
AreDeclared all names table =
    (s : Pair) → declared_at names table s ≡ numbered (declared_in s) 0 all

-- a method, where it has the sign
abbrev pub signed_if : Option Sign → Declared → Sign → List Declared
signed_if own m k = if is_signed own k then m ∷ [] else []

-- a method of the class of a number, likewise
abbrev pub signed_one : List (List ℕ) → Sign → ℕ → ClassFile → MethodItem → List Declared
signed_one names k c g m =
    signed_if (sign_of names (signature_of g m)) (record { class = c; flags = m.flags }) k

-- the methods of a sign that a class declares
abbrev pub signed_in : List (List ℕ) → Sign → ℕ → ClassFile → List Declared
signed_in names k c g = flat_map (signed_one names k c g) g.methods

-- a table has for each sign some methods more
abbrev pub Gains : Table → Table → (Sign → List Declared) → Type 0
Gains old new more = (k : Sign) → methods_at new k ≡ methods_at old k ++ more k

-- a table has these methods at a sign, and what was there at the others
abbrev pub IsPut : Table → Table → Sign → List Declared → Type 0
IsPut old new key methods =
    (k : Sign) → methods_at new k ≡ (if is_sign key k then methods else methods_at old k)

-- what a table has for a class
abbrev pub near_at : List (Option Bool) → ℕ → Option Bool
near_at near k = slice_index_or near k None

-- whether a class is of the package of f
abbrev pub near_to : List ClassFile → ClassFile → ℕ → Option Bool
near_to all f k = Some (is_one_package (this_name f) (name_at all k))

-- the table tells it of the classes that pass the test, and what it told of the others
abbrev pub AreMarked : List ClassFile → ClassFile → (old new : List (Option Bool)) → (ℕ → Bool) → Type 0
AreMarked all f old new p =
    (d : ℕ) → d < length old → near_at new d ≡ (if p d then near_to all f d else near_at old d)

-- a class of a walk that is the asked one, and not the one that the walk starts from
abbrev pub is_other : ℕ → ℕ → ℕ → Bool
is_other start asked k = not (k == start) && (k == asked)

-- the table tells of each superclass of f, whose number is c, whether it is of the same package
abbrev pub AreNear : List ClassFile → ClassFile → ℕ → List (Option Bool) → Type 0
AreNear all f c near =
    (k : ℕ) → k < length all → near_at near k ≡ (if has (supers_of all c) k then near_to all f k else None)

-- a method of these flags is accessible from below, where its class is of the same package or isn't
abbrev pub is_inherited_if : ℕ → Bool → Bool
is_inherited_if flags near =
    is_public flags || (is_protected flags || not (is_private flags) && near)

-- one that a class declares is, where the class is a superclass
abbrev pub is_inherited_at : List (Option Bool) → Declared → Bool
is_inherited_at near o = from false (is_inherited_if o.flags) (near_at near o.class)

-- a method of the flags m may not replace that one
abbrev pub replaces_badly : List (Option Bool) → ℕ → Declared → Bool
replaces_badly near m o = is_unlike m o.flags && is_inherited_at near o

-- a method of these flags replaces one of its signature that it may not replace
abbrev pub replaces_any : List (List ℕ) → Table → List (Option Bool) → ℕ → Pair → Bool
replaces_any names table near flags s =
    list_any (replaces_badly near flags) (declared_at names table s)

-- a method of f overrides badly, by the tables
abbrev pub is_bad_by : List (List ℕ) → Table → List (Option Bool) → ClassFile → MethodItem → Bool
is_bad_by names table near f m =
    not (is_initialiser (method_name f m))
    && replaces_any names table near m.flags (signature_of f m)

-- its refusal
abbrev pub bad_by : List (List ℕ) → Table → List (Option Bool) → ClassFile → MethodItem
    → List LinkErr
bad_by names table near f m =
    refused_if (is_bad_by names table near f m) BadOverride f (method_name f m ++ method_desc f m)
