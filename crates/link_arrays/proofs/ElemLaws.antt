-- Where no file names a class that isn't there, each array class of objects has its element's class.
use Rattle.std.proofs.Common.{◌≡◌, ℕ, ◌+◌, Bool, true, false, not, ◌==◌, List, [], ◌∷◌, ◌++◌, map, Option, Some, None, is_some, nat_lt, ap, sym, ◌∙◌, refl, inl, inr}
use Rattle.std.specs.Prelude.{codes, option_and_then, if◌then◌else◌}
use Rattle.std.specs.List.{flat_map, position_or_len}
use Rattle.std.specs.Option.{option_to_list}
use Rattle.std.proofs.lemmas.Bool.{or_cases, or_left, or_right}
use Rattle.std.proofs.lemmas.List.Folds.{flat_map-map, list_any-append}
use Rattle.jvm_base.specs.declared.desc.Desc.{Desc}
use Rattle.jvm_base.specs.declared.desc.Elem.{Elem}
use Rattle.jvm_base.specs.declared.desc.Elem.TheVariants.{Byte, Char, Double, Float, Int, Long, Short, Boolean, Object}
use Rattle.jvm_base.specs.declared.pool.PoolItem.{PoolItem}
use Rattle.jvm_base.specs.Descriptors.{desc_of, method_of}
use Rattle.jvm_base.specs.Words.{from}
use Rattle.class_format.specs.declared.class.ClassFile.{ClassFile}
use Rattle.class_format.specs.declared.class.MethodItem.{MethodItem}
use Rattle.code_table.specs.declared.element_kind.TheConstants as kind
use Rattle.code_table.specs.declared.op.Op.{Op}
use Rattle.code_table.specs.declared.op.Op.TheVariants.{NewArray, AnewArray, Cast, MultiNewArray}
use Rattle.class_names.specs.Classes.{this_name, super_text, interface_texts, code_of, ops_of, table_of}
use Rattle.class_names.specs.Known.{is_name, is_known}
use Rattle.class_names.specs.Named.{elem_names, desc_names, method_desc_names, named_by, op_names, entry_names, field_names, method_names, class_names}
use Rattle.class_names.specs.Texts.{is_array, text_in, class_text}
use Rattle.link_rules.specs.Answers.{refused_if}
use Rattle.link_rules.specs.Classes.{missing, no_class}
use Rattle.link_rules.specs.declared.error.LinkWhy.TheVariants.{NoClass}
use Rattle.link_rules.specs.Numbers.{number_of}
use Rattle.numbering.specs.Seen.{is_seen}
use Rattle.numbering.proofs.Places.{at_position}
use Rattle.program_image.specs.Signatures.{same_desc, same_elem}
use Rattle.program_image.proofs.Signatures.{texts_decide}
use Rattle.link_arrays.specs.Arrays.{array, kind_elem, deeper, array_named, array_over, op_array, with_parts, op_types, code_types, file_types, strings, array_types}
use Rattle.link_arrays.proofs.ArrayLaws.{passes_within}
use Rattle.link_arrays.proofs.Levels.{level_within}
use Rattle.link_arrays.proofs.LiteralLaws.{names_equivalent}
use Rattle.link_arrays.proofs.SeenLaws.{seen_items}
use Rattle.link_arrays.proofs.Types.{descs_told, descs_equivalent}

-- the class of an element type, if it is one, is among these names
abbrev pub IsNamed : List (List ℕ) → Elem → Type 0
IsNamed names e = (name : List ℕ) → e ≡ Object name → is_known names name ≡ true

named_left : (xs ys : List (List ℕ)) (e : Elem) → IsNamed xs e → IsNamed (xs ++ ys) e
named_left xs ys e h name q = list_any-append (is_name name) xs ys ∙ or_left (is_known xs name) (is_known ys name) (h name q)

named_right : (xs ys : List (List ℕ)) (e : Elem) → IsNamed ys e → IsNamed (xs ++ ys) e
named_right xs ys e h name q = list_any-append (is_name name) xs ys ∙ or_right (is_known xs name) (is_known ys name) (h name q)

-- ---- instructions

elem_is : (d e : Elem) → same_elem d e ≡ true → d ≡ e
elem_is d e h = ap (λ x. x.elem) ((descs_told (array 0 d) (array 0 e)).0 h)

-- a type names the class of its elements
of_desc : (d : Desc) → IsNamed (desc_names d) d.elem
of_desc d name q = ap (λ e. is_known (elem_names e) name) q ∙ or_left (is_name name name) false (names_equivalent.refl name)

is_class : Elem → Bool
is_class (Object name) = true
is_class e = false

either : (b : Bool) (x y : Elem) → is_class x ≡ false → is_class y ≡ false → is_class (if b then x else y) ≡ false
either true x y h k = h
either false x y h k = k

kind_is_no_class : (n : ℕ) → is_class (kind_elem n) ≡ false
unfolding is_class
kind_is_no_class n =
    either (n == kind.T_BOOLEAN) Boolean _ refl
    (either (n == kind.T_CHAR) Char _ refl
    (either (n == kind.T_FLOAT) Float _ refl
    (either (n == kind.T_DOUBLE) Double _ refl
    (either (n == kind.T_BYTE) Byte _ refl
    (either (n == kind.T_SHORT) Short _ refl
    (either (n == kind.T_INT) Int Long refl refl))))))

deeper_elem : (x d : Desc) → deeper x ≡ Some d → x.elem ≡ d.elem
deeper_elem x d h = by (nat_lt x.dims 255) h
  where
    by : (b : Bool) → (if b then Some (array (x.dims + 1) x.elem) else None) ≡ Some d → x.elem ≡ d.elem
    by true e = let q : array (x.dims + 1) x.elem ≡ d = cc in ap (λ z. z.elem) q
    by false e = absurd cc

text_named : (text : List ℕ) (d : Desc) → array_named text ≡ Some d → IsNamed (named_by text) d.elem
text_named text d h = by (is_array text) (desc_of text) h
  where
    by : (b : Bool) (o : Option Desc) → (if b then o else None) ≡ Some d → IsNamed (if b then from [] desc_names o else text ∷ []) d.elem
    by true (Some x) e name q = let same : x ≡ d = cc in of_desc x name (ap (λ z. z.elem) same ∙ q)
    by true None e name q = absurd cc
    by false o e name q = absurd cc

text_over : (text : List ℕ) (d : Desc) → array_over text ≡ Some d → IsNamed (named_by text) d.elem
text_over text d h = by (is_array text) (desc_of text) h
  where
    by : (b : Bool) (o : Option Desc) → (if b then option_and_then deeper o else Some (array 1 (Object text))) ≡ Some d → IsNamed (if b then from [] desc_names o else text ∷ []) d.elem
    by true (Some x) e name q = of_desc x name (deeper_elem x d e ∙ q)
    by true None e name q = absurd cc
    by false o e name q =
        let same : array 1 (Object text) ≡ d = cc in
        let one : Object text ≡ Object name = ap (λ z. z.elem) same ∙ q in
        let text_is : text ≡ name = cc in
        or_left (is_name name text) false ((texts_decide name text).1 (sym text_is))

op_named : (pool : List PoolItem) (op : Op) (d : Desc) → op_array pool op ≡ Some d → IsNamed (op_names pool op) d.elem
unfolding is_class
op_named pool (NewArray n) d h name q =
    let same : array 1 (kind_elem n) ≡ d = cc in
    let no : is_class (Object name) ≡ false = ap is_class (sym (ap (λ z. z.elem) same ∙ q)) ∙ kind_is_no_class n in
    absurd cc
op_named pool (AnewArray item) d h name q = text_over (class_text pool item) d h name q
op_named pool (MultiNewArray item dims) d h name q = text_named (class_text pool item) d h name q
op_named pool (Cast op item) d h name q = text_named (class_text pool item) d h name q
op_named pool op d h name q = absurd cc

-- so do the parts
op_seen : (pool : List PoolItem) (op : Op) (d : Desc) → is_seen same_desc (op_types pool op) d ≡ true → IsNamed (op_names pool op) d.elem
op_seen pool op d seen = by (op_array pool op) refl seen
  where
    by : (o : Option Desc) → op_array pool op ≡ o → is_seen same_desc (from [] with_parts o) d ≡ true → IsNamed (op_names pool op) d.elem
    by (Some x) e s name q = op_named pool op x e name (sym (elem_is d.elem x.elem (level_within x.dims d.dims d.elem x.elem s).1) ∙ q)
    by None e s name q = absurd cc

-- ---- files

flat_named : {X : Type 0} (f : X → List Desc) (g : X → List (List ℕ)) (d : Desc) → ((x : X) → is_seen same_desc (f x) d ≡ true → IsNamed (g x) d.elem) → (xs : List X) → is_seen same_desc (flat_map f xs) d ≡ true → IsNamed (flat_map g xs) d.elem
flat_named f g d h [] e = absurd cc
flat_named f g d h (x ∷ xs) e = elim (or_cases (is_seen same_desc (f x) d) (is_seen same_desc (flat_map f xs) d) (sym (list_any-append (same_desc d) (f x) (flat_map f xs)) ∙ e)) [
  | inl s ↦ named_left (g x) (flat_map g xs) d.elem (h x s)
  | inr s ↦ named_right (g x) (flat_map g xs) d.elem (flat_named f g d h xs s)
]

method_seen : (pool : List PoolItem) (m : MethodItem) (d : Desc) → is_seen same_desc (code_types pool (code_of pool m)) d ≡ true → IsNamed (method_names pool m) d.elem
method_seen pool m d s =
    named_right (from [] method_desc_names (method_of (text_in pool m.desc))) _ d.elem
    (named_left (flat_map (λ p. op_names pool p.op) (ops_of pool m)) (flat_map (entry_names pool) (table_of m)) d.elem
    (flat_named (λ p. op_types pool p.op) (λ p. op_names pool p.op) d (λ p. op_seen pool p.op d) (ops_of pool m) s))

file_seen : (f : ClassFile) (d : Desc) → is_seen same_desc (file_types f) d ≡ true → IsNamed (class_names f) d.elem
unfolding class_names
file_seen f d s =
    let over : is_seen same_desc (flat_map (λ m. code_types f.pool (code_of f.pool m)) f.methods) d ≡ true = ap (λ z. is_seen same_desc z d) (sym (flat_map-map (code_types f.pool) (code_of f.pool) f.methods)) ∙ s in
    named_right (flat_map named_by (option_to_list (super_text f))) _ d.elem
    (named_right (flat_map named_by (interface_texts f)) _ d.elem
    (named_right (flat_map (field_names f.pool) f.fields) (flat_map (method_names f.pool) f.methods) d.elem
    (flat_named (λ m. code_types f.pool (code_of f.pool m)) (method_names f.pool) d (λ m. method_seen f.pool m d) f.methods over)))

-- ---- no class is missing

front_none : {A : Type 0} (xs ys : List A) → xs ++ ys ≡ [] → xs ≡ []
front_none [] ys e = refl
front_none (x ∷ xs) ys e = absurd cc

back_none : {A : Type 0} (xs ys : List A) → xs ++ ys ≡ [] → ys ≡ []
back_none [] ys e = e
back_none (x ∷ xs) ys e = absurd cc

not_missing : (names : List (List ℕ)) (f : ClassFile) (name : List ℕ) → missing names f name ≡ [] → is_known names name ≡ true
not_missing names f name e = by (is_known names name) e
  where
    by : (b : Bool) → refused_if (not b) NoClass f name ≡ [] → b ≡ true
    by true h = refl
    by false h = absurd cc

all_there : (names : List (List ℕ)) (f : ClassFile) (xs : List (List ℕ)) → flat_map (missing names f) xs ≡ [] → (name : List ℕ) → is_known xs name ≡ true → is_known names name ≡ true
all_there names f [] e name known = absurd cc
all_there names f (x ∷ xs) e name known = elim (or_cases (is_name name x) (is_known xs name) known) [
  | inl here ↦ (let same : name ≡ x = (texts_decide name x).0 here in ap (is_known names) same ∙ not_missing names f x (front_none (missing names f x) (flat_map (missing names f) xs) e))
  | inr later ↦ all_there names f xs (back_none (missing names f x) (flat_map (missing names f) xs) e) name later
]

files_seen : (names : List (List ℕ)) (files : List ClassFile) (d : Desc) → flat_map (no_class names) files ≡ [] → is_seen same_desc (flat_map file_types files) d ≡ true → IsNamed names d.elem
files_seen names [] d none s = absurd cc
files_seen names (f ∷ files) d none s = elim (or_cases (is_seen same_desc (file_types f) d) (is_seen same_desc (flat_map file_types files) d) (sym (list_any-append (same_desc d) (file_types f) (flat_map file_types files)) ∙ s)) [
  | inl here ↦ λ name q. all_there names f (class_names f) (front_none (no_class names f) (flat_map (no_class names) files) none) name (file_seen f d here name q)
  | inr later ↦ files_seen names files d (back_none (no_class names f) (flat_map (no_class names) files) none) later
]

-- the class of the elements of each array type is one of the names, if String is
pub types_named : (names : List (List ℕ)) (files : List ClassFile) → flat_map (no_class names) files ≡ [] → is_known names (codes "java/lang/String") ≡ true → (d : Desc) → is_seen same_desc (array_types files) d ≡ true → IsNamed names d.elem
unfolding array_types
types_named names files none string d seen = elim (or_cases (same_desc d strings) (is_seen same_desc (flat_map file_types files) d) (sym (seen_items same_desc descs_equivalent [] (strings ∷ flat_map file_types files) d) ∙ seen)) [
  | inl here ↦ λ name q.
      let same : d ≡ strings = (descs_told d strings).0 here in
      let one : Object (codes "java/lang/String") ≡ Object name = sym (ap (λ z. z.elem) same) ∙ q in
      let text_is : codes "java/lang/String" ≡ name = cc in
      ap (is_known names) (sym text_is) ∙ string
  | inr later ↦ files_seen names files d none later
]

-- so it has a number
pub elem_there : (all files : List ClassFile) → flat_map (no_class (map this_name all)) files ≡ [] → is_known (map this_name all) (codes "java/lang/String") ≡ true → (d : Desc) → is_seen same_desc (array_types files) d ≡ true → (name : List ℕ) → d.elem ≡ Object name → is_some (number_of all name) ≡ true
elem_there all files none string d seen name q =
    let names : List (List ℕ) = map this_name all in
    ap is_some (at_position (is_name name) names (position_or_len (is_name name) names) refl (passes_within (is_name name) names (types_named names files none string d seen name q)))
