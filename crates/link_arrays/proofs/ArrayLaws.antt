-- Laws of the array types of a program, and of the numbers of array classes.
use Rattle.std.proofs.Common.{◌≡◌, ℕ, ◌+◌, ◌-◌, ◌<◌, ◌≤◌, Bool, true, false, ◌==◌, not, cond, List, [], ◌∷◌, length, get_or, slice_get, position, map, Option, Some, None, option_map, is_some, ap, sym, ◌∙◌, refl, arith, inl, inr, ◌⊎◌}
use Rattle.std.specs.Prelude.{option_and_then, if◌then◌else◌}
use Rattle.std.specs.List.{flat_map, list_any, position_or_len, IsDistinct}
use Rattle.std.proofs.lemmas.Bool.{cases_Bool, or_cases}
use Rattle.std.proofs.lemmas.Bool.Decides.{nat_tests}
use Rattle.std.proofs.lemmas.List.{length-map}
use Rattle.std.proofs.lemmas.List.Quantifiers.{position-Some}
use Rattle.std.proofs.lemmas.List.Sums.{position_or_len_is}
use Rattle.std.proofs.lemmas.Map.Keys.{apart_from_distinct}
use Rattle.std.proofs.lemmas.Option.{slice_get-get_or, slice_get_within, get_or_from_slice_get}
use Rattle.jvm_base.specs.declared.desc.Desc.{Desc}
use Rattle.jvm_base.specs.declared.desc.Elem.{Elem}
use Rattle.jvm_base.specs.declared.desc.Elem.TheVariants.{Object}
use Rattle.jvm_base.specs.Descriptors.{desc_of}
use Rattle.class_format.specs.declared.class.ClassFile.{ClassFile}
use Rattle.class_names.specs.Classes.{this_name}
use Rattle.class_names.specs.Known.{is_name}
use Rattle.class_names.specs.Texts.{is_array}
use Rattle.link_rules.specs.Numbers.{number_of}
use Rattle.numbering.specs.Seen.{is_seen}
use Rattle.numbering.proofs.Places.{at_position}
use Rattle.program_image.specs.Signatures.{same_desc}
use Rattle.link_arrays.specs.Arrays.{array, strings, file_types, array_types}
use Rattle.link_arrays.specs.ArrayClasses.{array_number, elem_number, type_number, class_number, part_type}
use Rattle.link_arrays.specs.Counting.{AreClosed}
use Rattle.link_arrays.proofs.ClosedNames.{closed_file}
use Rattle.link_arrays.proofs.Levels.{closed_levels, closed_none, closed_append, closed_items, closed_flat}
use Rattle.link_arrays.proofs.SeenLaws.{once_distinct}
use Rattle.link_arrays.proofs.Types.{descs_told, descs_equivalent}

-- ---- the list of types

-- no type is twice among the array types
pub types_differ : (files : List ClassFile) → IsDistinct same_desc (array_types files)
unfolding array_types
types_differ files = once_distinct same_desc descs_equivalent (strings ∷ flat_map file_types files)

-- the parts of each that are arrays are among them
pub types_closed : (files : List ClassFile) → AreClosed (array_types files)
unfolding array_types
types_closed files = closed_items [] (strings ∷ flat_map file_types files) closed_none (closed_append (strings ∷ []) (flat_map file_types files) (closed_levels 1 strings.elem) (closed_flat file_types closed_file files))

-- ---- numbers are below the count of classes

mapped : {A : Type 0} (f : A → ℕ) (o : Option A) (n : ℕ) → option_map f o ≡ Some n → (a : A) × (o ≡ Some a) × (n ≡ f a)
mapped f (Some a) n e = (a, refl, (let h : n ≡ f a = cc in h))
mapped f None n e = absurd cc

pub number_within : (all : List ClassFile) (name : List ℕ) (n : ℕ) → number_of all name ≡ Some n → n < length all
number_within all name n e =
    let h = (position-Some (is_name name) (map this_name all) n [] e).0 in
    omega (arith, length-map all this_name)

-- an array type's number is behind the declared classes, and has a type at its place
pub array_within : (all : List ClassFile) (arrays : List Desc) (d : Desc) (n : ℕ) → array_number all arrays d ≡ Some n → (length all ≤ n) × (n < length all + length arrays) × (slice_get arrays (n - length all) ≡ Some d)
array_within all arrays d n e =
    let m = mapped (λ k. length all + k) (position (same_desc d) arrays) n e in
    let p = position-Some (same_desc d) arrays m.0 d m.1 in
    let is : d ≡ get_or arrays m.0 d = (descs_told d (get_or arrays m.0 d)).0 p.1 in
    let at : n - length all ≡ m.0 = (let q = m.2 in omega arith) in
    ((let q = m.2 in omega arith), (let q = m.2 in let i = p.0 in omega arith), ap (slice_get arrays) at ∙ slice_get-get_or arrays m.0 d p.0 ∙ ap Some (sym is))

elem_within : (all : List ClassFile) (e : Elem) (n : ℕ) → elem_number all e ≡ Some n → n < length all
elem_within all (Object name) n h = number_within all name n h
elem_within all e n h = absurd cc

-- the class of what an array's places hold is a declared one, or an array class of fewer dimensions
pub part_falls : (all : List ClassFile) (arrays : List Desc) (d : Desc) (n : ℕ) → type_number all arrays (part_type d) ≡ Some n → (n < length all) ⊎ ((length all ≤ n) × (n < length all + length arrays) × (slice_get arrays (n - length all) ≡ Some (part_type d)) × (d.dims - 1 < d.dims))
part_falls all arrays d n e = elim (cases_Bool (d.dims - 1 == 0)) [
  | inl one ↦ inl (elem_within all d.elem n (ap (λ b. if b then elem_number all d.elem else array_number all arrays (part_type d)) (sym one) ∙ e))
  | inr several ↦
      let more : d.dims - 1 < d.dims = grind (arith, nat_tests) in
      let w = array_within all arrays (part_type d) n (ap (λ b. if b then elem_number all d.elem else array_number all arrays (part_type d)) (sym several) ∙ e) in
      inr (w.0, w.1, w.2, more)
]

-- so a class's number is below the count
pub class_within : (all : List ClassFile) (arrays : List Desc) (text : List ℕ) (n : ℕ) → class_number all arrays text ≡ Some n → n < length all + length arrays
class_within all arrays text n e = by (is_array text) e
  where
    of_desc : (o : Option Desc) → option_and_then (array_number all arrays) o ≡ Some n → n < length all + length arrays
    of_desc (Some d) h = (array_within all arrays d n h).1
    of_desc None h = absurd cc

    by : (b : Bool) → (if b then option_and_then (array_number all arrays) (desc_of text) else number_of all text) ≡ Some n → n < length all + length arrays
    by true h = of_desc (desc_of text) h
    by false h = (let w = number_within all text n h in omega arith)

-- ---- each has its number

-- an item that passes has a place
pub passes_within : {A : Type 0} (p : A → Bool) (xs : List A) → list_any p xs ≡ true → position_or_len p xs < length xs
passes_within p [] e = absurd cc
passes_within p (x ∷ xs) e = elim (or_cases (p x) (list_any p xs) e) [
  | inl here ↦ (let q : position_or_len p (x ∷ xs) ≡ 0 = ap (λ b. cond (not b) (1 + position_or_len p xs) 0) here in omega arith)
  | inr later ↦ elim (cases_Bool (p x)) [
    | inl here ↦ (let q : position_or_len p (x ∷ xs) ≡ 0 = ap (λ b. cond (not b) (1 + position_or_len p xs) 0) here in omega arith)
    | inr other ↦ (let q : position_or_len p (x ∷ xs) ≡ 1 + position_or_len p xs = ap (λ b. cond (not b) (1 + position_or_len p xs) 0) other in let w = passes_within p xs later in omega arith)
  ]
]

numbered_some : (all : List ClassFile) (arrays : List Desc) (d : Desc) (k : ℕ) → position (same_desc d) arrays ≡ Some k → array_number all arrays d ≡ Some (length all + k)
numbered_some all arrays d k e = ap (option_map (λ n. length all + n)) e

-- the number of the array type of a place
pub number_at : (all files : List ClassFile) (d : Desc) (k : ℕ) → slice_get (array_types files) k ≡ Some d → array_number all (array_types files) d ≡ Some (length all + k)
number_at all files d k e =
    let types : List Desc = array_types files in
    let inside : k < length types = slice_get_within types k d e in
    let here : get_or types k d ≡ d = get_or_from_slice_get types k d d e in
    let passes : same_desc d (get_or types k d) ≡ true = (descs_told d (get_or types k d)).1 (sym here) in
    let before : (j : ℕ) → j < k → same_desc d (get_or types j d) ≡ false = λ j h. descs_equivalent.symm d (get_or types j d) ∙ ap (same_desc (get_or types j d)) (sym here) ∙ apart_from_distinct same_desc types j k d (types_differ files) h inside in
    numbered_some all types d k (at_position (same_desc d) types k (position_or_len_is (same_desc d) types k d (omega arith) before (λ h. passes)) inside)

-- an array type of the program has a number
pub seen_number : (all : List ClassFile) (arrays : List Desc) (d : Desc) → is_seen same_desc arrays d ≡ true → is_some (array_number all arrays d) ≡ true
seen_number all arrays d seen = ap is_some (numbered_some all arrays d (position_or_len (same_desc d) arrays) (at_position (same_desc d) arrays (position_or_len (same_desc d) arrays) refl (passes_within (same_desc d) arrays seen)))

-- and so has its part, where that is an array
pub part_number : (all files : List ClassFile) (dims : ℕ) (elem : Elem) → 0 < dims → is_seen same_desc (array_types files) (array (dims + 1) elem) ≡ true → is_some (type_number all (array_types files) (array dims elem)) ≡ true
part_number all files dims elem p seen =
    let some : (dims == 0) ≡ false = grind (arith, nat_tests) in
    ap (λ b. is_some (if b then elem_number all elem else array_number all (array_types files) (array dims elem))) some
    ∙ seen_number all (array_types files) (array dims elem) ((types_closed files).part dims elem p seen)
