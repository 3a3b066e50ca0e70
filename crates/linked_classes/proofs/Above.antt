-- The classes of an image by number, and what lies directly above them.
use Rattle.std.proofs.Common.{◌≡◌, ◌∙◌, sym, ap, subst, refl, ℕ, zero, suc, ◌+◌, ◌-◌, ◌<◌, ◌==◌, Bool, true, false, not, List, [], ◌∷◌, ◌++◌, length, map, slice_get, position, Option, Some, None, ◌⊎◌, inl, inr, arith}
use Rattle.std.specs.Prelude.{◌&&◌, ◌||◌, nat_eq, if◌then◌else◌, option_and_then, option_map}
use Rattle.std.specs.Cmp.Lexicographic.{pointwise}
use Rattle.std.specs.List.{AllByRecursion, flat_map, filter_map, cons_option, list_all, position_from}
use Rattle.std.specs.Option.{is_some, option_to_list}
use Rattle.std.proofs.lemmas.Bool.Decides.{nat_tests}
use Rattle.std.proofs.lemmas.Cmp.{nat_list_eq_equiv}
use Rattle.std.proofs.lemmas.List.{length-append, length-map}
use Rattle.std.proofs.lemmas.Option.{slice_get_within, slice_get-map}
use Rattle.jvm_base.specs.Words.{from}
use Rattle.jvm_base.specs.declared.desc.Desc.{Desc}
use Rattle.jvm_base.specs.declared.desc.Elem.{Elem}
use Rattle.jvm_base.specs.declared.desc.Elem.TheVariants as elem
use Rattle.jvm_base.proofs.Options.{and_parts, then_some, map_some}
use Rattle.boot_table.specs.Files.{boot_files}
use Rattle.class_format.specs.Flags.{is_interface, is_final}
use Rattle.class_format.specs.declared.class.ClassFile.{ClassFile}
use Rattle.class_names.specs.Classes.{this_name, super_text, interface_texts}
use Rattle.class_names.specs.Known.{is_name}
use Rattle.class_names.specs.Texts.{is_array, object_name}
use Rattle.hierarchy.specs.Walks.{has}
use Rattle.hierarchy.proofs.Tests.{or_split, equal_from}
use Rattle.link_rules.specs.Answers.{refused_if}
use Rattle.link_rules.specs.Classes.{names_interface, is_wrong_super, wrong_super, wrong_interface, wrong_above, final_super_named, final_super}
use Rattle.link_rules.specs.declared.error.LinkWhy.{LinkWhy}
use Rattle.link_rules.specs.Numbers.{map_from, number_of, flags_at, flags_of, interface_row}
use Rattle.link_uses.specs.declared.lookup.Found.{Found}
use Rattle.link_arrays.specs.ArrayClasses.{array_number, elem_number, type_number, part_type, array_info, array_class, array_classes}
use Rattle.link_arrays.proofs.ArrayLaws.{number_within}
use Rattle.link_arrays.proofs.Types.{descs_told}
use Rattle.link_image.specs.Classes.{super_number, class_info, declared_infos, class_infos}
use Rattle.link_image.specs.Image.{image_of}
use Rattle.link_image.proofs.ClassLaws.{count_infos}
use Rattle.link_image.proofs.ListLaws.{length_map_from, get_map_from}
use Rattle.program_image.specs.Program.{Program}
use Rattle.program_image.specs.Signatures.{same_desc}
use Rattle.program_image.specs.declared.info.ArrayInfo.{ArrayInfo}
use Rattle.program_image.specs.declared.info.ClassInfo.{ClassInfo}
use Rattle.flow_types.specs.Tree.{superclasses, superclass, flat}
use Rattle.flow_types.specs.declared.flow_type.FlowType.TheVariants as flow
use Rattle.flow_types.proofs.TreeLaws.{cases_lt, within}
use Rattle.instruction_table.specs.ClassTypes.{plain, class_at, named_from, class_named, element_type, ground_type, array_at, class_type, is_an_interface}
use Rattle.frame_soundness.specs.Holding.{component_type}
use Rattle.typed_classes.specs.Tables.{listed_at, is_closed, IsSuper, IsArrayAt, IsTable}
use Rattle.typed_classes.proofs.Steps.{class_typed, array_typed}
use Rattle.linked_classes.specs.Linking.{AreRight, TableLaw}
use Rattle.linked_classes.proofs.BootAbove.{is_open, is_listed, is_right, boot_right, boot_count, boot_object, boot_root, boot_sealed, front_at, number_front, flags_front, tested_at}
use Rattle.linked_classes.proofs.Positions.{position_at, position_found}

-- ---- lists

-- and behind it
pub back_at : {A : Type 0} (xs ys : List A) (i : ℕ) → slice_get (xs ++ ys) (length xs + i) ≡ slice_get ys i
back_at [] ys i = ap (slice_get ys) (let e : length {A = ℕ} [] + i ≡ i = omega arith in e)
back_at (x ∷ xs) ys i = let e : suc (length xs) + i ≡ suc (length xs + i) = omega arith in ap (slice_get (x ∷ xs ++ ys)) e ∙ back_at xs ys i

pub item_at : {A : Type 0} (xs : List A) (i : ℕ) → i < length xs → (x : A) × (slice_get xs i ≡ Some x)
item_at [] i l = absurd (omega arith)
item_at (x ∷ xs) zero l = (x, refl)
item_at (x ∷ xs) (suc i) l = item_at xs i (omega arith)

pub all_at : {A : Type 0} (P : A → Type 0) (xs : List A) → AllByRecursion P xs → (i : ℕ) (x : A) → slice_get xs i ≡ Some x → P x
all_at P [] all i x e = absurd cc
all_at P (y ∷ ys) all zero x e = let s : y ≡ x = cc in subst P s (all.0)
all_at P (y ∷ ys) all (suc i) x e = all_at P ys (all.1) i x e

-- nothing in the whole is nothing in each part
both_none : {A : Type 0} (xs ys : List A) → xs ++ ys ≡ [] → (xs ≡ []) × (ys ≡ [])
both_none [] ys e = (refl, e)
both_none (x ∷ xs) ys e = absurd cc

pub flat_none : {A B : Type 0} (g : A → List B) (xs : List A) → flat_map g xs ≡ [] → (i : ℕ) (x : A) → slice_get xs i ≡ Some x → g x ≡ []
flat_none g [] none i x e = absurd cc
flat_none g (y ∷ ys) none zero x e = let s : y ≡ x = cc in subst (λ z. g z ≡ []) s (both_none (g y) (flat_map g ys) none).0
flat_none g (y ∷ ys) none (suc i) x e = flat_none g ys (both_none (g y) (flat_map g ys) none).1 i x e

-- an item that a function keeps of a list
in_filtered : {A : Type 0} (g : A → Option ℕ) (xs : List A) (k : ℕ) → has (filter_map g xs) k ≡ true → (i : ℕ) × (x : A) × (slice_get xs i ≡ Some x) × (g x ≡ Some k)
in_filtered g [] k h = absurd cc
in_filtered g (x ∷ xs) k h = by_item (g x) refl h (in_filtered g xs k)
  where
    later : ((i : ℕ) × (y : _) × (slice_get xs i ≡ Some y) × (g y ≡ Some k)) → (i : ℕ) × (y : _) × (slice_get (x ∷ xs) i ≡ Some y) × (g y ≡ Some k)
    later (i, y, a, b) = (suc i, y, a, b)

    by_item : (o : Option ℕ) → g x ≡ o → has (cons_option o (filter_map g xs)) k ≡ true → (has (filter_map g xs) k ≡ true → (i : ℕ) × (y : _) × (slice_get xs i ≡ Some y) × (g y ≡ Some k)) → (i : ℕ) × (y : _) × (slice_get (x ∷ xs) i ≡ Some y) × (g y ≡ Some k)
    by_item None q h again = later (again h)
    by_item (Some j) q h again =
        elim (or_split (j == k) (has (filter_map g xs) k) h) [
          | inl e ↦ (0, x, refl, q ∙ ap Some (equal_from j k e))
          | inr e ↦ later (again e)
        ]

some_there : {A : Type 0} (o : Option A) → is_some o ≡ true → (x : A) × (o ≡ Some x)
some_there None e = absurd cc
some_there (Some x) e = (x, refl)

-- two texts that are one name are one
pub same_name : (xs ys : List ℕ) → is_name xs ys ≡ true → xs ≡ ys
same_name [] [] h = refl
same_name (x ∷ xs) (y ∷ ys) h =
    let (a, b) = and_parts (nat_eq x y) (pointwise nat_eq xs ys) h in
    let s : x ≡ y = equal_from x y a in
    let t : xs ≡ ys = same_name xs ys b in cc
same_name [] (y ∷ ys) h = absurd cc
same_name (x ∷ xs) [] h = absurd cc

-- ---- rules

pub kept : (b : Bool) (why : LinkWhy) (f : ClassFile) (text : List ℕ) → refused_if b why f text ≡ [] → b ≡ false
kept true why f text e = absurd cc
kept false why f text e = refl

pub not_false : (b : Bool) → not b ≡ false → b ≡ true
not_false true e = refl
not_false false e = absurd cc

not_true : (b : Bool) → not b ≡ true → b ≡ false
not_true true e = absurd cc
not_true false e = refl

pub neither : (a b : Bool) → (a || b) ≡ false → (a ≡ false) × (b ≡ false)
neither true b e = absurd cc
neither false b e = (refl, e)

-- ---- an image

module _ (files : List ClassFile) (arrays : List Desc) (literals : List (List ℕ)) (main : Found) (right : AreRight files arrays literals main) where
  abbrev all : List ClassFile
  all = boot_files ++ files

  abbrev p : Program
  p = image_of (boot_files ++ files) arrays literals main

  abbrev info_of : ℕ → ClassFile → ClassInfo
  info_of = class_info (boot_files ++ files) (length (boot_files ++ files) + length arrays) literals

  -- a declared class, and an array class
  pub declared : (c : ℕ) (f : ClassFile) → slice_get (boot_files ++ files) c ≡ Some f → class_at p c ≡ Some (info_of (0 + c) f)
  unfolding image_of class_infos
  declared c f e =
      let own : List ClassInfo = declared_infos (boot_files ++ files) (length (boot_files ++ files) + length arrays) literals in
      let inside : c < length (boot_files ++ files) = slice_get_within (boot_files ++ files) c f e in
      let long : length own ≡ length (boot_files ++ files) = length_map_from info_of 0 (boot_files ++ files) in
      front_at own (array_classes (boot_files ++ files) arrays) c (omega arith) ∙ get_map_from info_of 0 (boot_files ++ files) c ∙ ap (option_map (info_of (0 + c))) e

  pub of_array : (i : ℕ) (d : Desc) → slice_get arrays i ≡ Some d → class_at p (length (boot_files ++ files) + i) ≡ Some (array_class (boot_files ++ files) arrays d)
  unfolding image_of class_infos
  of_array i d e =
      let own : List ClassInfo = declared_infos (boot_files ++ files) (length (boot_files ++ files) + length arrays) literals in
      let long : length own ≡ length (boot_files ++ files) = length_map_from info_of 0 (boot_files ++ files) in
      let at : length (boot_files ++ files) + i ≡ length own + i = omega arith in
      ap (slice_get (own ++ array_classes (boot_files ++ files) arrays)) at ∙ back_at own (array_classes (boot_files ++ files) arrays) i ∙ slice_get-map (array_class (boot_files ++ files) arrays) arrays i ∙ ap (option_map (array_class (boot_files ++ files) arrays)) e

  -- each class is one of these
  pub record IsDeclared (c : ℕ) : Type 0 where
    pub file : ClassFile
    pub is_file : slice_get (boot_files ++ files) c ≡ Some file

  pub record IsOfArrays (c : ℕ) : Type 0 where
    pub place : ℕ
    pub type : Desc
    pub is_type : slice_get arrays place ≡ Some type
    pub number : c ≡ length (boot_files ++ files) + place

  count : length p.classes ≡ length (boot_files ++ files) + length arrays
  unfolding image_of
  count = count_infos (boot_files ++ files) arrays literals

  pub kind_of : (c : ℕ) (info : ClassInfo) → class_at p c ≡ Some info → IsDeclared c ⊎ IsOfArrays c
  kind_of c info e =
      elim (cases_lt c (length (boot_files ++ files))) [
        | inl l ↦ let (f, q) = item_at (boot_files ++ files) c l in inl (record { file = f; is_file = q })
        | inr g ↦
            let l : c < length p.classes = slice_get_within p.classes c info e in
            let n : length p.classes ≡ length (boot_files ++ files) + length arrays = count in
            let (d, q) = item_at arrays (c - length (boot_files ++ files)) (omega arith) in
            inr (record { place = c - length (boot_files ++ files); type = d; is_type = q; number = omega arith })
      ]

  -- ---- what they have

  super_declared : (c : ℕ) (f : ClassFile) → slice_get (boot_files ++ files) c ≡ Some f → superclass (superclasses p) c ≡ super_number (boot_files ++ files) f
  super_declared c f e =
      ap flat (slice_get-map (λ (k : ClassInfo). k.super_class) p.classes c ∙ ap (option_map (λ (k : ClassInfo). k.super_class)) (declared c f e))

  super_array : (i : ℕ) (d : Desc) → slice_get arrays i ≡ Some d → superclass (superclasses p) (length (boot_files ++ files) + i) ≡ Some 0
  super_array i d e =
      ap flat (slice_get-map (λ (k : ClassInfo). k.super_class) p.classes (length (boot_files ++ files) + i) ∙ ap (option_map (λ (k : ClassInfo). k.super_class)) (of_array i d e))

  pub interface_declared : (c : ℕ) (f : ClassFile) → slice_get (boot_files ++ files) c ≡ Some f → is_an_interface p c ≡ is_interface f.flags
  interface_declared c f e = ap (λ (o : Option ClassInfo). from false (λ k. is_interface k.flags) o) (declared c f e)

  interface_array : (i : ℕ) (d : Desc) → slice_get arrays i ≡ Some d → is_an_interface p (length (boot_files ++ files) + i) ≡ false
  interface_array i d e = ap (λ (o : Option ClassInfo). from false (λ k. is_interface k.flags) o) (of_array i d e)

  pub array_declared : (c : ℕ) (f : ClassFile) → slice_get (boot_files ++ files) c ≡ Some f → array_at p c ≡ None
  array_declared c f e = ap (λ (o : Option ClassInfo). from None (λ k. k.array) o) (declared c f e)

  array_array : (i : ℕ) (d : Desc) → slice_get arrays i ≡ Some d → array_at p (length (boot_files ++ files) + i) ≡ Some (array_info (boot_files ++ files) arrays d)
  array_array i d e = ap (λ (o : Option ClassInfo). from None (λ k. k.array) o) (of_array i d e)

  -- ---- names

  flags_named : (text : List ℕ) (k : ℕ) (g : ClassFile) → number_of (boot_files ++ files) text ≡ Some k → slice_get (boot_files ++ files) k ≡ Some g → flags_of (boot_files ++ files) text ≡ g.flags
  flags_named text k g e q = ap (λ (o : Option ℕ). from 0 (flags_at (boot_files ++ files)) o) e ∙ ap (λ (o : Option ClassFile). from 0 (λ f. f.flags) o) q

  -- a boot class's name has its number and its flags among all
  boot_named : (text : List ℕ) → is_some (number_of boot_files text) ≡ true → flags_of (boot_files ++ files) text ≡ flags_of boot_files text
  boot_named text e =
      let (k, q) = some_there (number_of boot_files text) e in
      let l : k < length boot_files = number_within boot_files text k q in
      let n = boot_count in
      ap (λ (o : Option ℕ). from 0 (flags_at (boot_files ++ files)) o) (number_front files text k q) ∙ flags_front files k (omega arith) ∙ sym (ap (λ (o : Option ℕ). from 0 (flags_at boot_files) o) q)

  object_number : number_of (boot_files ++ files) object_name ≡ Some 0
  object_number = number_front files object_name 0 boot_object

  -- a name that is Object's
  is_object_name : (text : List ℕ) (k : ℕ) → is_name object_name text ≡ true → number_of (boot_files ++ files) text ≡ Some k → k ≡ 0
  is_object_name text k e q =
      let s : object_name ≡ text = same_name object_name text e in
      let z : ◌≡◌ {A = Option ℕ} (Some 0) (Some k) = sym object_number ∙ ap (number_of (boot_files ++ files)) s ∙ q in cc

  -- ---- directly above a declared class

  -- the superclass's text: it has the number, is no interface and not final, and where the class is
  -- an interface it is Object
  record IsUp (f : ClassFile) (k : ℕ) : Type 0 where
    text : List ℕ
    number : number_of (boot_files ++ files) text ≡ Some k
    no_interface : is_interface (flags_of (boot_files ++ files) text) ≡ false
    no_final : is_final (flags_of (boot_files ++ files) text) ≡ false
    over : is_interface f.flags ≡ true → k ≡ 0

  boot_up : (f : ClassFile) (text : List ℕ) (k : ℕ) → (is_open text && (not (is_interface f.flags) || is_name object_name text)) ≡ true → number_of (boot_files ++ files) text ≡ Some k → IsUp f k
  boot_up f text k h q =
      let (a, b) = and_parts (is_open text) (not (is_interface f.flags) || is_name object_name text) h in
      let (x, y) = and_parts (is_some (number_of boot_files text)) (not (is_interface (flags_of boot_files text)) && not (is_final (flags_of boot_files text))) a in
      let (u, v) = and_parts (not (is_interface (flags_of boot_files text))) (not (is_final (flags_of boot_files text))) y in
      let n : flags_of (boot_files ++ files) text ≡ flags_of boot_files text = boot_named text x in
      record {
        text = text;
        number = q;
        no_interface = ap is_interface n ∙ not_true (is_interface (flags_of boot_files text)) u;
        no_final = ap is_final n ∙ not_true (is_final (flags_of boot_files text)) v;
        over = λ i. elim (or_split (not (is_interface f.flags)) (is_name object_name text) b) [
          | inl e ↦ let z : true ≡ false = sym i ∙ not_true (is_interface f.flags) e in absurd cc
          | inr e ↦ is_object_name text k e q
        ];
      }

  file_up : (f : ClassFile) (text : List ℕ) (k : ℕ) → is_wrong_super (boot_files ++ files) f text ≡ false → is_final (flags_of (boot_files ++ files) text) ≡ false → number_of (boot_files ++ files) text ≡ Some k → IsUp f k
  file_up f text k h g q =
      let (a, r) = neither (is_array text) (is_interface (flags_of (boot_files ++ files) text) || is_interface f.flags && not (is_name object_name text)) h in
      let (b, c) = neither (is_interface (flags_of (boot_files ++ files) text)) (is_interface f.flags && not (is_name object_name text)) r in
      record {
        text = text;
        number = q;
        no_interface = b;
        no_final = g;
        over = λ i. is_object_name text k (not_false (is_name object_name text) (rw i at c)) q;
      }

  -- a declared class is a boot class or a file's
  pub place_of : (c : ℕ) (f : ClassFile) → slice_get (boot_files ++ files) c ≡ Some f → (slice_get boot_files c ≡ Some f) ⊎ ((i : ℕ) × (slice_get files i ≡ Some f))
  place_of c f e =
      elim (cases_lt c (length boot_files)) [
        | inl l ↦ inl (sym (front_at boot_files files c l) ∙ e)
        | inr g ↦
            let at : length boot_files + (c - length boot_files) ≡ c = omega arith in
            inr (c - length boot_files, sym (back_at boot_files files (c - length boot_files)) ∙ ap (slice_get (boot_files ++ files)) at ∙ e)
      ]

  up_of : (c k : ℕ) (f : ClassFile) → slice_get (boot_files ++ files) c ≡ Some f → super_number (boot_files ++ files) f ≡ Some k → IsUp f k
  up_of c k f e q =
      let (text, t, n) = then_some (number_of (boot_files ++ files)) (super_text f) k q in
      elim (place_of c f e) [
        | inl b ↦
            let (x, y) = and_parts (from true (λ text. is_open text && (not (is_interface f.flags) || is_name object_name text)) (super_text f)) (list_all is_listed (interface_texts f)) (tested_at is_right boot_files boot_right c f b) in
            boot_up f text k (subst (λ (o : Option (List ℕ)). from true (λ text. is_open text && (not (is_interface f.flags) || is_name object_name text)) o ≡ true) t x) n
        | inr b ↦
            let (x, y) = both_none (wrong_super (boot_files ++ files) f (super_text f)) _ (flat_none (wrong_above (boot_files ++ files)) files right.right_above b.0 f b.1) in
            let w : wrong_super (boot_files ++ files) f (Some text) ≡ [] = subst (λ (o : Option (List ℕ)). wrong_super (boot_files ++ files) f o ≡ []) t x in
            let z : flat_map (final_super_named (boot_files ++ files) f) (option_to_list (Some text)) ≡ [] = subst (λ (o : Option (List ℕ)). flat_map (final_super_named (boot_files ++ files) f) (option_to_list o) ≡ []) t (flat_none (final_super (boot_files ++ files)) files right.no_final b.0 f b.1) in
            let v : final_super_named (boot_files ++ files) f text ≡ [] = (both_none (final_super_named (boot_files ++ files) f text) [] z).0 in
            file_up f text k (kept _ _ f text w) (kept _ _ f text v) n
      ]

  -- what it lists are interfaces
  listed_of : (c k : ℕ) (f : ClassFile) → slice_get (boot_files ++ files) c ≡ Some f → has (interface_row (boot_files ++ files) f) k ≡ true → (text : List ℕ) × (number_of (boot_files ++ files) text ≡ Some k) × (is_interface (flags_of (boot_files ++ files) text) ≡ true)
  listed_of c k f e h =
      let (i, text, t, n) = in_filtered (number_of (boot_files ++ files)) (interface_texts f) k h in
      elim (place_of c f e) [
        | inl b ↦
            let (x, y) = and_parts (from true (λ text. is_open text && (not (is_interface f.flags) || is_name object_name text)) (super_text f)) (list_all is_listed (interface_texts f)) (tested_at is_right boot_files boot_right c f b) in
            let (u, v) = and_parts (is_some (number_of boot_files text)) (is_interface (flags_of boot_files text)) (tested_at is_listed (interface_texts f) y i text t) in
            (text, n, ap is_interface (boot_named text u) ∙ v)
        | inr b ↦
            let (x, y) = both_none (wrong_super (boot_files ++ files) f (super_text f)) (flat_map (wrong_interface (boot_files ++ files) f) (interface_texts f)) (flat_none (wrong_above (boot_files ++ files)) files right.right_above b.0 f b.1) in
            let w : wrong_interface (boot_files ++ files) f text ≡ [] = flat_none (wrong_interface (boot_files ++ files) f) (interface_texts f) y i text t in
            let z : names_interface (boot_files ++ files) text ≡ true = not_false (names_interface (boot_files ++ files) text) (kept _ _ f text w) in
            let (u, v) = and_parts (not (is_array text)) (is_interface (flags_of (boot_files ++ files) text)) z in
            (text, n, v)
      ]

  -- ---- the table

  -- classes whose numbers are those of Class, String and StringBuffer are boot classes
  low : (k : ℕ) → is_closed k ≡ true → k < 34
  low k e = by_tests (k == 1) refl (k == 3) refl (k == 2) refl e
    where
      by_tests : (x : Bool) → (k == 1) ≡ x → (y : Bool) → (k == 3) ≡ y → (z : Bool) → (k == 2) ≡ z → (x || (y || z)) ≡ true → k < 34
      by_tests true a y b z c h = grind (arith, nat_tests)
      by_tests false a true b z c h = grind (arith, nat_tests)
      by_tests false a false b true c h = grind (arith, nat_tests)
      by_tests false a false b false c h = absurd cc

  -- a declared class that is no interface and not final may have subclasses
  open_class : (text : List ℕ) (k : ℕ) → number_of (boot_files ++ files) text ≡ Some k → is_interface (flags_of (boot_files ++ files) text) ≡ false → is_final (flags_of (boot_files ++ files) text) ≡ false → IsSuper p k
  open_class text k n i g =
      let (f, q) = item_at (boot_files ++ files) k (number_within (boot_files ++ files) text k n) in
      let s : flags_of (boot_files ++ files) text ≡ f.flags = flags_named text k f n q in
      record {
        no_interface = interface_declared k f q ∙ ap is_interface (sym s) ∙ i;
        no_array = array_declared k f q;
        no_closed = by_closed (is_closed k) refl;
      }
    where
      by_closed : (b : Bool) → is_closed k ≡ b → is_closed k ≡ false
      by_closed false e = e
      by_closed true e =
          let a : flags_of (boot_files ++ files) text ≡ flags_at boot_files k = ap (λ (o : Option ℕ). from 0 (flags_at (boot_files ++ files)) o) n ∙ flags_front files k (low k e) in
          let z : true ≡ false = sym (boot_sealed k e).0 ∙ ap is_final (sym a) ∙ g in absurd cc

  object_flags : flags_of (boot_files ++ files) object_name ≡ flags_at boot_files 0
  object_flags = ap (λ (o : Option ℕ). from 0 (flags_at (boot_files ++ files)) o) object_number ∙ flags_front files 0 (omega arith)

  object_open : IsSuper p 0
  object_open = open_class object_name 0 object_number (ap is_interface object_flags ∙ boot_root.0) (ap is_final object_flags ∙ boot_root.1)

  -- a class that has a superclass is one of the two kinds
  kind_below : (c k : ℕ) → superclass (superclasses p) c ≡ Some k → IsDeclared c ⊎ IsOfArrays c
  kind_below c k e =
      let l : c < length (superclasses p) = within (superclasses p) c k e in
      let n : length (superclasses p) ≡ length p.classes = length-map p.classes (λ (i : ClassInfo). i.super_class) in
      let (info, q) = item_at p.classes c (omega arith) in
      kind_of c info q

  -- what is above an array is Object
  array_above : (c k : ℕ) (a : IsOfArrays c) → superclass (superclasses p) c ≡ Some k → k ≡ 0
  array_above c k a e =
      let z : ◌≡◌ {A = Option ℕ} (Some 0) (Some k) = sym (super_array a.place a.type a.is_type) ∙ ap (superclass (superclasses p)) (sym a.number) ∙ e in cc

  supers_are : (c k : ℕ) → superclass (superclasses p) c ≡ Some k → IsSuper p k
  supers_are c k e =
      elim (kind_below c k e) [
        | inl d ↦
            let u : IsUp d.file k = up_of c k d.file d.is_file (sym (super_declared c d.file d.is_file) ∙ e) in
            open_class u.text k u.number u.no_interface u.no_final
        | inr a ↦ subst (IsSuper p) (sym (array_above c k a e)) object_open
      ]

  interfaces_are : (c k : ℕ) → is_an_interface p c ≡ true → superclass (superclasses p) c ≡ Some k → k ≡ 0
  interfaces_are c k i e =
      elim (kind_below c k e) [
        | inl d ↦
            let u : IsUp d.file k = up_of c k d.file d.is_file (sym (super_declared c d.file d.is_file) ∙ e) in
            u.over (sym (interface_declared c d.file d.is_file) ∙ i)
        | inr a ↦ array_above c k a e
      ]

  listed_are : (c k : ℕ) → has (listed_at p c) k ≡ true → is_an_interface p k ≡ true
  listed_are c k h = by_class (class_at p c) refl
    where
      by_class : (o : Option ClassInfo) → class_at p c ≡ o → is_an_interface p k ≡ true
      by_class None q = let z : has [] k ≡ true = subst (λ (x : Option ClassInfo). has (from [] (λ info. info.interfaces) x) k ≡ true) q h in absurd cc
      by_class (Some info) q =
          elim (kind_of c info q) [
            | inl d ↦
                let r : has (interface_row (boot_files ++ files) d.file) k ≡ true = subst (λ (x : Option ClassInfo). has (from [] (λ info. info.interfaces) x) k ≡ true) (declared c d.file d.is_file) h in
                let (text, n, i) = listed_of c k d.file d.is_file r in
                let (g, e) = item_at (boot_files ++ files) k (number_within (boot_files ++ files) text k n) in
                interface_declared k g e ∙ ap is_interface (sym (flags_named text k g n e)) ∙ i
            | inr a ↦ let z : has [] k ≡ true = subst (λ (x : Option ClassInfo). has (from [] (λ info. info.interfaces) x) k ≡ true) (ap (class_at p) a.number ∙ of_array a.place a.type a.is_type) h in absurd cc
          ]

  -- ---- arrays

  -- the class of a name is the one that has its number
  named_at : (n : ℕ) (name : List ℕ) (fs : List ClassFile) (rest : List ClassInfo) (k : ℕ) → position_from (is_name name) n (map this_name fs) ≡ Some k → named_from n name (map_from info_of n fs ++ rest) ≡ k
  named_at n name [] rest k e = absurd cc
  named_at n name (f ∷ fs) rest k e = by_test (is_name name (this_name f)) refl e (named_at (n + 1) name fs rest k)
    where
      by_test : (b : Bool) → is_name name (this_name f) ≡ b → (if b then Some n else position_from (is_name name) (n + 1) (map this_name fs)) ≡ Some k → (position_from (is_name name) (n + 1) (map this_name fs) ≡ Some k → named_from (n + 1) name (map_from info_of (n + 1) fs ++ rest) ≡ k) → (if pointwise nat_eq (this_name f) name then n else named_from (suc n) name (map_from info_of (n + 1) fs ++ rest)) ≡ k
      by_test true q h again = let s : n ≡ k = cc in let t : pointwise nat_eq (this_name f) name ≡ true = nat_list_eq_equiv.symm (this_name f) name ∙ q in rw t s
      by_test false q h again =
          let t : pointwise nat_eq (this_name f) name ≡ false = nat_list_eq_equiv.symm (this_name f) name ∙ q in
          let s : suc n ≡ n + 1 = omega arith in
          rw t (ap (λ (m : ℕ). named_from m name (map_from info_of (n + 1) fs ++ rest)) s ∙ again h)

  named : (name : List ℕ) (k : ℕ) → number_of (boot_files ++ files) name ≡ Some k → class_named p name ≡ k
  unfolding image_of class_infos
  named name k e = named_at 0 name (boot_files ++ files) (array_classes (boot_files ++ files) arrays) k (position_found (is_name name) (map this_name (boot_files ++ files)) k e)

  declared_type : (k : ℕ) → k < length (boot_files ++ files) → class_type p k ≡ flow.Class (plain p k)
  declared_type k l = let (f, q) = item_at (boot_files ++ files) k l in class_typed p k (array_declared k f q)

  elem_part : (e : Elem) (k : ℕ) → elem_number (boot_files ++ files) e ≡ Some k → class_type p k ≡ ground_type p e
  elem_part (elem.Object name) k h = declared_type k (number_within (boot_files ++ files) name k h) ∙ ap (λ (j : ℕ). flow.Class (plain p j)) (sym (named name k h))
  elem_part _ k h = absurd cc

  array_part : (d : Desc) (k : ℕ) → array_number (boot_files ++ files) arrays d ≡ Some k → class_type p k ≡ flow.Array d.dims (element_type p d.elem)
  array_part d k h =
      let (j, q, s) = map_some (λ k. length (boot_files ++ files) + k) (position (same_desc d) arrays) k h in
      let (x, t, u) = position_at (same_desc d) arrays j q in
      let same : d ≡ x = (descs_told d x).0 u in
      ap (class_type p) (sym s) ∙ array_typed p (length (boot_files ++ files) + j) (array_info (boot_files ++ files) arrays x) (array_array j x t) ∙ ap (λ (z : Desc). flow.Array z.dims (element_type p z.elem)) (sym same)

  part_of_type : (d : Desc) → 0 < d.dims → (k : ℕ) → type_number (boot_files ++ files) arrays (part_type d) ≡ Some k → class_type p k ≡ component_type p (array_info (boot_files ++ files) arrays d)
  part_of_type d l k h = by_dims (d.dims - 1 == 0) refl (d.dims == 1) refl h
    where
      by_dims : (a : Bool) → (d.dims - 1 == 0) ≡ a → (b : Bool) → (d.dims == 1) ≡ b → (if a then elem_number (boot_files ++ files) d.elem else array_number (boot_files ++ files) arrays (part_type d)) ≡ Some k → class_type p k ≡ (if b then ground_type p d.elem else flow.Array (d.dims - 1) (element_type p d.elem))
      by_dims true q true r h = elem_part d.elem k h
      by_dims true q false r h = absurd (grind (arith, nat_tests))
      by_dims false q true r h = absurd (grind (arith, nat_tests))
      by_dims false q false r h = array_part (part_type d) k h

  arrays_are : (c : ℕ) (a : ArrayInfo) → array_at p c ≡ Some a → IsArrayAt p c a
  arrays_are c a e = by_class (class_at p c) refl
    where
      here : (x : IsOfArrays c) → IsArrayAt p c a
      here x =
          let s : ◌≡◌ {A = Option ArrayInfo} (Some (array_info (boot_files ++ files) arrays x.type)) (Some a) = sym (array_array x.place x.type x.is_type) ∙ ap (array_at p) (sym x.number) ∙ e in
          let t : array_info (boot_files ++ files) arrays x.type ≡ a = cc in
          let l : 0 < x.type.dims = all_at (λ (d : Desc). 0 < d.dims) arrays right.deep x.place x.type x.is_type in
          record {
            no_interface = ap (is_an_interface p) x.number ∙ interface_array x.place x.type x.is_type;
            above = ap (superclass (superclasses p)) x.number ∙ super_array x.place x.type x.is_type;
            deep = subst (λ (i : ArrayInfo). 0 < i.dims) t l;
            part_typed = subst (λ (i : ArrayInfo). (part : ℕ) → i.part ≡ Some part → class_type p part ≡ component_type p i) t (part_of_type x.type l);
          }

      by_class : (o : Option ClassInfo) → class_at p c ≡ o → IsArrayAt p c a
      by_class None q = let z : ◌≡◌ {A = Option ArrayInfo} None (Some a) = sym (ap (λ (x : Option ClassInfo). from None (λ k. k.array) x) q) ∙ e in absurd cc
      by_class (Some info) q =
          elim (kind_of c info q) [
            | inl d ↦ let z : ◌≡◌ {A = Option ArrayInfo} None (Some a) = sym (array_declared c d.file d.is_file) ∙ e in absurd cc
            | inr x ↦ here x
          ]

  -- ---- all of it

  closed_are : (c : ℕ) → is_closed c ≡ true → superclass (superclasses p) c ≡ Some 0
  closed_are c e =
      let n = boot_count in
      let l : c < 34 = low c e in
      let both = length-append boot_files files in
      let (f, q) = item_at (boot_files ++ files) c (omega arith) in
      let b : slice_get boot_files c ≡ Some f = sym (front_at boot_files files c (omega arith)) ∙ q in
      let t : ◌≡◌ {A = Option (Option (List ℕ))} (Some (super_text f)) (Some (Some object_name)) = sym (ap (option_map super_text) b) ∙ (boot_sealed c e).1 in
      let s : super_text f ≡ Some object_name = cc in
      super_declared c f q ∙ ap (option_and_then (number_of (boot_files ++ files))) s ∙ object_number

  is_table : IsTable p
  is_table = record {
    tree = right.tree;
    supers = supers_are;
    interfaces = interfaces_are;
    listed = listed_are;
    arrays = arrays_are;
    object = let n = boot_count in let both = length-append boot_files files in let (f, q) = item_at (boot_files ++ files) 0 (omega arith) in array_declared 0 f q;
    closed = closed_are;
  }

-- the classes of an image make a table
pub table_law : TableLaw
table_law files arrays literals main right = is_table files arrays literals main right
