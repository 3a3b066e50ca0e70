-- An object's fields stand at the places that linking gives them: those of superclasses come first.
use Rattle.std.proofs.Common.{◌≡◌, ◌∙◌, sym, ap, subst, refl, ℕ, zero, suc, ◌+◌, ◌<◌, ◌==◌, Bool, true, false, not, List, [], ◌∷◌, ◌++◌, length, map, take, cond, slice_get, Option, Some, None, arith}
use Rattle.std.specs.Prelude.{option_and_then, option_map, filter, reverse}
use Rattle.std.specs.List.{count_by, flat_map, filter_map, cons_option, sum_by}
use Rattle.std.specs.Option.{option_to_list}
use Rattle.std.proofs.lemmas.Grind.{flat_map-append}
use Rattle.std.proofs.lemmas.List.{length-append, length-map}
use mathlib.Core.List.{reverse-cons}
use Rattle.std.proofs.lemmas.List.Sums.{sum_by-cons}
use Rattle.std.proofs.lemmas.Option.{slice_get_within, slice_get-map}
use Rattle.jvm_base.specs.Words.{from}
use Rattle.jvm_base.specs.declared.desc.Desc.{Desc}
use Rattle.boot_table.specs.Files.{boot_files}
use Rattle.class_format.specs.Flags.{is_static}
use Rattle.class_format.specs.declared.class.ClassFile.{ClassFile}
use Rattle.class_format.specs.declared.class.FieldItem.{FieldItem}
use Rattle.class_names.specs.Classes.{super_text}
use Rattle.hierarchy.specs.Hierarchy.{row_of, IsRanked}
use Rattle.hierarchy.specs.Walks.{walk, all_from}
use Rattle.link_rules.specs.Numbers.{map_from, number_of, super_row, super_rows}
use Rattle.link_rules.proofs.Firsts.{alone}
use Rattle.link_image.specs.Classes.{super_number}
use Rattle.link_image.specs.Fields.{is_instance, instances_at, base_of, place_in, field_info, field_infos}
use Rattle.link_image.specs.Image.{image_of}
use Rattle.link_image.proofs.BaseLaws.{through, base_sum}
use Rattle.link_image.proofs.ClassLaws.{super_within}
use Rattle.link_uses.specs.declared.lookup.Found.{Found}
use Rattle.program_image.specs.Program.{Program}
use Rattle.program_image.specs.Selection.{over_class, supers as supers_of}
use Rattle.program_image.specs.Words.{fields_of}
use Rattle.program_image.specs.declared.info.ClassInfo.{ClassInfo}
use Rattle.program_image.specs.declared.info.FieldInfo.{FieldInfo}
use Rattle.program_image.proofs.Rows.{row_some}
use Rattle.flow_types.specs.Tree.{superclasses, superclass, flat, Up}
use Rattle.flow_types.proofs.TreeLaws.{within}
use Rattle.frame_soundness.specs.Holding.{instance_fields}
use Rattle.typed_classes.specs.Tables.{IsTable}
use Rattle.linked_classes.specs.Linking.{AreRight}
use Rattle.linked_classes.proofs.Above.{back_at, item_at, declared, table_law}
use Rattle.linked_code.proofs.Members.{filtered_at}

-- ---- lists

-- the row of a class is its superclass
row_is : (cs : List ClassInfo) (c : ℕ) → row_of (map over_class cs) c ≡ option_to_list (flat (slice_get (map (λ (i : ClassInfo). i.super_class) cs) c))
row_is [] c = refl
row_is (i ∷ cs) zero = refl
row_is (i ∷ cs) (suc c) = row_is cs c

-- the superclass by its text, as a row
super_same : (all : List ClassFile) (o : Option (List ℕ)) → option_to_list (option_and_then (number_of all) o) ≡ filter_map (number_of all) (option_to_list o)
super_same all None = refl
super_same all (Some t) = by_number (number_of all t)
  where
    by_number : (o : Option ℕ) → option_to_list o ≡ cons_option o []
    by_number None = refl
    by_number (Some k) = refl

counted : {A B : Type 0} (t : B → Bool) (s : A → Bool) (g : ℕ → A → B) → ((n : ℕ) (x : A) → t (g n x) ≡ s x) → (k : ℕ) (xs : List A) → length (filter t (map_from g k xs)) ≡ count_by s xs
counted t s g same k [] = refl
counted t s g same k (x ∷ xs) = by_test (s x) refl (counted t s g same (k + 1) xs)
  where
    by_test : (b : Bool) → s x ≡ b → length (filter t (map_from g (k + 1) xs)) ≡ count_by s xs → length (filter t (map_from g k (x ∷ xs))) ≡ count_by s (x ∷ xs)
    by_test true q again =
        let passes : t (g k x) ≡ true = same k x ∙ q in
        rw passes (ap suc again) ∙ (let n : 1 + count_by s xs ≡ suc (count_by s xs) = omega arith in sym n)
        ∙ ap (λ (b : Bool). cond b 1 0 + count_by s xs) (sym q) ∙ sym (sum_by-cons (λ y. cond (s y) 1 0) x xs)
    by_test false q again =
        let fails : t (g k x) ≡ false = same k x ∙ q in
        rw fails again ∙ (let n : 0 + count_by s xs ≡ count_by s xs = omega arith in sym n)
        ∙ ap (λ (b : Bool). cond b 1 0 + count_by s xs) (sym q) ∙ sym (sum_by-cons (λ y. cond (s y) 1 0) x xs)

module _ (files : List ClassFile) (arrays : List Desc) (literals : List (List ℕ)) (main : Found) (right : AreRight files arrays literals main) (ranks : List ℕ) (ranked : IsRanked (super_rows (boot_files ++ files)) ranks) where
  abbrev p : Program
  p = image_of (boot_files ++ files) arrays literals main

  abbrev supers : List (Option ℕ)
  supers = superclasses p

  abbrev rows : List (List ℕ)
  rows = map over_class p.classes

  table : IsTable p
  table = table_law files arrays literals main right

  -- ---- what lies above a class

  row_up : (c d : ℕ) → superclass supers c ≡ Some d → row_of rows c ≡ d ∷ []
  row_up c d e = row_is p.classes c ∙ ap option_to_list e

  row_root : row_of rows 0 ≡ []
  row_root = row_is p.classes 0 ∙ ap option_to_list table.tree.root

  -- the walk of a class that reaches the root in n steps is done after them
  same_walk : (n m k c : ℕ) → Up supers n c 0 → n < m → n < k → walk m rows c ≡ walk k rows c
  unfolding walk
  same_walk n zero k c u l r = absurd (omega arith)
  same_walk n (suc m) zero c u l r = absurd (omega arith)
  same_walk zero (suc m) (suc k) c u l r =
      let e : row_of rows c ≡ [] = subst (λ (x : ℕ). row_of rows x ≡ []) (sym u) row_root in
      rw e refl
  same_walk (suc n) (suc m) (suc k) c (d, s, u) l r =
      rw (row_up c d s) (ap (λ (xs : List ℕ). c ∷ (xs ++ [])) (same_walk n m k d u (omega arith) (omega arith)))

  -- a class's superclasses are its superclass and that one's
  supers_up : (c d : ℕ) → superclass supers c ≡ Some d → supers_of p.classes c ≡ c ∷ supers_of p.classes d
  unfolding walk all_from
  supers_up c d s =
      let l : c < length supers = within supers c d s in
      let (n, lt, u) = table.tree.reached c l in
      let e : length rows ≡ length supers = length-map p.classes over_class ∙ sym (length-map p.classes (λ (i : ClassInfo). i.super_class)) in
      let w : walk (suc (length rows)) rows d ≡ walk (length rows + 2) rows d = shorter n u (suc (length rows)) (length rows + 2) (omega arith) (omega arith) in
      let q : length rows + 2 ≡ suc (suc (length rows)) = omega arith in
      ap (λ (k : ℕ). walk k rows c) q ∙ rw (row_up c d s) (ap (λ (xs : List ℕ). c ∷ xs) (alone (walk (suc (length rows)) rows d) ∙ w))
    where
      shorter : (n : ℕ) → Up supers n c 0 → (m k : ℕ) → n < suc m → n < suc k → walk m rows d ≡ walk k rows d
      shorter zero u m k l r =
          let z : superclass supers c ≡ None = subst (λ (x : ℕ). superclass supers x ≡ None) (sym u) table.tree.root in
          let y : ◌≡◌ {A = Option ℕ} None (Some d) = sym z ∙ s in absurd cc
      shorter (suc n) (e, t, u) m k l r =
          let y : ◌≡◌ {A = Option ℕ} (Some e) (Some d) = sym t ∙ s in
          let z : e ≡ d = cc in
          same_walk n m k d (subst (λ (x : ℕ). Up supers n x 0) z u) (omega arith) (omega arith)

  -- the fields that a class declares for its objects
  abbrev own_fields : ℕ → List FieldInfo
  own_fields k = filter (λ f. not (is_static f.flags)) (fields_of p k)

  -- they come behind those of its superclass
  fields_up : (c d : ℕ) → superclass supers c ≡ Some d → instance_fields p c ≡ instance_fields p d ++ own_fields c
  fields_up c d s =
      ap (λ (xs : List ℕ). flat_map own_fields (reverse xs)) (supers_up c d s)
      ∙ ap (flat_map own_fields) (reverse-cons c (supers_of p.classes d))
      ∙ flat_map-append own_fields (reverse (supers_of p.classes d)) (c ∷ [])
      ∙ ap (λ (xs : List FieldInfo). instance_fields p d ++ xs) (alone (own_fields c))

  fields_root : instance_fields p 0 ≡ own_fields 0
  unfolding walk all_from
  fields_root =
      let q : length rows + 2 ≡ suc (suc (length rows)) = omega arith in
      let one : supers_of p.classes 0 ≡ 0 ∷ [] = ap (λ (k : ℕ). walk k rows 0) q ∙ rw row_root refl in
      ap (λ (xs : List ℕ). flat_map own_fields (reverse xs)) one ∙ alone (own_fields 0)

  -- ---- how many there are

  fields_are : (c : ℕ) (f : ClassFile) → slice_get (boot_files ++ files) c ≡ Some f → fields_of p c ≡ field_infos (length (boot_files ++ files) + length arrays) literals f (0 + c) (base_of (boot_files ++ files) (0 + c))
  fields_are c f e = ap (λ (z : Option ClassInfo). from [] (λ k. k.fields) z) (declared files arrays literals main right c f e)

  own_count : (c : ℕ) (f : ClassFile) → slice_get (boot_files ++ files) c ≡ Some f → length (own_fields c) ≡ instances_at (boot_files ++ files) c
  own_count c f e =
      ap (λ (fs : List FieldInfo). length (filter (λ f. not (is_static f.flags)) fs)) (fields_are c f e)
      ∙ counted (λ (f : FieldInfo). not (is_static f.flags)) is_instance (λ i z. field_info (length (boot_files ++ files) + length arrays) literals f (0 + c) (place_in (base_of (boot_files ++ files) (0 + c)) f.fields i z) z) (λ i z. refl) 0 f.fields
      ∙ ap (λ (o : Option ClassFile). count_by is_instance (from [] (λ f. f.fields) o)) (sym e)

  super_declared : (c : ℕ) (f : ClassFile) → slice_get (boot_files ++ files) c ≡ Some f → superclass supers c ≡ super_number (boot_files ++ files) f
  super_declared c f e =
      ap flat (slice_get-map (λ (k : ClassInfo). k.super_class) p.classes c ∙ ap (option_map (λ (k : ClassInfo). k.super_class)) (declared files arrays literals main right c f e))

  row_declared : (c : ℕ) (f : ClassFile) → slice_get (boot_files ++ files) c ≡ Some f → row_of (super_rows (boot_files ++ files)) c ≡ option_to_list (superclass supers c)
  row_declared c f e =
      row_some (super_row (boot_files ++ files)) (boot_files ++ files) c f e
      ∙ sym (super_same (boot_files ++ files) (super_text f)) ∙ ap option_to_list (sym (super_declared c f e))

  -- the first place behind the fields of the superclass
  base_up : (c d : ℕ) (f : ClassFile) → slice_get (boot_files ++ files) c ≡ Some f → superclass supers c ≡ Some d → base_of (boot_files ++ files) c ≡ instances_at (boot_files ++ files) d + base_of (boot_files ++ files) d
  base_up c d f e s =
      let one : base_of (boot_files ++ files) c ≡ sum_by (through (boot_files ++ files)) (d ∷ []) = base_sum (boot_files ++ files) ranks ranked c ∙ ap (sum_by (through (boot_files ++ files))) (row_declared c f e ∙ ap option_to_list s) in
      let two = sum_by-cons (through (boot_files ++ files)) d [] in
      let none : sum_by (through (boot_files ++ files)) [] ≡ 0 = refl in
      omega arith

  base_root : (f : ClassFile) → slice_get (boot_files ++ files) 0 ≡ Some f → base_of (boot_files ++ files) 0 ≡ 0
  base_root f e = base_sum (boot_files ++ files) ranks ranked 0 ∙ ap (sum_by (through (boot_files ++ files))) (row_declared 0 f e ∙ ap option_to_list table.tree.root)

  all_count : (n c : ℕ) (f : ClassFile) → Up supers n c 0 → slice_get (boot_files ++ files) c ≡ Some f → length (instance_fields p c) ≡ instances_at (boot_files ++ files) c + base_of (boot_files ++ files) c
  all_count zero c f u e =
      let s : c ≡ 0 = u in
      let root : slice_get (boot_files ++ files) 0 ≡ Some f = subst (λ (k : ℕ). slice_get (boot_files ++ files) k ≡ Some f) s e in
      let a = ap (λ (fs : List FieldInfo). length fs) fields_root in
      let b = own_count 0 f root in
      let z = base_root f root in
      subst (λ (k : ℕ). length (instance_fields p k) ≡ instances_at (boot_files ++ files) k + base_of (boot_files ++ files) k) (sym s) (omega arith)
  all_count (suc n) c f (d, s, u) e =
      let l : d < length (boot_files ++ files) = super_within (boot_files ++ files) f d (sym (super_declared c f e) ∙ s) in
      let (g, q) = item_at (boot_files ++ files) d l in
      let again = all_count n d g u q in
      let a = ap (λ (fs : List FieldInfo). length fs) (fields_up c d s) in
      let b = length-append (instance_fields p d) (own_fields c) in
      let own = own_count c f e in
      let base = base_up c d f e s in
      omega arith

  -- a field of a class below Object stands at its place
  pub instance_placed : (c i : ℕ) (f : ClassFile) (y : FieldItem) → slice_get (boot_files ++ files) c ≡ Some f → slice_get f.fields i ≡ Some y → is_static y.flags ≡ false → (c == 0) ≡ false → slice_get (instance_fields p c) (base_of (boot_files ++ files) c + count_by is_instance (take i f.fields)) ≡ Some (field_info (length (boot_files ++ files) + length arrays) literals f (0 + c) (place_in (base_of (boot_files ++ files) (0 + c)) f.fields (0 + i) y) y)
  instance_placed c i f y e q fixed other =
      let l = slice_get_within (boot_files ++ files) c f e in
      let inside : c < length supers = (let a = length-map p.classes (λ (i : ClassInfo). i.super_class) in let b = slice_get_within p.classes c _ (declared files arrays literals main right c f e) in omega arith) in
      let (n, lt, u) = table.tree.reached c inside in
      by_steps n u
    where
      by_steps : (n : ℕ) → Up supers n c 0 → slice_get (instance_fields p c) (base_of (boot_files ++ files) c + count_by is_instance (take i f.fields)) ≡ Some (field_info (length (boot_files ++ files) + length arrays) literals f (0 + c) (place_in (base_of (boot_files ++ files) (0 + c)) f.fields (0 + i) y) y)
      by_steps zero u = let s : c ≡ 0 = u in let z : true ≡ false = ap (λ (k : ℕ). k == 0) (sym s) ∙ other in absurd cc
      by_steps (suc n) (d, s, u) =
          let k : ℕ = count_by is_instance (take i f.fields) in
          let inner : d < length (boot_files ++ files) = super_within (boot_files ++ files) f d (sym (super_declared c f e) ∙ s) in
          let (g, r) = item_at (boot_files ++ files) d inner in
          let long = all_count n d g u r in
          let base = base_up c d f e s in
          let at : base_of (boot_files ++ files) c + k ≡ length (instance_fields p d) + k = omega arith in
          ap (λ (fs : List FieldInfo). slice_get fs (base_of (boot_files ++ files) c + k)) (fields_up c d s)
          ∙ ap (slice_get (instance_fields p d ++ own_fields c)) at
          ∙ back_at (instance_fields p d) (own_fields c) k
          ∙ ap (λ (fs : List FieldInfo). slice_get (filter (λ f. not (is_static f.flags)) fs) k) (fields_are c f e)
          ∙ filtered_at (λ (f : FieldInfo). not (is_static f.flags)) is_instance (λ j z. field_info (length (boot_files ++ files) + length arrays) literals f (0 + c) (place_in (base_of (boot_files ++ files) (0 + c)) f.fields j z) z) (λ j z. refl) 0 f.fields i y q (ap not fixed)
