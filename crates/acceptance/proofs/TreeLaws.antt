-- The superclasses of a linked program form one tree, with Object at its root.
use Rattle.std.proofs.Common.{◌≡◌, ◌∙◌, sym, ap, subst, refl, ℕ, zero, suc, ◌+◌, ◌-◌, ◌<◌, ◌≤◌, true, false, nat_lt, if◌then◌else◌, List, [], ◌∷◌, ◌++◌, length, map, slice_get, Option, Some, None, inl, inr, Contains, arith}
use Rattle.std.specs.Prelude.{option_map, option_and_then, slice_index}
use Rattle.std.specs.List.{filter_map}
use Rattle.std.specs.Option.{option_to_list}
use Rattle.std.proofs.lemmas.List.{length-map}
use Rattle.std.proofs.lemmas.Option.{slice_get_within, slice_get-map}
use Rattle.jvm_base.specs.declared.desc.Desc.{Desc}
use Rattle.class_format.specs.declared.class.ClassFile.{ClassFile}
use Rattle.class_names.specs.Classes.{super_text}
use Rattle.hierarchy.specs.Hierarchy.{row_of, IsRanked}
use Rattle.link_rules.specs.Numbers.{number_of, super_row, super_rows}
use Rattle.link_uses.specs.declared.lookup.Found.{Found}
use Rattle.link_arrays.specs.ArrayClasses.{array_class, array_classes}
use Rattle.program_image.specs.declared.info.ClassInfo.{ClassInfo}
use Rattle.link_image.specs.Classes.{super_number, class_info, declared_infos, class_infos}
use Rattle.link_image.specs.Image.{image_of}
use Rattle.link_image.proofs.ClassLaws.{super_within, count_infos}
use Rattle.link_image.proofs.ListLaws.{length_map_from, get_map_from}
use Rattle.flow_types.proofs.TreeLaws.{cases_lt, within}
use Rattle.flow_types.proofs.Rooted.{tree}
use Rattle.std.proofs.lemmas.Bool.Decides.{nat_tests}
use Rattle.flow_types.specs.Tree.{superclasses, superclass, flat, Up, IsTree}

-- what lies in the front of a list
pub front_at : {A : Type 0} (xs ys : List A) (i : ℕ) → i < length xs → slice_get (xs ++ ys) i ≡ slice_get xs i
front_at [] ys i l = absurd (omega arith)
front_at (x ∷ xs) ys zero l = refl
front_at (x ∷ xs) ys (suc i) l = front_at xs ys i (omega arith)

-- and behind it
pub back_at : {A : Type 0} (xs ys : List A) (i : ℕ) → slice_get (xs ++ ys) (length xs + i) ≡ slice_get ys i
back_at [] ys i = ap (slice_get ys) (let e : length {A = ℕ} [] + i ≡ i = omega arith in e)
back_at (x ∷ xs) ys i = let e : suc (length xs) + i ≡ suc (length xs + i) = omega arith in ap (slice_get (x ∷ xs ++ ys)) e ∙ back_at xs ys i

-- a place of a list holds something
pub there : {A : Type 0} (xs : List A) (i : ℕ) → i < length xs → (x : A) × (slice_get xs i ≡ Some x)
there [] i l = absurd (omega arith)
there (x ∷ xs) zero l = (x, refl)
there (x ∷ xs) (suc i) l = there xs i (omega arith)

module _ (all : List ClassFile) (arrays : List Desc) (literals : List (List ℕ)) (main : Found) where
  -- the superclass of a declared class
  declared : (c : ℕ) (f : ClassFile) → slice_get all c ≡ Some f → superclass (superclasses (image_of all arrays literals main)) c ≡ super_number all f
  unfolding image_of class_infos
  declared c f e =
      let n : ℕ = length all + length arrays in
      let own : List ClassInfo = declared_infos all n literals in
      let inside : c < length all = slice_get_within all c f e in
      let long : length own ≡ length all = length_map_from (class_info all n literals) 0 all in
      ap flat (slice_get-map (λ (k : ClassInfo). k.super_class) (own ++ array_classes all arrays) c
      ∙ ap (option_map (λ (k : ClassInfo). k.super_class)) (front_at own (array_classes all arrays) c (omega arith) ∙ get_map_from (class_info all n literals) 0 all c ∙ ap (option_map (class_info all n literals (0 + c))) e))

  -- of an array class
  of_array : (i : ℕ) (d : Desc) → slice_get arrays i ≡ Some d → superclass (superclasses (image_of all arrays literals main)) (length all + i) ≡ Some 0
  unfolding image_of class_infos
  of_array i d e =
      let n : ℕ = length all + length arrays in
      let own : List ClassInfo = declared_infos all n literals in
      let long : length own ≡ length all = length_map_from (class_info all n literals) 0 all in
      let at : length all + i ≡ length own + i = omega arith in
      ap flat (slice_get-map (λ (k : ClassInfo). k.super_class) (own ++ array_classes all arrays) (length all + i)
      ∙ ap (option_map (λ (k : ClassInfo). k.super_class)) (ap (slice_get (own ++ array_classes all arrays)) at ∙ back_at own (array_classes all arrays) i ∙ slice_get-map (array_class all arrays) arrays i ∙ ap (option_map (array_class all arrays)) e))

  -- as many superclasses as classes
  count : length (superclasses (image_of all arrays literals main)) ≡ length all + length arrays
  unfolding image_of
  count = length-map (class_infos all arrays literals) (λ (k : ClassInfo). k.super_class) ∙ count_infos all arrays literals

  -- the superclass is in the row
  in_row : (c k : ℕ) (f : ClassFile) → slice_get all c ≡ Some f → super_number all f ≡ Some k → Contains (row_of (super_rows all) c) k
  in_row c k f e h = subst (λ (r : List ℕ). Contains r k) (sym (row_at all c f e ∙ one (super_text f) h)) (0, omega arith, refl)
    where
      row_at : (fs : List ClassFile) (c : ℕ) (f : ClassFile) → slice_get fs c ≡ Some f → row_of (map (super_row all) fs) c ≡ super_row all f
      row_at [] c f e = absurd cc
      row_at (g ∷ gs) zero f e = let s : g ≡ f = cc in ap (super_row all) s
      row_at (g ∷ gs) (suc c) f e = row_at gs c f e

      one : (o : Option (List ℕ)) → option_and_then (number_of all) o ≡ Some k → filter_map (number_of all) (option_to_list o) ≡ k ∷ []
      one None h = absurd cc
      one (Some t) h = rw h refl

  module _ (ranks : List ℕ) (ranked : IsRanked (super_rows all) ranks) (some : 0 < length all)
      (root : (f : ClassFile) → slice_get all 0 ≡ Some f → super_number all f ≡ None)
      (up : (c : ℕ) (f : ClassFile) → 0 < c → slice_get all c ≡ Some f → (k : ℕ) × (super_number all f ≡ Some k)) where
    -- a rank for each class: array classes come last
    rank : ℕ → ℕ
    rank c = if nat_lt c (length all) then slice_index ranks c else length all + 2

    rank_declared : (c : ℕ) → c < length all → rank c ≡ slice_index ranks c
    unfolding rank
    rank_declared c l = let t : nat_lt c (length all) ≡ true = grind (arith, nat_tests) in rw t refl

    rank_array : (c : ℕ) → length all ≤ c → rank c ≡ length all + 2
    unfolding rank
    rank_array c l = let t : nat_lt c (length all) ≡ false = grind (arith, nat_tests) in rw t refl

    -- a declared rank is lower than an array's
    low : (c : ℕ) → c < length all → rank c < length all + 2
    low c l =
        let most : slice_index ranks c < length (super_rows all) + 2 = ranked.most c in
        let rows : length (super_rows all) ≡ length all = length-map all (super_row all) in
        let same : rank c ≡ slice_index ranks c = rank_declared c l in
        omega arith

    -- the place of an array class
    array_place : (c : ℕ) → length all ≤ c → c < length all + length arrays → (i : ℕ) × (c ≡ length all + i) × (i < length arrays)
    array_place c l h = (c - length all, omega arith, omega arith)

    -- a superclass has a lower rank, and is declared
    falls : (c k : ℕ) → superclass (superclasses (image_of all arrays literals main)) c ≡ Some k → (rank k < rank c) × (k < length all)
    falls c k e = elim (cases_lt c (length all)) [
      | inl l ↦
          let f = there all c l in
          let s : super_number all f.0 ≡ Some k = sym (declared c f.0 f.1) ∙ e in
          let inside : k < length all = super_within all f.0 k s in
          let lower : slice_index ranks k < slice_index ranks c = ranked.falls c k (in_row c k f.0 f.1 s) in
          let a : rank k ≡ slice_index ranks k = rank_declared k inside in
          let b : rank c ≡ slice_index ranks c = rank_declared c l in
          (omega arith, inside)
      | inr g ↦
          let h : c < length (superclasses (image_of all arrays literals main)) = within (superclasses (image_of all arrays literals main)) c k e in
          let n : length (superclasses (image_of all arrays literals main)) ≡ length all + length arrays = count in
          let i = array_place c g (omega arith) in
          let d = there arrays i.0 i.2 in
          let z : Some 0 ≡ Some k = sym (ap (superclass (superclasses (image_of all arrays literals main))) i.1 ∙ of_array i.0 d.0 d.1) ∙ e in
          let q : 0 ≡ k = cc in
          let inside : k < length all = omega arith in
          let a : rank k < length all + 2 = low k inside in
          let b : rank c ≡ length all + 2 = rank_array c g in
          (omega arith, inside)
    ]

    -- so nothing lies above itself
    lower : (n c k : ℕ) → Up (superclasses (image_of all arrays literals main)) (suc n) c k → rank k < rank c
    lower zero c k u = let e : superclass (superclasses (image_of all arrays literals main)) c ≡ Some k = u.1 ∙ ap (λ (x : ℕ). Some x) u.2 in (falls c k e).0
    lower (suc n) c k u =
        let a : rank u.0 < rank c = (falls c u.0 u.1).0 in
        let b : rank k < rank u.0 = lower n u.0 k u.2 in
        omega arith

    -- each class but the first has a superclass
    parents : (c : ℕ) → c < length (superclasses (image_of all arrays literals main)) → (c ≡ 0 → ⊥) → (k : ℕ) × (superclass (superclasses (image_of all arrays literals main)) c ≡ Some k) × (k < length (superclasses (image_of all arrays literals main)))
    parents c l other =
        let n : length (superclasses (image_of all arrays literals main)) ≡ length all + length arrays = count in
        elim (cases_lt c (length all)) [
          | inl h ↦
              let f = there all c h in
              let k = up c f.0 (not_first c other) f.1 in
              let inside : k.0 < length all = super_within all f.0 k.0 k.1 in
              (k.0, declared c f.0 f.1 ∙ k.1, omega arith)
          | inr g ↦
              let i = array_place c g (omega arith) in
              let d = there arrays i.0 i.2 in
              (0, ap (superclass (superclasses (image_of all arrays literals main))) i.1 ∙ of_array i.0 d.0 d.1, omega arith)
        ]
      where
        not_first : (c : ℕ) → (c ≡ 0 → ⊥) → 0 < c
        not_first zero h = absurd (h refl)
        not_first (suc c) h = omega arith

    -- one tree
    pub is_tree : IsTree (superclasses (image_of all arrays literals main))
    is_tree = tree (superclasses (image_of all arrays literals main)) (record {
      some = let n : length (superclasses (image_of all arrays literals main)) ≡ length all + length arrays = count in omega arith;
      root = let f = there all 0 some in declared 0 f.0 f.1 ∙ root f.0 f.1;
      parents = parents;
      loops = λ n c u. let l : rank c < rank c = lower n c c u in absurd (omega arith);
    })
