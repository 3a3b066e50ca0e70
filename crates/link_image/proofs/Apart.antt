-- No class of an image lies above itself, over superclasses, interfaces and parts of arrays.
use Rattle.std.proofs.Common.{◌≡◌, ℕ, zero, suc, ◌+◌, ◌<◌, ◌⊎◌, inl, inr, List, [], ◌∷◌, ◌++◌, Option, Some, None, length, map, slice_get, slice_index, get_or, ap, sym, ◌∙◌, subst, refl, arith}
use Rattle.std.specs.Prelude.{option_map, option_and_then, ◌-◌}
use Rattle.std.specs.List.{Contains, filter_map, cons_option}
use Rattle.std.specs.Option.{option_to_list}
use Rattle.std.proofs.lemmas.List.{length-map, get_or_append_left, get_or-append-add}
use Rattle.std.proofs.lemmas.List.Elements.{All-contains, Contains-append_cases}
use Rattle.std.proofs.lemmas.Option.{slice_get_within, get_or_from_slice_get, slice_get-map}
use Rattle.jvm_base.specs.declared.desc.Desc.{Desc}
use Rattle.jvm_base.proofs.Options.{map_some, some_is}
use Rattle.class_format.specs.declared.class.ClassFile.{ClassFile}
use Rattle.class_names.specs.Classes.{super_text}
use Rattle.hierarchy.specs.Hierarchy.{row_of, IsRanked, Under}
use Rattle.hierarchy.specs.Hierarchy.Under.{directly, over}
use Rattle.link_rules.specs.Numbers.{number_of, super_row, interface_row, above_rows}
use Rattle.link_arrays.proofs.ArrayLaws.{part_falls}
use Rattle.link_arrays.specs.ArrayClasses.{type_number, part_type, array_class, array_classes}
use Rattle.program_image.specs.Subclass.{all_above}
use Rattle.program_image.specs.declared.info.ClassInfo.{ClassInfo}
use Rattle.link_image.specs.Classes.{super_number, class_info, declared_infos, class_infos}
use Rattle.link_image.proofs.ListLaws.{get_map_from, length_map_from}
use Rattle.class_format.proofs.Recursion.{all_of}
use Rattle.link_image.proofs.ClassLaws.{above_within}

-- ---- which class an item is

-- an item of two lists is one of either
pub in_either : {A : Type 0} (xs ys : List A) (c : ℕ) (x : A) → slice_get (xs ++ ys) c ≡ Some x → (slice_get xs c ≡ Some x) ⊎ ((j : ℕ) × (c ≡ length xs + j) × (slice_get ys j ≡ Some x))
in_either [] ys c x e = inr (c, omega arith, e)
in_either (y ∷ xs) ys zero x e = inl e
in_either (y ∷ xs) ys (suc c) x e = elim (in_either xs ys c x e) [
  | inl h ↦ inl h
  | inr h ↦ inr (h.0, (let q = h.1 in omega arith), h.2)
]

-- a class of a number is declared or that of an array
pub data Kind (all : List ClassFile) (arrays : List Desc) (literals : List (List ℕ)) (c : ℕ) (info : ClassInfo) : Type 0 where
  declares : (f : ClassFile) → slice_get all c ≡ Some f → info ≡ class_info all (length all + length arrays) literals c f → Kind all arrays literals c info
  arrays_of : (j : ℕ) (d : Desc) → c ≡ length all + j → slice_get arrays j ≡ Some d → info ≡ array_class all arrays d → Kind all arrays literals c info

pub kind_of : (all : List ClassFile) (arrays : List Desc) (literals : List (List ℕ)) (c : ℕ) (info : ClassInfo) → slice_get (class_infos all arrays literals) c ≡ Some info → Kind all arrays literals c info
unfolding class_infos
kind_of all arrays literals c info e = elim (in_either (declared_infos all (length all + length arrays) literals) (array_classes all arrays) c info e) [
  | inl h ↦
      let n = length all + length arrays in
      let t = map_some (class_info all n literals (0 + c)) (slice_get all c) info (sym (get_map_from (class_info all n literals) 0 all c) ∙ h) in
      let z : 0 + c ≡ c = omega arith in
      declares t.0 t.1 (sym t.2 ∙ ap (λ i. class_info all n literals i t.0) z)
  | inr h ↦
      let l : length (declared_infos all (length all + length arrays) literals) ≡ length all = length_map_from (class_info all (length all + length arrays) literals) 0 all in
      let t = map_some (array_class all arrays) (slice_get arrays h.0) info (sym (slice_get-map (array_class all arrays) arrays h.0) ∙ h.2) in
      let at : c ≡ length all + h.0 = h.1 ∙ ap (λ i. i + h.0) l in
      arrays_of h.0 t.0 at t.1 (sym t.2)
]

-- a row with something in it is that of a class
pub row_info : (infos : List ClassInfo) (g : ClassInfo → List ℕ) (c k : ℕ) → Contains (row_of (map g infos) c) k → (info : ClassInfo) × (slice_get infos c ≡ Some info) × Contains (g info) k
row_info [] g c k w = absurd (let l = w.1 in omega arith)
row_info (x ∷ xs) g zero k w = (x, refl, w)
row_info (x ∷ xs) g (suc c) k w = row_info xs g c k w

in_option : (o : Option ℕ) (k : ℕ) → Contains (option_to_list o) k → o ≡ Some k
in_option None k w = absurd (let l = w.1 in omega arith)
in_option (Some x) k w = by w.0 w.1 w.2
  where
    by : (i : ℕ) → i < 1 → get_or (x ∷ []) i k ≡ k → Some x ≡ Some k
    by zero l e = ap (λ z. Some z) e
    by (suc i) l e = absurd (omega arith)

-- ---- levels

-- a number for each class: its rank, and for an array one above all ranks that rises with its
-- dimensions
abbrev pub levels : List ClassFile → List Desc → List ℕ → List ℕ
levels all arrays ranks = ranks ++ map (λ d. length all + 2 + d.dims) arrays

super_same : (all : List ClassFile) (o : Option (List ℕ)) → option_to_list (option_and_then (number_of all) o) ≡ filter_map (number_of all) (option_to_list o)
super_same all None = refl
super_same all (Some t) = by (number_of all t)
  where
    by : (o : Option ℕ) → option_to_list o ≡ cons_option o []
    by None = refl
    by (Some k) = refl

-- what lies directly above a declared class
declared_above : (all : List ClassFile) (n : ℕ) (literals : List (List ℕ)) (c k : ℕ) (f : ClassFile) → Contains (all_above (class_info all n literals c f)) k → Contains (super_row all f ++ interface_row all f) k
declared_above all n literals c k f w = elim (Contains-append_cases (option_to_list (super_number all f) ++ interface_row all f) [] k w) [
  | inl a ↦ subst (λ z. Contains (z ++ interface_row all f) k) (super_same all (super_text f)) a
  | inr b ↦ absurd (let l = b.1 in omega arith)
]

above_row : (all : List ClassFile) (fs : List ClassFile) (c : ℕ) (f : ClassFile) → slice_get fs c ≡ Some f → row_of (map (λ g. super_row all g ++ interface_row all g) fs) c ≡ super_row all f ++ interface_row all f
above_row all [] c f e = absurd cc
above_row all (g ∷ gs) zero f e = let s : g ≡ f = cc in ap (λ z. super_row all z ++ interface_row all z) s
above_row all (g ∷ gs) (suc c) f e = above_row all gs c f e

level_declared : (all : List ClassFile) (arrays : List Desc) (ranks : List ℕ) (c : ℕ) → length ranks ≡ length all → c < length all → slice_index (levels all arrays ranks) c ≡ slice_index ranks c
level_declared all arrays ranks c same h = get_or_append_left ranks (map (λ (d : Desc). length all + 2 + d.dims) arrays) 0 c (omega arith)

level_array : (all : List ClassFile) (arrays : List Desc) (ranks : List ℕ) (j : ℕ) (d : Desc) → length ranks ≡ length all → slice_get arrays j ≡ Some d → slice_index (levels all arrays ranks) (length all + j) ≡ length all + 2 + d.dims
level_array all arrays ranks j d same e =
    let g : Desc → ℕ = λ d. length all + 2 + d.dims in
    let s : length all + j ≡ length ranks + j = omega arith in
    ap (λ i. get_or (ranks ++ map g arrays) i 0) s
    ∙ get_or-append-add ranks (map g arrays) j 0
    ∙ get_or_from_slice_get (map g arrays) j (g d) 0 (slice_get-map g arrays j ∙ ap (option_map g) e)

-- the part of an array lies below it
part_below : (all : List ClassFile) (arrays : List Desc) (ranks : List ℕ) (d : Desc) (k : ℕ) → length ranks ≡ length all → ((c : ℕ) → slice_index ranks c < length all + 2) → type_number all arrays (part_type d) ≡ Some k → slice_index (levels all arrays ranks) k < length all + 2 + d.dims
part_below all arrays ranks d k same most e = elim (part_falls all arrays d k e) [
  | inl inside ↦
      let l = level_declared all arrays ranks k same inside in
      let m = most k in omega arith
  | inr array ↦
      let behind : length all + (k - length all) ≡ k = (let q = array.0 in omega arith) in
      let l = level_array all arrays ranks (k - length all) (part_type d) same array.2 in
      let l2 : slice_index (levels all arrays ranks) k ≡ length all + 2 + (d.dims - 1) = ap (slice_index (levels all arrays ranks)) (sym behind) ∙ l in
      let falls = array.3 in omega arith
]

-- each class lies below what is directly above it
pub level_falls : (all : List ClassFile) (arrays : List Desc) (literals : List (List ℕ)) (ranks : List ℕ) → IsRanked (above_rows all) ranks → 0 < length all → (c k : ℕ) → Contains (row_of (map all_above (class_infos all arrays literals)) c) k → slice_index (levels all arrays ranks) k < slice_index (levels all arrays ranks) c
level_falls all arrays literals ranks r some c k w =
    let i = row_info (class_infos all arrays literals) all_above c k w in
    by i.0 (kind_of all arrays literals c i.0 i.1) i.2
  where
    same : length ranks ≡ length all
    same = r.all ∙ length-map all (λ g. super_row all g ++ interface_row all g)

    most : (c : ℕ) → slice_index ranks c < length all + 2
    most c = let m = r.most c in let l = length-map all (λ g. super_row all g ++ interface_row all g) in omega arith

    by : (info : ClassInfo) → Kind all arrays literals c info → Contains (all_above info) k → slice_index (levels all arrays ranks) k < slice_index (levels all arrays ranks) c
    by info (declares f at e) w =
        let w2 = declared_above all (length all + length arrays) literals c k f (subst (λ z. Contains (all_above z) k) e w) in
        let w3 : Contains (row_of (above_rows all) c) k = subst (λ z. Contains z k) (sym (above_row all all c f at)) w2 in
        let falls = r.falls c k w3 in
        let inside : c < length all = slice_get_within all c f at in
        let lc = level_declared all arrays ranks c same inside in
        let in_all : k < length all = All-contains (λ x. x < length all) (super_row all f ++ interface_row all f) k (all_of (λ x. x < length all) (super_row all f ++ interface_row all f) (above_within all f)) w2 in
        let lk = level_declared all arrays ranks k same in_all in
        omega arith
    by info (arrays_of j d at there e) w =
        let lc : slice_index (levels all arrays ranks) c ≡ length all + 2 + d.dims = ap (slice_index (levels all arrays ranks)) at ∙ level_array all arrays ranks j d same there in
        let w2 : Contains (all_above (array_class all arrays d)) k = subst (λ z. Contains (all_above z) k) e w in
        elim (Contains-append_cases (0 ∷ []) (option_to_list (type_number all arrays (part_type d))) k w2) [
          | inl a ↦
              let z : Some 0 ≡ Some k = in_option (Some 0) k a in
              let z2 : 0 ≡ k = some_is 0 k z in
              let l = level_declared all arrays ranks 0 same some in
              let l2 : slice_index (levels all arrays ranks) k ≡ slice_index ranks 0 = ap (slice_index (levels all arrays ranks)) (sym z2) ∙ l in
              let m = most 0 in omega arith
          | inr b ↦
              let l = part_below all arrays ranks d k same most (in_option (type_number all arrays (part_type d)) k b) in omega arith
        ]

under_falls : (rows : List (List ℕ)) (ls : List ℕ) → ((c k : ℕ) → Contains (row_of rows c) k → slice_index ls k < slice_index ls c) → (c d : ℕ) → Under rows c d → slice_index ls d < slice_index ls c
under_falls rows ls h c d (directly w) = h c d w
under_falls rows ls h c d (over {k = m} w u) = let a = h c m w in let b = under_falls rows ls h m d u in omega arith

pub none_above_itself : (all : List ClassFile) (arrays : List Desc) (literals : List (List ℕ)) (ranks : List ℕ) → IsRanked (above_rows all) ranks → 0 < length all → (c : ℕ) → Under (map all_above (class_infos all arrays literals)) c c → ⊥
none_above_itself all arrays literals ranks r some c u =
    let l = under_falls (map all_above (class_infos all arrays literals)) (levels all arrays ranks) (level_falls all arrays literals ranks r some) c c u in omega arith
