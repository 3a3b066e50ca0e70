-- An object has the fields of its superclasses at their places.
use Rattle.std.proofs.Common.{◌≡◌, ◌∙◌, sym, ap, subst, refl, ℕ, zero, suc, ◌+◌, ◌<◌, ◌==◌, Bool, true, false, not, List, [], ◌∷◌, ◌++◌, Option, Some, None, arith}
use Rattle.std.specs.Prelude.{slice_get, map, filter, reverse, length, ◌||◌, if◌then◌else◌}
use Rattle.std.specs.List.{flat_map}
use Rattle.std.specs.Option.{option_to_list}
use Rattle.std.proofs.lemmas.Grind.{flat_map-append}
use Rattle.std.proofs.lemmas.List.{map-append, length-map}
use Rattle.std.proofs.lemmas.Bool.Decides.{nat_tests}
use mathlib.Core.List.{reverse-cons}
use Rattle.jvm_base.specs.Words.{from}
use Rattle.class_format.specs.Flags.{is_static}
use Rattle.hierarchy.specs.Hierarchy.{row_of}
use Rattle.hierarchy.specs.Walks.{walk, all_from}
use Rattle.program_image.specs.Program.{Program}
use Rattle.program_image.specs.Selection.{over_class, supers as supers_of}
use Rattle.program_image.specs.Words.{fields_of}
use Rattle.program_image.specs.declared.info.ArrayInfo.{ArrayInfo}
use Rattle.program_image.specs.declared.info.ClassInfo.{ClassInfo}
use Rattle.program_image.specs.declared.info.FieldInfo.{FieldInfo}
use Rattle.flow_types.specs.Tree.{superclasses, superclass, flat, Up}
use Rattle.flow_types.specs.Types.{type_fits}
use Rattle.flow_types.specs.declared.flow_type.FlowType.{FlowType}
use Rattle.flow_types.specs.declared.flow_type.FlowType.TheVariants as flow
use Rattle.flow_types.proofs.TreeLaws.{below-to, within}
use Rattle.instruction_table.specs.ClassTypes.{desc_type, element_type, array_at, class_type, is_an_interface}
use Rattle.machine_state.specs.BootClasses.{class_class}
use Rattle.frame_soundness.specs.AcceptedProgram.{HasField}
use Rattle.frame_soundness.specs.Holding.{instance_fields, field_types, is_text}
use Rattle.typed_classes.specs.Tables.{is_closed, IsTable}

-- the row of a class is its superclass
row_is : (cs : List ClassInfo) (c : ℕ) → row_of (map over_class cs) c ≡ option_to_list (flat (slice_get (map (λ (i : ClassInfo). i.super_class) cs) c))
row_is [] c = refl
row_is (i ∷ cs) zero = refl
row_is (i ∷ cs) (suc c) = row_is cs c

-- what stands at a place of a list stands there once more is behind
at_left : {A : Type 0} (xs ys : List A) (k : ℕ) (x : A) → slice_get xs k ≡ Some x → slice_get (xs ++ ys) k ≡ Some x
at_left [] ys k x e = absurd cc
at_left (z ∷ xs) ys zero x e = e
at_left (z ∷ xs) ys (suc k) x e = at_left xs ys k x e

no_rest : {A : Type 0} (xs : List A) → xs ++ [] ≡ xs
no_rest [] = refl
no_rest (x ∷ xs) = ap (λ (ys : List _). x ∷ ys) (no_rest xs)

-- neither of two holds
neither : (a b : Bool) → (a || b) ≡ false → (a ≡ false) × (b ≡ false)
neither true b e = absurd cc
neither false b e = (refl, e)

module _ (p : Program) (table : IsTable p) where
  abbrev supers : List (Option ℕ)
  supers = superclasses p

  abbrev rows : List (List ℕ)
  rows = map over_class p.classes

  row_up : (c d : ℕ) → superclass supers c ≡ Some d → row_of rows c ≡ d ∷ []
  row_up c d e = row_is p.classes c ∙ ap option_to_list e

  row_root : row_of rows 0 ≡ []
  row_root = row_is p.classes 0 ∙ ap option_to_list table.tree.root

  -- the walk of a class that reaches the root in n steps is done after them
  same_walk : (n m k c : ℕ) → Up supers n c 0 → n < m → n < k → walk m rows c ≡ walk k rows c
  unfolding walk
  same_walk n zero k c u l r = absurd (omega arith)
  same_walk n (suc m) zero c u l r = absurd (omega arith)
  same_walk zero (suc m) (suc k) c u l r =
      let e : row_of rows c ≡ [] = subst (λ (x : ℕ). row_of rows x ≡ []) (sym u) row_root in
      rw e refl
  same_walk (suc n) (suc m) (suc k) c (d, s, u) l r =
      rw (row_up c d s) (ap (λ (xs : List ℕ). c ∷ (xs ++ [])) (same_walk n m k d u (omega arith) (omega arith)))

  -- a class's superclasses are its superclass and that one's
  supers_up : (c d : ℕ) → superclass supers c ≡ Some d → supers_of p.classes c ≡ c ∷ supers_of p.classes d
  unfolding walk all_from
  supers_up c d s =
      let l : c < length supers = within supers c d s in
      let (n, lt, u) = table.tree.reached c l in
      let e : length rows ≡ length supers = length-map p.classes over_class ∙ sym (length-map p.classes (λ (i : ClassInfo). i.super_class)) in
      let w : walk (suc (length rows)) rows d ≡ walk (length rows + 2) rows d = shorter n c d s u (suc (length rows)) (length rows + 2) (omega arith) (omega arith) in
      let q : length rows + 2 ≡ suc (suc (length rows)) = omega arith in
      ap (λ (k : ℕ). walk k rows c) q ∙ rw (row_up c d s) (ap (λ (xs : List ℕ). c ∷ xs) (no_rest (walk (suc (length rows)) rows d) ∙ w))
    where
      shorter : (n c d : ℕ) → superclass supers c ≡ Some d → Up supers n c 0 → (m k : ℕ) → n < suc m → n < suc k → walk m rows d ≡ walk k rows d
      shorter zero c d s u m k l r = let z : superclass supers c ≡ None = subst (λ (x : ℕ). superclass supers x ≡ None) (sym u) table.tree.root in let y : ◌≡◌ {A = Option ℕ} None (Some d) = sym z ∙ s in absurd cc
      shorter (suc n) c d s (e, t, u) m k l r =
          let y : ◌≡◌ {A = Option ℕ} (Some e) (Some d) = sym t ∙ s in
          let z : e ≡ d = cc in
          same_walk n m k d (subst (λ (x : ℕ). Up supers n x 0) z u) (omega arith) (omega arith)

  -- the fields that a class declares for its objects
  own_fields : ℕ → List FieldInfo
  own_fields k = filter (λ f. not (is_static f.flags)) (fields_of p k)

  -- they come behind those of its superclass
  fields_up : (c d : ℕ) → superclass supers c ≡ Some d → instance_fields p c ≡ instance_fields p d ++ own_fields c
  unfolding own_fields
  fields_up c d s =
      ap (λ (xs : List ℕ). flat_map own_fields (reverse xs)) (supers_up c d s)
      ∙ ap (flat_map own_fields) (reverse-cons c (supers_of p.classes d))
      ∙ flat_map-append own_fields (reverse (supers_of p.classes d)) (c ∷ [])
      ∙ ap (λ (xs : List FieldInfo). instance_fields p d ++ xs) (no_rest (own_fields c))

  kept_up : (n k c place : ℕ) (t : FlowType) → Up supers n k c → slice_get (field_types p c) place ≡ Some t → slice_get (field_types p k) place ≡ Some t
  kept_up zero k c place t u e = subst (λ (x : ℕ). slice_get (field_types p x) place ≡ Some t) (sym u) e
  kept_up (suc n) k c place t (d, s, u) e =
      let again : slice_get (field_types p d) place ≡ Some t = kept_up n d c place t u e in
      let typed : FieldInfo → FlowType = λ f. desc_type p f.desc in
      let q : field_types p k ≡ field_types p d ++ map typed (own_fields k) = ap (map typed) (fields_up k d s) ∙ map-append typed (instance_fields p d) (own_fields k) in
      ap (λ (ts : List FlowType). slice_get ts place) q ∙ at_left (field_types p d) (map typed (own_fields k)) place t again

  -- ---- what is of a class's type has its fields

  root_alone : (n c : ℕ) → Up supers n 0 c → c ≡ 0
  root_alone zero c u = sym u
  root_alone (suc n) c (d, s, u) = let z : ◌≡◌ {A = Option ℕ} None (Some d) = sym table.tree.root ∙ s in absurd cc

  -- no class without fields is below one that may have some
  open_up : (n k c : ℕ) → (c == 0 || is_closed c) ≡ false → Up supers n k c → is_closed k ≡ false
  open_up n k c f u = by_closed (is_closed k) refl
    where
      by_steps : (n : ℕ) → Up supers n k c → is_closed k ≡ true → ⊥
      by_steps zero u q = let z : is_closed c ≡ true = subst (λ (x : ℕ). is_closed x ≡ true) u q in let y : true ≡ false = sym z ∙ (neither (c == 0) (is_closed c) f).1 in absurd cc
      by_steps (suc n) (d, s, u) q =
          let z : ◌≡◌ {A = Option ℕ} (Some d) (Some 0) = sym s ∙ table.closed k q in
          let y : d ≡ 0 = cc in
          let x : c ≡ 0 = root_alone n c (subst (λ (j : ℕ). Up supers n j c) y u) in
          let w = (neither (c == 0) (is_closed c) f).0 in
          absurd (grind (arith, nat_tests))

      by_closed : (b : Bool) → is_closed k ≡ b → is_closed k ≡ false
      by_closed true q = absurd (by_steps n u q)
      by_closed false q = q

  pub fields : (c place : ℕ) (t : FlowType) → (c == 0 || is_closed c) ≡ false → slice_get (field_types p c) place ≡ Some t → (k : ℕ) → type_fits supers (class_type p k) (flow.Class c) ≡ true → HasField p k place t
  fields c place t f e k h = by_kind (array_at p k) refl (is_an_interface p k) h
    where
      not_zero : (c == 0) ≡ false
      not_zero = (neither (c == 0) (is_closed c) f).0

      by_kind : (o : Option ArrayInfo) → array_at p k ≡ o → (i : Bool) → type_fits supers (from (flow.Class (if i then 0 else k)) (λ a. flow.Array a.dims (element_type p a.elem)) o) (flow.Class c) ≡ true → HasField p k place t
      by_kind (Some a) q i h = let z : false ≡ true = sym not_zero ∙ h in absurd cc
      by_kind None q true h =
          let (n, u) = below-to supers table.tree 0 c h in
          let z : c ≡ 0 = root_alone n c u in
          absurd (let w = not_zero in grind (arith, nat_tests))
      by_kind None q false h =
          let (n, u) = below-to supers table.tree k c h in
          let (x, y) = neither (k == class_class) (is_text k) (open_up n k c f u) in
          record {
            kind = rw (q, y) refl;
            no_holder = x;
            slot = kept_up n k c place t u e;
          }
