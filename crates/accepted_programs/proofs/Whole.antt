-- The numbers in a linked program lie in range.
use Rattle.std.proofs.Common.{◌≡◌, ◌∙◌, sym, ap, subst, refl, ℕ, zero, suc, ◌+◌, ◌<◌, ◌≤◌, Bool, true, false, List, [], ◌∷◌, ◌++◌, length, map, slice_get, find, Option, Some, None, arith}
use Rattle.std.specs.Prelude.{IfSome, if◌then◌else◌, option_map}
use Rattle.std.specs.List.{All, AllByRecursion}
use Rattle.std.specs.Map.{lookup, values_of}
use Rattle.std.specs.BTreeMap.{is_at, insert_entry}
use Rattle.std.proofs.lemmas.List.{length-append, length-map}
use Rattle.std.proofs.lemmas.Map.Views.{All-values-insert_entry, IfSome-lookup_from_All}
use Rattle.jvm_base.specs.Words.{from}
use Rattle.jvm_base.specs.declared.desc.Desc.{Desc}
use Rattle.boot_table.specs.Files.{boot_files}
use Rattle.boot_table.specs.Table.{boot_rows, first_rows, exceptions}
use Rattle.class_format.specs.declared.class.ClassFile.{ClassFile}
use Rattle.link_uses.specs.declared.lookup.Found.{Found}
use Rattle.link_image.specs.Classes.{class_infos}
use Rattle.link_image.specs.Image.{image_of}
use Rattle.link_image.specs.Methods.{count_methods}
use Rattle.link_image.specs.Targets.{known, all_targets}
use Rattle.link_image.proofs.ClassLaws.{count_infos}
use Rattle.link_image.proofs.ListLaws.{all_more, all_at}
use Rattle.link_image.proofs.Within.{count_method_infos, method_within, classes_in, targets_in}
use Rattle.program_image.specs.Condition.{IsClassWithin, IsTargetWithin, IsPlacingWithin}
use Rattle.program_image.specs.Places.{Placing, Targets, place_cmp, placed, target_at}
use Rattle.program_image.specs.Program.{Program, target_of}
use Rattle.program_image.specs.Selection.{methods_of}
use Rattle.program_image.specs.Signatures.{same_text}
use Rattle.program_image.specs.Words.{super_of}
use Rattle.program_image.specs.declared.info.ClassInfo.{ClassInfo}
use Rattle.program_image.specs.declared.info.Target.{Target}
use Rattle.program_image.specs.declared.info.Target.TheVariants as target
use Rattle.flow_types.specs.Tree.{superclasses, superclass, flat, Up, IsTree}
use Rattle.flow_types.proofs.TreeLaws.{within}
use Rattle.instruction_table.specs.ClassTypes.{class_in, field_class_in, method_in, name_of}
use Rattle.machine_state.specs.BootClasses.{thread}
use Rattle.machine_state.specs.Classes.{thread_run}
use Rattle.linked_classes.proofs.BootAbove.{boot_count, front_at}

-- ---- look-ups

-- what holds of each target that is placed holds of one that is looked up
placed_all : (P : Target → Type 0) (was : Targets) (ts : List Placing) → All P (values_of was) → AllByRecursion (λ t. P t.2) ts → All P (values_of (placed was ts))
placed_all P was [] w h = w
placed_all P was (t ∷ ts) w h = placed_all P (insert_entry place_cmp was (t.0, t.1) t.2) ts (All-values-insert_entry place_cmp (t.0, t.1) t.2 P was w (h.0)) (h.1)

found_one : (P : Target → Type 0) (o : Option Target) → IfSome o P → (t : Target) → o ≡ Some t → P t
found_one P None h t e = absurd cc
found_one P (Some x) h t e = let s : x ≡ t = cc in subst P s h

looked_up : (P : Target → Type 0) (ts : List Placing) → AllByRecursion (λ t. P t.2) ts → (m at : ℕ) (t : Target) → target_at (placed [] ts) m at ≡ Some t → P t
looked_up P ts h m at t e =
    let entries : Targets = placed [] ts in
    let found : IfSome (lookup (is_at (place_cmp (m, at))) entries) P = IfSome-lookup_from_All P (is_at (place_cmp (m, at))) entries (placed_all P [] ts (λ i d l. absurd (omega arith)) h) in
    found_one P (lookup (is_at (place_cmp (m, at))) entries) found t e

-- what holds of each item holds of one that is found
all_found : {A : Type 0} (P : A → Type 0) (t : A → Bool) (xs : List A) → All P xs → (x : A) → find t xs ≡ Some x → P x
all_found P t [] h x e = absurd cc
all_found P t (y ∷ ys) h x e = by_test (t y) e (all_found P t ys (λ k d l. h (suc k) d (omega arith)) x)
  where
    by_test : (b : Bool) → (if b then Some y else find t ys) ≡ Some x → (find t ys ≡ Some x → P x) → P x
    by_test true q again = let s : y ≡ x = cc in subst P s (h 0 y (omega arith))
    by_test false q again = again q

-- ---- an image

-- the first boot class has methods
boot_methods : option_map (λ (f : ClassFile). length f.methods) (slice_get boot_files 0) ≡ Some 4
unfolding boot_files boot_rows first_rows exceptions
boot_methods = refl

item_at : {A : Type 0} (xs : List A) (i : ℕ) → i < length xs → (x : A) × (slice_get xs i ≡ Some x)
item_at [] i l = absurd (omega arith)
item_at (x ∷ xs) zero l = (x, refl)
item_at (x ∷ xs) (suc i) l = item_at xs i (omega arith)

module _ (files : List ClassFile) (arrays : List Desc) (literals : List (List ℕ)) (main : Found) where
  abbrev p : Program
  p = image_of (boot_files ++ files) arrays literals main

  abbrev classes : ℕ
  classes = length (boot_files ++ files) + length arrays

  abbrev methods : ℕ
  methods = count_methods (boot_files ++ files)

  class_count : length p.classes ≡ classes
  unfolding image_of
  class_count = count_infos (boot_files ++ files) arrays literals

  method_count : length p.methods ≡ methods
  unfolding image_of
  method_count = count_method_infos (boot_files ++ files)

  pub boot : 34 ≤ length p.classes
  boot = let n = class_count in let b = boot_count in let both = length-append boot_files files in omega arith

  some_method : 0 < methods
  some_method =
      let b = boot_count in
      let both = length-append boot_files files in
      let (f, q) = item_at (boot_files ++ files) 0 (omega arith) in
      let r : slice_get boot_files 0 ≡ Some f = sym (front_at boot_files files 0 (omega arith)) ∙ q in
      let s : ◌≡◌ {A = Option ℕ} (Some (length f.methods)) (Some 4) = sym (ap (option_map (λ (f : ClassFile). length f.methods)) r) ∙ boot_methods in
      let t : length f.methods ≡ 4 = cc in
      let w = method_within (boot_files ++ files) 0 0 f q (omega arith) in
      omega arith

  -- what is named is there
  target_there : (m at : ℕ) (t : Target) → target_of p m at ≡ Some t → IsTargetWithin classes methods t
  unfolding image_of
  target_there m at t e =
      looked_up (IsTargetWithin classes methods) (all_targets (known (boot_files ++ files) arrays literals))
      (all_more (IsPlacingWithin classes methods) (λ x. IsTargetWithin classes methods x.2) (all_targets (known (boot_files ++ files) arrays literals)) (λ x h. h.target_in) (targets_in (boot_files ++ files) arrays literals)) m at t e

  pub classes_there : (m at : ℕ) → class_in (target_of p m at) < length p.classes
  classes_there m at = by_target (target_of p m at) refl
    where
      some : 0 < length p.classes
      some = let b = boot in omega arith

      by_target : (o : Option Target) → target_of p m at ≡ o → class_in o < length p.classes
      by_target None e = some
      by_target (Some (target.Class c)) e = let l : c < classes = target_there m at (target.Class c) e in let n = class_count in omega arith
      by_target (Some (target.Method k)) e = some
      by_target (Some (target.Field k place fixed)) e = some
      by_target (Some (target.Constant v)) e = some

  pub fields_there : (m at : ℕ) → field_class_in (target_of p m at) < length p.classes
  fields_there m at = by_target (target_of p m at) refl
    where
      some : 0 < length p.classes
      some = let b = boot in omega arith

      by_target : (o : Option Target) → target_of p m at ≡ o → field_class_in o < length p.classes
      by_target None e = some
      by_target (Some (target.Class c)) e = some
      by_target (Some (target.Method k)) e = some
      by_target (Some (target.Field c place fixed)) e = let l : c < classes = target_there m at (target.Field c place fixed) e in let n = class_count in omega arith
      by_target (Some (target.Constant v)) e = some

  pub methods_there : (m at : ℕ) → method_in (target_of p m at) < length p.methods
  methods_there m at = by_target (target_of p m at) refl
    where
      some : 0 < length p.methods
      some = let s = some_method in let n = method_count in omega arith

      by_target : (o : Option Target) → target_of p m at ≡ o → method_in o < length p.methods
      by_target None e = some
      by_target (Some (target.Class c)) e = some
      by_target (Some (target.Method k)) e = let l : k < methods = target_there m at (target.Method k) e in let n = method_count in omega arith
      by_target (Some (target.Field c place fixed)) e = some
      by_target (Some (target.Constant v)) e = some

  -- a class's methods are there
  class_methods_there : (c : ℕ) → All (λ m. m < methods) (methods_of p.classes c)
  unfolding image_of
  class_methods_there c = by_class (slice_get (class_infos (boot_files ++ files) arrays literals) c) refl
    where
      by_class : (o : Option ClassInfo) → slice_get (class_infos (boot_files ++ files) arrays literals) c ≡ o → All (λ m. m < methods) (from [] (λ (info : ClassInfo). info.methods) o)
      by_class None e = λ k d l. absurd (omega arith)
      by_class (Some info) e = (all_at (IsClassWithin classes methods) (class_infos (boot_files ++ files) arrays literals) c info (classes_in (boot_files ++ files) arrays literals) e).methods_in

  pub run_there : thread_run p < length p.methods
  run_there = by_found (find (λ m. same_text (name_of p m) run_name) (methods_of p.classes thread)) refl
    where
      run_name : List ℕ
      run_name = 114 ∷ 117 ∷ 110 ∷ []

      by_found : (o : Option ℕ) → find (λ m. same_text (name_of p m) run_name) (methods_of p.classes thread) ≡ o → from 0 (λ m. m) o < length p.methods
      by_found None e = let s = some_method in let n = method_count in omega arith
      by_found (Some m) e =
          let l : m < methods = all_found (λ m. m < methods) (λ m. same_text (name_of p m) run_name) (methods_of p.classes thread) (class_methods_there thread) m e in
          let n = method_count in omega arith

  -- a superclass is there
  pub supers_there : IsTree (superclasses p) → (k c : ℕ) → super_of p k ≡ Some c → c < length p.classes
  supers_there tree k c e =
      let s : superclass (superclasses p) k ≡ Some c = by_classes p.classes k ∙ e in
      let l : k < length (superclasses p) = within (superclasses p) k c s in
      let n : length (superclasses p) ≡ length p.classes = length-map p.classes (λ (i : ClassInfo). i.super_class) in
      let (j, lt, u) = tree.reached k l in
      by_way j u s (let t = tree.some in omega arith)
    where
      by_classes : (cs : List ClassInfo) (k : ℕ) → flat (slice_get (map (λ (i : ClassInfo). i.super_class) cs) k) ≡ from None (λ (i : ClassInfo). i.super_class) (slice_get cs k)
      by_classes [] k = refl
      by_classes (i ∷ cs) zero = refl
      by_classes (i ∷ cs) (suc k) = by_classes cs k

      above_in : (j : ℕ) (d : ℕ) → Up (superclasses p) j d 0 → 0 < length p.classes → d < length p.classes
      above_in zero d u l = let s : d ≡ 0 = u in omega arith
      above_in (suc j) d (e, q, u) l =
          let w : d < length (superclasses p) = within (superclasses p) d e q in
          let n : length (superclasses p) ≡ length p.classes = length-map p.classes (λ (i : ClassInfo). i.super_class) in
          omega arith

      by_way : (j : ℕ) → Up (superclasses p) j k 0 → superclass (superclasses p) k ≡ Some c → 0 < length p.classes → c < length p.classes
      by_way zero u s l =
          let z : superclass (superclasses p) k ≡ None = subst (λ (x : ℕ). superclass (superclasses p) x ≡ None) (sym u) tree.root in
          let y : ◌≡◌ {A = Option ℕ} None (Some c) = sym z ∙ s in absurd cc
      by_way (suc j) (d, q, u) s l =
          let z : ◌≡◌ {A = Option ℕ} (Some d) (Some c) = sym q ∙ s in
          let y : d ≡ c = cc in
          subst (λ (x : ℕ). x < length p.classes) y (above_in j d u l)
