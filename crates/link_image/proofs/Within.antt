-- Each number in the lists of an image is below its count.
use Rattle.std.proofs.Common.{◌≡◌, ℕ, ◌+◌, ◌<◌, Bool, true, false, List, [], ◌∷◌, ◌++◌, Option, Some, None, length, map, take, slice_get, get_or, position, ap, sym, ◌∙◌, subst, refl, arith}
use Rattle.std.specs.Prelude.{option_map, option_and_then, ◌==◌, ◌||◌, if◌then◌else◌}
use Rattle.std.specs.List.{All, AllByRecursion, flat_map}
use Rattle.std.specs.Option.{option_to_list}
use Rattle.std.proofs.lemmas.List.{length-map, length-append}
use Rattle.std.proofs.lemmas.List.Quantifiers.{position-Some}
use Rattle.std.proofs.lemmas.List.Sums.{sum_by_more_le, sum_by-cons}
use Rattle.std.proofs.lemmas.Option.{slice_get_within, get_or_from_slice_get}
use Rattle.jvm_base.specs.Words.{from}
use Rattle.jvm_base.specs.declared.code_item.TableItem.{TableItem}
use Rattle.jvm_base.specs.declared.desc.Desc.{Desc}
use Rattle.jvm_base.proofs.Options.{map_some, then_some}
use Rattle.class_format.specs.declared.class.ClassFile.{ClassFile}
use Rattle.class_format.specs.declared.class.MethodItem.{MethodItem}
use Rattle.class_format.proofs.Recursion.{all_of}
use Rattle.class_names.specs.Classes.{ops_of, table_of}
use Rattle.class_names.specs.Texts.{is_array, class_text, member_in}
use Rattle.code_table.specs.declared.op.Op.{Op}
use Rattle.code_table.specs.declared.op.Op.TheVariants as op
use Rattle.hierarchy.specs.Hierarchy.{IsWithin}
use Rattle.link_rules.specs.Numbers.{numbered, number_of, interface_row, methods_at}
use Rattle.link_uses.specs.Lookups.{found_field, found_method}
use Rattle.link_uses.specs.declared.lookup.Found.{Found}
use Rattle.link_arrays.specs.ArrayClasses.{type_number, part_type, class_number, array_class, array_classes}
use Rattle.program_image.specs.Condition.{IsClassWithin, IsTargetWithin, IsPlacingWithin}
use Rattle.program_image.specs.Places.{Placing}
use Rattle.program_image.specs.Subclass.{all_above}
use Rattle.program_image.specs.declared.info.ClassInfo.{ClassInfo}
use Rattle.program_image.specs.declared.info.FieldInfo.{FieldInfo}
use Rattle.program_image.specs.declared.info.MethodInfo.{MethodInfo}
use Rattle.program_image.specs.declared.info.Target.{Target}
use Rattle.program_image.specs.declared.info.Target.TheVariants.{Method, Class, Constant}
use Rattle.link_image.specs.Classes.{super_number, class_info, declared_infos, class_infos}
use Rattle.link_image.specs.Constants.{constant_value}
use Rattle.link_image.specs.Fields.{base_of, field_info, field_infos, place_in}
use Rattle.link_image.specs.Image.{method_number}
use Rattle.link_image.specs.Methods.{count_methods, first_method, natives_before, class_methods, method_info, method_infos, natives, method_numbers, is_initialiser, clinit_number}
use Rattle.link_image.specs.Targets.{Known, known, field_target, field_at, method_at, op_target, placing, placed_target, caught, entry_target, method_targets, class_targets, all_targets}
use Rattle.link_image.proofs.ClassLaws.{super_within, interfaces_within, type_within, count_infos}
use Rattle.link_arrays.proofs.ArrayLaws.{number_within, class_within}
use Rattle.link_image.proofs.ListLaws.{length_map_from, all_append, all_map, all_map_from, all_numbered, all_flat, all_option, all_at, all_more}

-- a place that was found is that of an item
pub place : {A : Type 0} (p : A → Bool) (xs : List A) (i : ℕ) → position p xs ≡ Some i → i < length xs
place p [] i e = absurd cc
place p (x ∷ xs) i e = (position-Some p (x ∷ xs) i x e).0

-- ---- counts of methods

-- the number of a method is below the count of all
pub method_within : (all : List ClassFile) (c i : ℕ) (f : ClassFile) → slice_get all c ≡ Some f → i < length f.methods → first_method all c + i < count_methods all
unfolding first_method
method_within all c i f e h =
    let inside = slice_get_within all c f e in
    let l = sum_by_more_le (λ (g : ClassFile). length g.methods) all c f inside in
    let s : length (get_or all c f).methods ≡ length f.methods = ap (λ (g : ClassFile). length g.methods) (get_or_from_slice_get all c f f e) in
    omega arith

count_numbered : (g : ℕ → ClassFile → List MethodInfo) (k : ℕ) (fs : List ClassFile) → ((c : ℕ) (f : ClassFile) → length (g c f) ≡ length f.methods) → length (numbered g k fs) ≡ count_methods fs
count_numbered g k [] h = refl
count_numbered g k (f ∷ fs) h =
    length-append (g k f) (numbered g (k + 1) fs) ∙ ap (λ n. n + length (numbered g (k + 1) fs)) (h k f) ∙ ap (λ n. length f.methods + n) (count_numbered g (k + 1) fs h)
    ∙ sym (sum_by-cons (λ (x : ClassFile). length x.methods) f fs)

-- as many methods as are declared
pub count_method_infos : (all : List ClassFile) → length (method_infos all) ≡ count_methods all
unfolding method_infos
count_method_infos all = count_numbered (λ c f. class_methods (natives_before all c) c f) 0 all (λ c f. length_map_from (λ i m. method_info f c (natives_before all c + natives (take i f.methods)) m) 0 f.methods)

-- ---- classes

module _ (all : List ClassFile) (arrays : List Desc) (literals : List (List ℕ)) where
  -- what holds of each declared class and of each array class holds of each class
  infos_all : (P : ClassInfo → Type 0) → ((c : ℕ) (f : ClassFile) → slice_get all c ≡ Some f → P (class_info all (length all + length arrays) literals c f)) → ((d : Desc) → P (array_class all arrays d)) → AllByRecursion P (class_infos all arrays literals)
  unfolding class_infos
  infos_all P p q =
      all_append P (declared_infos all (length all + length arrays) literals) (array_classes all arrays)
      (all_map_from P (class_info all (length all + length arrays) literals) 0 all (λ c f e. let z : c ≡ 0 + c = omega arith in subst (λ n. P (class_info all (length all + length arrays) literals n f)) z (p c f e)))
      (all_map P (array_class all arrays) arrays q)

  mapped : {A B : Type 0} (P : B → Type 0) (g : A → B) (xs : List A) → AllByRecursion (λ x. P (g x)) xs → AllByRecursion P (map g xs)
  mapped P g [] h = tt
  mapped P g (x ∷ xs) h = (h.0, mapped P g xs h.1)

  declared_above_in : (c : ℕ) (f : ClassFile) → AllByRecursion (λ k. k < length all + length arrays) (all_above (class_info all (length all + length arrays) literals c f))
  declared_above_in c f =
      let B : ℕ → Type 0 = λ k. k < length all + length arrays in
      all_append B (option_to_list (super_number all f) ++ interface_row all f) []
      (all_append B (option_to_list (super_number all f)) (interface_row all f)
      (all_option B (super_number all f) (λ k e. let a = super_within all f k e in omega arith))
      (all_more (λ k. k < length all) B (interface_row all f) (λ k h. omega arith) (interfaces_within all f)))
      tt

  array_above_in : 0 < length all → (d : Desc) → AllByRecursion (λ k. k < length all + length arrays) (all_above (array_class all arrays d))
  array_above_in some d =
      (omega arith, all_option (λ k. k < length all + length arrays) (type_number all arrays (part_type d)) (λ k e. type_within all arrays (part_type d) k e))

  pub above_in : 0 < length all → IsWithin (map all_above (class_infos all arrays literals))
  above_in some =
      let n : length (map all_above (class_infos all arrays literals)) ≡ length all + length arrays = length-map (class_infos all arrays literals) all_above ∙ count_infos all arrays literals in
      let Q : List ℕ → Type 0 = λ row. All (λ k. k < length all + length arrays) row in
      subst (λ m. All (λ row. All (λ k. k < m) row) (map all_above (class_infos all arrays literals))) (sym n)
      (all_of Q (map all_above (class_infos all arrays literals))
      (mapped Q all_above (class_infos all arrays literals)
      (infos_all (λ info. Q (all_above info))
      (λ c f e. all_of (λ k. k < length all + length arrays) (all_above (class_info all (length all + length arrays) literals c f)) (declared_above_in c f))
      (λ d. all_of (λ k. k < length all + length arrays) (all_above (array_class all arrays d)) (array_above_in some d)))))

  declared_in : (c : ℕ) (f : ClassFile) → slice_get all c ≡ Some f → IsClassWithin (length all + length arrays) (count_methods all) (class_info all (length all + length arrays) literals c f)
  declared_in c f e =
      let inside = slice_get_within all c f e in
      record {
        owners = all_of (λ (x : FieldInfo). x.owner < length all + length arrays) (field_infos (length all + length arrays) literals f c (base_of all c))
            (all_map_from (λ (x : FieldInfo). x.owner < length all + length arrays) (λ i x. field_info (length all + length arrays) literals f c (place_in (base_of all c) f.fields i x) x) 0 f.fields (λ i x q. omega arith));
        methods_in = all_of (λ m. m < count_methods all) (method_numbers (first_method all c) f)
            (all_map_from (λ m. m < count_methods all) (λ i m. first_method all c + i) 0 f.methods (λ i x q. let w = slice_get_within f.methods i x q in method_within all c (0 + i) f e (omega arith)));
        clinit_in = all_of (λ m. m < count_methods all) (option_to_list (clinit_number (first_method all c) f))
            (all_option (λ m. m < count_methods all) (clinit_number (first_method all c) f) (λ m q.
            let t = map_some (λ i. first_method all c + i) (position (is_initialiser f) f.methods) m q in
            let p = position-place f t.0 t.1 in
            subst (λ z. z < count_methods all) t.2 (method_within all c t.0 f e p)));
      }
    where
      position-place : (f : ClassFile) (i : ℕ) → position (is_initialiser f) f.methods ≡ Some i → i < length f.methods
      position-place f i q = place (is_initialiser f) f.methods i q

  array_in : (d : Desc) → IsClassWithin (length all + length arrays) (count_methods all) (array_class all arrays d)
  array_in d = record {
    owners = λ k x l. absurd (omega arith);
    methods_in = λ k x l. absurd (omega arith);
    clinit_in = λ k x l. absurd (omega arith);
  }

  pub classes_in : AllByRecursion (IsClassWithin (length all + length arrays) (count_methods all)) (class_infos all arrays literals)
  classes_in = infos_all (IsClassWithin (length all + length arrays) (count_methods all)) declared_in array_in

-- ---- methods

pub owners_in : (all : List ClassFile) → AllByRecursion (λ m. m.owner < length all) (method_infos all)
unfolding method_infos
owners_in all =
    all_numbered (λ m. m.owner < length all) (λ c f. class_methods (natives_before all c) c f) 0 all (λ c f e.
    let inside = slice_get_within all c f e in
    all_map_from (λ m. m.owner < length all) (λ i m. method_info f (0 + c) (natives_before all (0 + c) + natives (take i f.methods)) m) 0 f.methods (λ i m q. omega arith))

-- the number of a declared method
pub main_in : (all : List ClassFile) (x : Found) → x.place < length (methods_at all x.class) → method_number all x < count_methods all
main_in all x h = by (slice_get all x.class) refl h
  where
    by : (o : Option ClassFile) → slice_get all x.class ≡ o → x.place < length (from [] (λ f. f.methods) o) → method_number all x < count_methods all
    by None e h = absurd (omega arith)
    by (Some f) e h = method_within all x.class x.place f e h

-- ---- targets

placing_in : (n count m at : ℕ) (target : Option Target) → m < count → ((t : Target) → target ≡ Some t → IsTargetWithin n count t) → AllByRecursion (IsPlacingWithin n count) (placing m at target)
placing_in n count m at None h w = tt
placing_in n count m at (Some t) h w = (record { method_in = h; target_in = w t refl }, tt)

module _ (all : List ClassFile) (arrays : List Desc) (literals : List (List ℕ)) where
  field_in : (o : Option Found) (t : Target) → option_and_then (field_at (class_infos all arrays literals)) o ≡ Some t → IsTargetWithin (length all + length arrays) (count_methods all) t
  field_in o t e =
      let x = then_some (field_at (class_infos all arrays literals)) o t e in
      let y = map_some (field_target x.0) (option_and_then (λ c. slice_get c.fields x.0.place) (slice_get (class_infos all arrays literals) x.0.class)) t x.2 in
      let c = then_some (λ c. slice_get c.fields x.0.place) (slice_get (class_infos all arrays literals) x.0.class) y.0 y.1 in
      let inside = slice_get_within (class_infos all arrays literals) x.0.class c.0 c.1 in
      let n = count_infos all arrays literals in
      let l : x.0.class < length all + length arrays = omega arith in
      subst (IsTargetWithin (length all + length arrays) (count_methods all)) y.2 l

  method_in : (o : Option Found) (t : Target) → option_and_then (method_at (class_infos all arrays literals)) o ≡ Some t → IsTargetWithin (length all + length arrays) (count_methods all) t
  method_in o t e =
      let x = then_some (method_at (class_infos all arrays literals)) o t e in
      let y = map_some Method (option_and_then (λ c. slice_get c.methods x.0.place) (slice_get (class_infos all arrays literals) x.0.class)) t x.2 in
      let c = then_some (λ c. slice_get c.methods x.0.place) (slice_get (class_infos all arrays literals) x.0.class) y.0 y.1 in
      let w = all_at (IsClassWithin (length all + length arrays) (count_methods all)) (class_infos all arrays literals) x.0.class c.0 (classes_in all arrays literals) c.1 in
      let inside = slice_get_within c.0.methods x.0.place y.0 c.2 in
      let l0 : get_or c.0.methods x.0.place y.0 < count_methods all = w.methods_in x.0.place y.0 inside in
      let l : y.0 < count_methods all = subst (λ z. z < count_methods all) (get_or_from_slice_get c.0.methods x.0.place y.0 y.0 c.2) l0 in
      subst (IsTargetWithin (length all + length arrays) (count_methods all)) y.2 l

  class_in : (text : List ℕ) (t : Target) → option_map Class (class_number all arrays text) ≡ Some t → IsTargetWithin (length all + length arrays) (count_methods all) t
  class_in text t e =
      let c = map_some Class (class_number all arrays text) t e in
      let l = class_within all arrays text c.0 c.1 in
      subst (IsTargetWithin (length all + length arrays) (count_methods all)) c.2 l

  constant_in : (f : ClassFile) (i : ℕ) (t : Target) → option_map Constant (constant_value (length all + length arrays) literals f.pool i) ≡ Some t → IsTargetWithin (length all + length arrays) (count_methods all) t
  constant_in f i t e =
      let c = map_some Constant (constant_value (length all + length arrays) literals f.pool i) t e in
      subst (IsTargetWithin (length all + length arrays) (count_methods all)) c.2 tt

  op_in : (f : ClassFile) (o : Op) (t : Target) → op_target (known all arrays literals) f o ≡ Some t → IsTargetWithin (length all + length arrays) (count_methods all) t
  op_in f (op.Static o item desc) t e = field_in (found_field all (member_in f.pool item)) t e
  op_in f (op.Field o item desc) t e = field_in (found_field all (member_in f.pool item)) t e
  op_in f (op.Invoke o item desc) t e = method_in (found_method all (member_in f.pool item)) t e
  op_in f (op.New item) t e = class_in (class_text f.pool item) t e
  op_in f (op.AnewArray item) t e = class_in (class_text f.pool item) t e
  op_in f (op.Cast o item) t e = class_in (class_text f.pool item) t e
  op_in f (op.MultiNewArray item dims) t e = class_in (class_text f.pool item) t e
  op_in f (op.Ldc item) t e = constant_in f item t e
  op_in f (op.Ldc2 item) t e = constant_in f item t e
  op_in f _ t e = absurd cc

  caught_in : (f : ClassFile) (x : TableItem) (t : Target) → caught (known all arrays literals) f x ≡ Some t → IsTargetWithin (length all + length arrays) (count_methods all) t
  caught_in f x t e = by (x.class == 0 || is_array (class_text f.pool x.class)) e
    where
      by : (b : Bool) → (if b then None else option_map Class (number_of all (class_text f.pool x.class))) ≡ Some t → IsTargetWithin (length all + length arrays) (count_methods all) t
      by true h = absurd cc
      by false h =
          let c = map_some Class (number_of all (class_text f.pool x.class)) t h in
          let l = number_within all (class_text f.pool x.class) c.0 c.1 in
          let l2 : c.0 < length all + length arrays = omega arith in
          subst (IsTargetWithin (length all + length arrays) (count_methods all)) c.2 l2

  method_targets_in : (f : ClassFile) (m : ℕ) (x : MethodItem) → m < count_methods all → AllByRecursion (IsPlacingWithin (length all + length arrays) (count_methods all)) (method_targets (known all arrays literals) f m x)
  unfolding method_targets
  method_targets_in f m x h =
      let P : Placing → Type 0 = IsPlacingWithin (length all + length arrays) (count_methods all) in
      let k : Known = known all arrays literals in
      all_append P (flat_map (placed_target k f m) (ops_of f.pool x)) (numbered (entry_target k f m) 0 (table_of x))
      (all_flat P (placed_target k f m) (ops_of f.pool x) (λ p. placing_in (length all + length arrays) (count_methods all) m p.at (op_target k f p.op) h (op_in f p.op)))
      (all_numbered P (entry_target k f m) 0 (table_of x) (λ i e q. placing_in (length all + length arrays) (count_methods all) m (65536 + (0 + i)) (caught k f e) h (caught_in f e)))

  pub targets_in : AllByRecursion (IsPlacingWithin (length all + length arrays) (count_methods all)) (all_targets (known all arrays literals))
  unfolding all_targets class_targets
  targets_in =
      let P : Placing → Type 0 = IsPlacingWithin (length all + length arrays) (count_methods all) in
      let k : Known = known all arrays literals in
      all_numbered P (λ c f. class_targets k (first_method all c) f) 0 all (λ c f e.
      all_numbered P (λ i x. method_targets k f (first_method all (0 + c) + i) x) 0 f.methods (λ i x q.
      let w = slice_get_within f.methods i x q in
      let z : c ≡ 0 + c = omega arith in
      method_targets_in f (first_method all (0 + c) + (0 + i)) x (subst (λ n. first_method all n + (0 + i) < count_methods all) z (method_within all c (0 + i) f e (omega arith)))))
