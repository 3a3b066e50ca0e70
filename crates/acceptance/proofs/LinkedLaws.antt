-- The numbers of a linked program fit, and its code was decoded.
use Rattle.std.proofs.Common.{◌≡◌, ◌∙◌, sym, ap, subst, refl, ℕ, ◌+◌, ◌<◌, ◌^◌, true, false, Bool, List, [], ◌∷◌, length, map, take, slice_get, Option, Some, None, Result, Ok, Err, arith}
use Rattle.std.specs.Prelude.{option_map, option_and_then, ◌==◌, ◌||◌, if◌then◌else◌, IfSome}
use Rattle.std.specs.List.{All, AllByRecursion, flat_map}
use Rattle.std.specs.Map.{lookup, values_of}
use Rattle.std.specs.BTreeMap.{is_at, insert_entry}
use Rattle.std.proofs.lemmas.Map.Views.{All-values-insert_entry, IfSome-lookup_from_All}
use Rattle.jvm_base.specs.Words.{from}
use Rattle.jvm_base.specs.Descriptors.{method_of}
use Rattle.jvm_base.specs.declared.code_item.CodeItem.{CodeItem}
use Rattle.jvm_base.specs.declared.code_item.TableItem.{TableItem}
use Rattle.jvm_base.specs.declared.desc.Desc.{Desc}
use Rattle.jvm_base.specs.declared.desc.MethodDesc.{MethodDesc}
use Rattle.jvm_base.specs.declared.pool.PoolItem.{PoolItem}
use Rattle.jvm_base.specs.declared.pool.PoolItem.TheVariants as item
use Rattle.jvm_base.specs.declared.value.Value.{Value}
use Rattle.jvm_base.specs.declared.value.Value.TheVariants as value
use Rattle.jvm_base.proofs.Options.{map_some, then_some}
use Rattle.class_format.specs.declared.class.ClassFile.{ClassFile}
use Rattle.class_format.specs.declared.class.MethodItem.{MethodItem}
use Rattle.class_format.specs.Flags.{is_native}
use Rattle.code_table.specs.Decoded.{decoded}
use Rattle.code_table.specs.declared.code.Code.{Code}
use Rattle.code_table.specs.declared.code.Placed.{Placed}
use Rattle.code_table.specs.declared.error.CodeErr.{CodeErr}
use Rattle.code_table.specs.declared.op.Op.{Op}
use Rattle.code_table.specs.declared.op.Op.TheVariants as op
use Rattle.code_table.proofs.Acceptance.{is_code}
use Rattle.class_names.specs.Classes.{code_of as code_in, ok_of, ops_of as ops_in, table_of}
use Rattle.class_names.specs.Texts.{is_array, class_text, member_in, text_in}
use Rattle.link_rules.specs.Numbers.{numbered, number_of}
use Rattle.link_rules.specs.Members.{method_desc}
use Rattle.link_uses.specs.Lookups.{found_field, found_method}
use Rattle.link_uses.specs.declared.lookup.Found.{Found}
use Rattle.link_arrays.specs.ArrayClasses.{class_number, array_class, array_classes}
use Rattle.link_arrays.specs.Literals.{literal_number, literal_name}
use Rattle.program_image.specs.Places.{Placing, Targets, place_cmp, placed, target_at}
use Rattle.program_image.specs.Handlers.{code_of, body_code}
use Rattle.program_image.specs.declared.info.ArrayInfo.{ArrayInfo}
use Rattle.program_image.specs.declared.info.Body.{Body}
use Rattle.program_image.specs.declared.info.Body.TheVariants as body
use Rattle.program_image.specs.declared.info.ClassInfo.{ClassInfo}
use Rattle.program_image.specs.declared.info.MethodInfo.{MethodInfo}
use Rattle.program_image.specs.declared.info.Target.{Target}
use Rattle.program_image.specs.declared.info.Target.TheVariants as target
use Rattle.link_image.specs.Classes.{class_info, declared_infos, class_infos}
use Rattle.link_image.specs.Constants.{item_value, constant_value}
use Rattle.link_image.specs.Image.{image_of}
use Rattle.link_image.specs.Methods.{natives_before, natives, class_methods, method_info, method_infos, body_of, no_method_desc, first_method}
use Rattle.link_image.specs.Targets.{Known, known, field_target, field_at, method_at, op_target, placing, placed_target, caught, entry_target, method_targets, class_targets, all_targets}
use Rattle.link_arrays.proofs.ArrayLaws.{class_within, number_within}
use Rattle.link_image.proofs.ClassLaws.{count_infos}
use Rattle.link_image.proofs.ListLaws.{all_append, all_map_from, all_numbered, all_flat, all_at}
use Rattle.instruction_table.specs.ClassTypes.{array_at, method_at as info_at}
use Rattle.flow_verifier.specs.Methods.{ops_of}
use Rattle.acceptance.proofs.MethodLaws.{IsDecoded}
use Rattle.acceptance.proofs.SmallOps.{method_small, all_small_ops}
use Rattle.acceptance.proofs.Typed.{AreSmall, IsSmallOp, IsSmallValue, IsSmallTarget, IsTyped}

-- an array type has one to 255 dimensions
abbrev pub IsLevel : Desc → Type 0
IsLevel d = (0 < d.dims) × (d.dims < 2 ^ 8)

-- some code has bytes, not many, and a short exception table
abbrev pub IsFilled : Option CodeItem → Type 0
IsFilled None = Unit {0}
IsFilled (Some c) = (0 < length c.code) × (length c.code < 2 ^ 16) × (length c.table < 2 ^ 16)

-- so is the code of each method
abbrev pub HasFilledCode : ClassFile → Type 0
HasFilledCode f = AllByRecursion (λ m. IsFilled m.code) f.methods

-- a class is of arrays of one to 255 dimensions, or of none
abbrev IsSmallClass : ClassInfo → Type 0
IsSmallClass i = (a : ArrayInfo) → i.array ≡ Some a → (0 < a.dims) × (a.dims < 2 ^ 8)

-- a method's descriptors are small, and its code was decoded
record IsFine (i : MethodInfo) : Type 0 where
  desc : AreSmall i.desc
  code : (c : Code) → i.body ≡ body.Code c → IsDecoded c

-- the target of a placing is small
abbrev IsSmallPlacing : ℕ → Placing → Type 0
IsSmallPlacing n t = IsSmallTarget n (Some t.2)

module _ (all : List ClassFile) (arrays : List Desc) (literals : List (List ℕ)) where
  -- ---- classes

  arrays_small : (ds : List Desc) → AllByRecursion IsLevel ds → AllByRecursion IsSmallClass (map (array_class all arrays) ds)
  arrays_small [] h = tt
  arrays_small (d ∷ ds) h = (λ a e. let l : (0 < d.dims) × (d.dims < 2 ^ 8) = h.0 in let s : d.dims ≡ a.dims = cc in subst (λ (n : ℕ). (0 < n) × (n < 2 ^ 8)) s l, arrays_small ds (h.1))

  classes_small : AllByRecursion IsLevel arrays → AllByRecursion IsSmallClass (class_infos all arrays literals)
  unfolding class_infos
  classes_small h =
      all_append IsSmallClass (declared_infos all (length all + length arrays) literals) (array_classes all arrays)
      (all_map_from IsSmallClass (class_info all (length all + length arrays) literals) 0 all (λ i f e a h. absurd cc))
      (arrays_small arrays h)

  -- ---- methods

  -- the code of a method that has some
  code_decoded : (pool : List PoolItem) (o : Option CodeItem) → IsFilled o → (c : Code) → option_and_then (λ k. ok_of (decoded k pool)) o ≡ Some c → IsDecoded c
  code_decoded pool None f c e = absurd cc
  code_decoded pool (Some k) f c e = by (decoded k pool) refl e
    where
      by : (r : Result Code CodeErr) → decoded k pool ≡ r → ok_of r ≡ Some c → IsDecoded c
      by (Err x) q h = absurd cc
      by (Ok d) q h =
          let s : d ≡ c = cc in
          record {
            item = k;
            pool = pool;
            is_code = is_code k pool c (q ∙ ap (λ (x : Code). Ok x) s);
            some = f.0;
            few = f.1;
            few_entries = f.2;
          }

  body_decoded : (f : ClassFile) (k : ℕ) (m : MethodItem) → IsFilled m.code → (c : Code) → body_of k m (code_in f.pool m) ≡ body.Code c → IsDecoded c
  body_decoded f k m filled c e = by (code_in f.pool m) refl e
    where
      bare : (b : Bool) → (if b then body.Intrinsic k else body.Abstract) ≡ body.Code c → ⊥
      bare true h = cc
      bare false h = cc

      by : (o : Option Code) → code_in f.pool m ≡ o → body_of k m o ≡ body.Code c → IsDecoded c
      by None q h = absurd (bare (is_native m.flags) h)
      by (Some d) q h = let s : d ≡ c = cc in code_decoded f.pool m.code filled c (q ∙ ap (λ (x : Code). Some x) s)

  desc_small : (o : Option MethodDesc) → ((d : MethodDesc) → o ≡ Some d → AreSmall d) → AreSmall (from no_method_desc (λ d. d) o)
  desc_small None h = record { args = tt; ret = tt }
  desc_small (Some d) h = h d refl

  methods_fine : AllByRecursion HasFilledCode all → AllByRecursion IsFine (method_infos all)
  unfolding method_infos
  methods_fine filled =
      all_numbered IsFine (λ c f. class_methods (natives_before all c) c f) 0 all (λ c f e.
      all_map_from IsFine (λ i m. method_info f (0 + c) (natives_before all (0 + c) + natives (take i f.methods)) m) 0 f.methods (λ i m q.
      let here : HasFilledCode f = all_at HasFilledCode all c f filled e in
      record {
        desc = desc_small (method_of (method_desc f m)) (λ d h. method_small (Some (method_desc f m)) d h);
        code = λ c' h. body_decoded f (natives_before all (0 + c) + natives (take (0 + i) f.methods)) m (all_at (λ m. IsFilled m.code) f.methods i m here q) c' h;
      }))

  -- ---- targets

  -- as many classes as there are
  abbrev total : ℕ
  total = length all + length arrays

  -- an object of a literal is a String
  literal_small : 2 < length all → (o : Option ℕ) (v : Value) → option_map (λ n. value.Ref (literal_name (length all + length arrays) n)) o ≡ Some v → IsSmallValue (length all + length arrays) v
  literal_small l o v e =
      let n = map_some (λ n. value.Ref (literal_name (length all + length arrays) n)) o v e in
      subst (IsSmallValue (length all + length arrays)) n.2 (omega arith)

  item_small : 2 < length all → (pool : List PoolItem) (i : PoolItem) (v : Value) → item_value (length all + length arrays) literals pool i ≡ Some v → IsSmallValue (length all + length arrays) v
  item_small l pool (item.Integer n) v e = let s : value.Int n ≡ v = cc in subst (IsSmallValue (length all + length arrays)) s tt
  item_small l pool (item.Long n) v e = let s : value.Long n ≡ v = cc in subst (IsSmallValue (length all + length arrays)) s tt
  item_small l pool (item.Text i) v e = literal_small l (literal_number literals (text_in pool i)) v e
  item_small l pool _ v e = absurd cc

  constant_small : 2 < length all → (f : ClassFile) (i : ℕ) (t : Target) → option_map target.Constant (constant_value (length all + length arrays) literals f.pool i) ≡ Some t → IsSmallTarget (length all + length arrays) (Some t)
  constant_small l f i t e =
      let v = map_some target.Constant (constant_value (length all + length arrays) literals f.pool i) t e in
      let x = then_some (item_value (length all + length arrays) literals f.pool) (slice_get f.pool i) v.0 v.1 in
      subst (λ (u : Target). IsSmallTarget (length all + length arrays) (Some u)) v.2 (item_small l f.pool x.0 v.0 x.2)

  class_small : (text : List ℕ) (t : Target) → option_map target.Class (class_number all arrays text) ≡ Some t → IsSmallTarget (length all + length arrays) (Some t)
  class_small text t e =
      let c = map_some target.Class (class_number all arrays text) t e in
      subst (λ (u : Target). IsSmallTarget (length all + length arrays) (Some u)) c.2 (class_within all arrays text c.0 c.1)

  field_small : (o : Option Found) (t : Target) → option_and_then (field_at (class_infos all arrays literals)) o ≡ Some t → IsSmallTarget (length all + length arrays) (Some t)
  field_small o t e =
      let x = then_some (field_at (class_infos all arrays literals)) o t e in
      let y = map_some (field_target x.0) (option_and_then (λ c. slice_get c.fields x.0.place) (slice_get (class_infos all arrays literals) x.0.class)) t x.2 in
      subst (λ (u : Target). IsSmallTarget (length all + length arrays) (Some u)) y.2 tt

  method_target_small : (o : Option Found) (t : Target) → option_and_then (method_at (class_infos all arrays literals)) o ≡ Some t → IsSmallTarget (length all + length arrays) (Some t)
  method_target_small o t e =
      let x = then_some (method_at (class_infos all arrays literals)) o t e in
      let y = map_some target.Method (option_and_then (λ c. slice_get c.methods x.0.place) (slice_get (class_infos all arrays literals) x.0.class)) t x.2 in
      subst (λ (u : Target). IsSmallTarget (length all + length arrays) (Some u)) y.2 tt

  op_small : 2 < length all → (f : ClassFile) (o : Op) (t : Target) → op_target (known all arrays literals) f o ≡ Some t → IsSmallTarget (length all + length arrays) (Some t)
  op_small l f (op.Static o i desc) t e = field_small (found_field all (member_in f.pool i)) t e
  op_small l f (op.Field o i desc) t e = field_small (found_field all (member_in f.pool i)) t e
  op_small l f (op.Invoke o i desc) t e = method_target_small (found_method all (member_in f.pool i)) t e
  op_small l f (op.New i) t e = class_small (class_text f.pool i) t e
  op_small l f (op.AnewArray i) t e = class_small (class_text f.pool i) t e
  op_small l f (op.Cast o i) t e = class_small (class_text f.pool i) t e
  op_small l f (op.MultiNewArray i dims) t e = class_small (class_text f.pool i) t e
  op_small l f (op.Ldc i) t e = constant_small l f i t e
  op_small l f (op.Ldc2 i) t e = constant_small l f i t e
  op_small l f _ t e = absurd cc

  entry_small : (f : ClassFile) (x : TableItem) (t : Target) → caught (known all arrays literals) f x ≡ Some t → IsSmallTarget (length all + length arrays) (Some t)
  entry_small f x t e = by (x.class == 0 || is_array (class_text f.pool x.class)) e
    where
      by : (b : Bool) → (if b then None else option_map target.Class (number_of all (class_text f.pool x.class))) ≡ Some t → IsSmallTarget (length all + length arrays) (Some t)
      by true h = absurd cc
      by false h =
          let c = map_some target.Class (number_of all (class_text f.pool x.class)) t h in
          let n : c.0 < length all = number_within all (class_text f.pool x.class) c.0 c.1 in
          let l : c.0 < length all + length arrays = omega arith in
          subst (λ (u : Target). IsSmallTarget (length all + length arrays) (Some u)) c.2 l

  placing_small : (n m at : ℕ) (o : Option Target) → ((t : Target) → o ≡ Some t → IsSmallTarget n (Some t)) → AllByRecursion (IsSmallPlacing n) (placing m at o)
  placing_small n m at None h = tt
  placing_small n m at (Some t) h = (h t refl, tt)

  method_targets_small : 2 < length all → (f : ClassFile) (m : ℕ) (x : MethodItem) → AllByRecursion (IsSmallPlacing (length all + length arrays)) (method_targets (known all arrays literals) f m x)
  unfolding method_targets
  method_targets_small l f m x =
      let P : Placing → Type 0 = IsSmallPlacing (length all + length arrays) in
      let k : Known = known all arrays literals in
      all_append P (flat_map (placed_target k f m) (ops_in f.pool x)) (numbered (entry_target k f m) 0 (table_of x))
      (all_flat P (placed_target k f m) (ops_in f.pool x) (λ p. placing_small (length all + length arrays) m p.at (op_target k f p.op) (op_small l f p.op)))
      (all_numbered P (entry_target k f m) 0 (table_of x) (λ i e q. placing_small (length all + length arrays) m (65536 + (0 + i)) (caught k f e) (entry_small f e)))

  targets_small : 2 < length all → AllByRecursion (IsSmallPlacing (length all + length arrays)) (all_targets (known all arrays literals))
  unfolding all_targets class_targets
  targets_small l =
      let P : Placing → Type 0 = IsSmallPlacing (length all + length arrays) in
      let k : Known = known all arrays literals in
      all_numbered P (λ c f. class_targets k (first_method all c) f) 0 all (λ c f e.
      all_numbered P (λ i x. method_targets k f (first_method all (0 + c) + i) x) 0 f.methods (λ i x q.
      method_targets_small l f (first_method all (0 + c) + (0 + i)) x))

  -- ---- look-ups

  placed_small : (n : ℕ) (was : Targets) (ts : List Placing) → All (λ t. IsSmallTarget n (Some t)) (values_of was) → AllByRecursion (IsSmallPlacing n) ts → All (λ t. IsSmallTarget n (Some t)) (values_of (placed was ts))
  placed_small n was [] w h = w
  placed_small n was (t ∷ ts) w h = placed_small n (insert_entry place_cmp was (t.0, t.1) t.2) ts (All-values-insert_entry place_cmp (t.0, t.1) t.2 (λ t. IsSmallTarget n (Some t)) was w (h.0)) (h.1)

  found_small : (n : ℕ) (o : Option Target) → IfSome o (λ t. IsSmallTarget n (Some t)) → IsSmallTarget n o
  found_small n None h = tt
  found_small n (Some t) h = h

  target_small : 2 < length all → (m at : ℕ) → IsSmallTarget (length all + length arrays) (target_at (placed [] (all_targets (known all arrays literals))) m at)
  target_small l m at =
      let n : ℕ = length all + length arrays in
      let ts : Targets = placed [] (all_targets (known all arrays literals)) in
      let found : IfSome (lookup (is_at (place_cmp (m, at))) ts) (λ t. IsSmallTarget n (Some t)) = IfSome-lookup_from_All (λ t. IsSmallTarget n (Some t)) (is_at (place_cmp (m, at))) ts (placed_small n [] (all_targets (known all arrays literals)) (λ i d h. absurd (omega arith)) (targets_small l)) in
      found_small n (lookup (is_at (place_cmp (m, at))) ts) found

  -- ---- the program

  module _ (main : Found) (strings : 2 < length all) (levels : AllByRecursion IsLevel arrays) (filled : AllByRecursion HasFilledCode all) where
    array_small : (c : ℕ) (a : ArrayInfo) → array_at (image_of all arrays literals main) c ≡ Some a → (0 < a.dims) × (a.dims < 2 ^ 8)
    unfolding image_of
    array_small c a e = by (slice_get (class_infos all arrays literals) c) refl e
      where
        by : (o : Option ClassInfo) → slice_get (class_infos all arrays literals) c ≡ o → from None (λ k. k.array) o ≡ Some a → (0 < a.dims) × (a.dims < 2 ^ 8)
        by None q h = absurd cc
        by (Some i) q h = all_at IsSmallClass (class_infos all arrays literals) c i (classes_small levels) q a h

    fine_method : (m : ℕ) (i : MethodInfo) → info_at (image_of all arrays literals main) m ≡ Some i → IsFine i
    unfolding image_of
    fine_method m i e = all_at IsFine (method_infos all) m i (methods_fine filled) e

    -- code stands in a body of code
    code_body : (b : Body) (c : Code) → body_code b ≡ Some c → b ≡ body.Code c
    code_body (body.Code d) c e = let s : d ≡ c = cc in ap body.Code s
    code_body (body.Intrinsic k) c e = absurd cc
    code_body body.Abstract c e = absurd cc

    -- the code of a method was decoded
    pub linked_decoded : (m : ℕ) (c : Code) → code_of (image_of all arrays literals main) m ≡ Some c → IsDecoded c
    linked_decoded m c e =
        let i = then_some (λ info. body_code info.body) (slice_get (image_of all arrays literals main).methods m) c e in
        (fine_method m i.0 i.1).code c (code_body i.0.body c i.2)

    linked_ops : (m k : ℕ) (o : Placed) → slice_get (ops_of (image_of all arrays literals main) m) k ≡ Some o → IsSmallOp o.op
    linked_ops m k o e = by (code_of (image_of all arrays literals main) m) refl e
      where
        by : (c : Option Code) → code_of (image_of all arrays literals main) m ≡ c → slice_get (from [] (λ c. c.ops) c) k ≡ Some o → IsSmallOp o.op
        by None q h = absurd cc
        by (Some c) q h = let d : IsDecoded c = linked_decoded m c q in all_small_ops d.item.code d.pool 0 c.ops (length d.item.code) d.is_code.covers k o h

    -- its numbers fit
    pub linked_typed : IsTyped (image_of all arrays literals main)
    unfolding image_of
    linked_typed = record {
      some = let n : length (class_infos all arrays literals) ≡ length all + length arrays = count_infos all arrays literals in omega arith;
      arrays = array_small;
      targets = λ m at. subst (λ (n : ℕ). IsSmallTarget n (target_at (placed [] (all_targets (known all arrays literals))) m at)) (sym (count_infos all arrays literals)) (target_small strings m at);
      methods = λ m i e. (fine_method m i e).desc;
      ops = linked_ops;
    }
