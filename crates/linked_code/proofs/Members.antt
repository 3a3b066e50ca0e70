-- The fields and methods that instructions name.
use Rattle.std.proofs.Common.{◌≡◌, ◌∙◌, sym, ap, subst, refl, ℕ, zero, suc, ◌+◌, ◌<◌, ◌==◌, Bool, true, false, not, List, [], ◌∷◌, ◌++◌, length, take, cond, slice_get, Option, Some, None, arith}
use Rattle.std.specs.Prelude.{◌&&◌, ◌||◌, if◌then◌else◌, option_and_then, option_map, filter}
use Rattle.std.specs.List.{count_by}
use Rattle.std.specs.Option.{is_some}
use Rattle.std.proofs.Math.Bool.{beq}
use Rattle.std.proofs.lemmas.Cmp.{nat_list_eq_equiv}
use Rattle.std.proofs.lemmas.List.Sums.{sum_by-cons}
use Rattle.std.proofs.lemmas.Option.{slice_get_within, slice_get-map}
use Rattle.jvm_base.specs.Descriptors.{desc_of, method_of}
use Rattle.jvm_base.specs.Words.{from}
use Rattle.jvm_base.specs.declared.code_item.CodeItem.{CodeItem}
use Rattle.jvm_base.specs.declared.desc.Desc.{Desc}
use Rattle.jvm_base.specs.declared.desc.MethodDesc.{MethodDesc}
use Rattle.jvm_base.proofs.Options.{and_parts}
use Rattle.boot_table.specs.Files.{boot_files}
use Rattle.class_format.specs.Flags.{is_abstract, is_native, is_static}
use Rattle.class_format.specs.Judging.Formed.{FormedCodeOf}
use Rattle.class_format.specs.KnownTexts.{is_clinit}
use Rattle.class_format.specs.Members.{code_count}
use Rattle.class_format.specs.Meaning.{IsClass}
use Rattle.class_format.specs.declared.class.ClassFile.{ClassFile}
use Rattle.class_format.specs.declared.class.FieldItem.{FieldItem}
use Rattle.class_format.specs.declared.class.MethodItem.{MethodItem}
use Rattle.class_format.proofs.Recursion.{by_recursion}
use Rattle.class_names.specs.Classes.{code_of as code_in, ok_of, ops_of}
use Rattle.class_names.specs.Known.{is_name}
use Rattle.class_names.specs.Texts.{Member, text_in, member_in, clinit_name, init_name}
use Rattle.code_table.specs.Decoded.{decoded}
use Rattle.code_table.specs.declared.code.Code.{Code}
use Rattle.code_table.specs.declared.code.Placed.{Placed}
use Rattle.code_table.specs.declared.op.Op.{Op}
use Rattle.code_table.specs.declared.op.Op.TheVariants as op
use Rattle.code_table.specs.declared.opcode.TheConstants as code
use Rattle.link_rules.specs.Members.{method_name, method_desc}
use Rattle.link_rules.specs.Numbers.{map_from}
use Rattle.link_rules.specs.Walks.Spelled.{IsSpelled, IsSpelledPlaced}
use Rattle.link_rules.proofs.SpelledOps.{code_spelled}
use Rattle.link_arrays.specs.Arrays.{array_types}
use Rattle.link_arrays.specs.Literals.{literals}
use Rattle.link_arrays.proofs.BootLaws.{is_decoded}
use Rattle.link_image.specs.Classes.{class_info, class_infos}
use Rattle.link_image.specs.Fields.{is_fixed, base_of, place_in, no_desc, field_info, field_infos}
use Rattle.link_image.specs.Image.{image_of}
use Rattle.link_image.specs.Methods.{first_method, method_info, bare_body, body_of as body_in, no_method_desc}
use Rattle.link_image.specs.Targets.{Known, known, field_target, field_at, method_at as method_found, op_target}
use Rattle.link_image.proofs.ListLaws.{get_map_from}
use Rattle.link_image.proofs.MainLaw.{info_at}
use Rattle.link_uses.specs.Lookups.{is_field_of, is_method_of, found_field, found_method}
use Rattle.link_uses.specs.Uses.{wrong_name, wrong_method_flags}
use Rattle.link_uses.specs.declared.lookup.Found.{Found}
use Rattle.program_image.specs.Program.{Program, target_of}
use Rattle.program_image.specs.Words.{fields_of}
use Rattle.program_image.specs.declared.info.Body.TheVariants as body
use Rattle.program_image.specs.declared.info.ClassInfo.{ClassInfo}
use Rattle.program_image.specs.declared.info.FieldInfo.{FieldInfo}
use Rattle.program_image.specs.declared.info.MethodInfo.{MethodInfo}
use Rattle.program_image.specs.declared.info.Target.{Target}
use Rattle.program_image.specs.declared.info.Target.TheVariants as target
use Rattle.instruction_table.specs.ClassTypes.{method_at, desc_type, method_in, owner_of, is_static_method}
use Rattle.machine_state.specs.Classes.{body_of}
use Rattle.frame_soundness.specs.Holding.{static_types, desc_of as desc_at}
use Rattle.linked_classes.specs.Linking.{AreRight}
use Rattle.linked_classes.proofs.Above.{all_at, declared, neither, not_false, same_name}
use Rattle.linked_methods.specs.Linking.{AreRightMembers}
use Rattle.linked_methods.proofs.Numbered.{before, method_there as numbered_there}
use Rattle.linked_code.specs.Linking.{AreRightUses}
use Rattle.linked_code.proofs.Codes.{IsOpAt, all_formed, formed_method}
use Rattle.linked_code.proofs.Lookups.{FindsField, FindsMethod}
use Rattle.linked_code.proofs.Named.{targeted, count}
use Rattle.linked_code.proofs.Uses.{static_there, method_there, decoded_there, same_bool}

-- ---- lists

one_more : (n : ℕ) → 1 + n ≡ suc n
one_more n = omega arith

none_more : (n : ℕ) → 0 + n ≡ n
none_more n = omega arith

count_by-cons : {A : Type 0} (t : A → Bool) (x : A) (xs : List A) → count_by t (x ∷ xs) ≡ cond (t x) 1 0 + count_by t xs
count_by-cons t x xs = sum_by-cons (λ y. cond (t y) 1 0) x xs

-- an item that passes stands among those that pass behind those before it that do
pub filtered_at : {A B : Type 0} (t : B → Bool) (s : A → Bool) (g : ℕ → A → B) → ((n : ℕ) (x : A) → t (g n x) ≡ s x) → (k : ℕ) (xs : List A) (i : ℕ) (x : A) → slice_get xs i ≡ Some x → s x ≡ true → slice_get (filter t (map_from g k xs)) (count_by s (take i xs)) ≡ Some (g (k + i) x)
filtered_at t s g same k [] i x e h = absurd cc
filtered_at t s g same k (y ∷ ys) zero x e h =
    let q : y ≡ x = cc in
    let passes : t (g k y) ≡ true = same k y ∙ ap s q ∙ h in
    let n : k + 0 ≡ k = omega arith in
    rw passes (ap (λ (z : _). Some (g k z)) q ∙ ap (λ (m : ℕ). Some (g m x)) (sym n))
filtered_at t s g same k (y ∷ ys) (suc i) x e h =
    let n : k + 1 + i ≡ k + suc i = omega arith in
    by_test (s y) refl (filtered_at t s g same (k + 1) ys i x e h ∙ ap (λ (m : ℕ). Some (g m x)) n)
  where
    by_test : (b : Bool) → s y ≡ b → slice_get (filter t (map_from g (k + 1) ys)) (count_by s (take i ys)) ≡ Some (g (k + suc i) x) → slice_get (filter t (map_from g k (y ∷ ys))) (count_by s (y ∷ take i ys)) ≡ Some (g (k + suc i) x)
    by_test true q again =
        let passes : t (g k y) ≡ true = same k y ∙ q in
        let c : count_by s (y ∷ take i ys) ≡ suc (count_by s (take i ys)) = count_by-cons s y (take i ys) ∙ ap (λ (b : Bool). cond b 1 0 + count_by s (take i ys)) q ∙ one_more (count_by s (take i ys)) in
        rw (passes, c) again
    by_test false q again =
        let fails : t (g k y) ≡ false = same k y ∙ q in
        let c : count_by s (y ∷ take i ys) ≡ count_by s (take i ys) = count_by-cons s y (take i ys) ∙ ap (λ (b : Bool). cond b 1 0 + count_by s (take i ys)) q ∙ none_more (count_by s (take i ys)) in
        rw (fails, c) again

module _ (files : List ClassFile) (main : Found) (right : AreRight files (array_types files) (literals files) main) (members : AreRightMembers files) (uses : AreRightUses files) (m at : ℕ) (o : Placed) (x : IsOpAt (boot_files ++ files) m at o) where
  abbrev p : Program
  p = image_of (boot_files ++ files) (array_types files) (literals files) main

  abbrev names : Known
  names = known (boot_files ++ files) (array_types files) (literals files)

  abbrev classes : ℕ
  classes = length (boot_files ++ files) + length (array_types files)

  -- the descriptor that an instruction holds is that of its member
  pub spelled : (z : Op) → o.op ≡ z → IsSpelled x.file.pool z
  spelled z e =
      subst (IsSpelled x.file.pool) e
      (all_at (IsSpelledPlaced x.file.pool) (ops_of x.file.pool x.item) (by_recursion (IsSpelledPlaced x.file.pool) (ops_of x.file.pool x.item) (code_spelled x.file.pool x.item (code_in x.file.pool x.item) refl)) x.index o x.is_op)

  pub class_bound : (c : ℕ) (f : ClassFile) → slice_get (boot_files ++ files) c ≡ Some f → c < length p.classes
  class_bound c f e = let l = slice_get_within (boot_files ++ files) c f e in let n = count files main right members uses m at o x in omega arith

  -- ---- fields

  -- a field that is found, as the image has it
  abbrev pub info_in : (n : Member) (b : Bool) → FindsField (boot_files ++ files) n b → FieldInfo
  info_in n b y = field_info classes (literals files) y.file (0 + y.found.class) (place_in (base_of (boot_files ++ files) (0 + y.found.class)) y.file.fields (0 + y.found.place) y.item) y.item

  pub field_placed : (n : Member) (b : Bool) (y : FindsField (boot_files ++ files) n b) → option_and_then (field_at names.infos) (found_field (boot_files ++ files) n) ≡ Some (target.Field y.found.class (info_in n b y).place b)
  field_placed n b y =
      let info : ClassInfo = class_info (boot_files ++ files) classes (literals files) (0 + y.found.class) y.file in
      let here : slice_get (class_infos (boot_files ++ files) (array_types files) (literals files)) y.found.class ≡ Some info = info_at (boot_files ++ files) (array_types files) (literals files) y.found.class y.file y.is_file in
      let make : ℕ → FieldItem → FieldInfo = λ i z. field_info classes (literals files) y.file (0 + y.found.class) (place_in (base_of (boot_files ++ files) (0 + y.found.class)) y.file.fields i z) z in
      let own : slice_get info.fields y.found.place ≡ Some (make (0 + y.found.place) y.item) = get_map_from make 0 y.file.fields y.found.place ∙ ap (option_map (make (0 + y.found.place))) y.is_item in
      ap (option_and_then (field_at names.infos)) y.is_found
      ∙ ap (λ (z : Option ClassInfo). option_map (field_target y.found) (option_and_then (λ c. slice_get c.fields y.found.place) z)) here
      ∙ ap (option_map (field_target y.found)) own
      ∙ ap (λ (z : Bool). Some (target.Field y.found.class (info_in n b y).place z)) y.is_fixed

  -- its descriptor is the one that is named
  pub field_typed : (n : Member) (b : Bool) (y : FindsField (boot_files ++ files) n b) (d : Desc) → desc_of n.desc ≡ Some d → (info_in n b y).desc ≡ d
  unfolding is_field_of
  field_typed n b y d e =
      let (a, c) = and_parts (is_name n.name (text_in y.file.pool y.item.name)) (is_name n.desc (text_in y.file.pool y.item.desc)) y.same in
      let s : n.desc ≡ text_in y.file.pool y.item.desc = same_name n.desc (text_in y.file.pool y.item.desc) c in
      ap (λ (z : Option Desc). from no_desc (λ d. d) z) (ap desc_of (sym s) ∙ e)

  -- the fields of its class
  pub fields_are : (c : ℕ) (f : ClassFile) → slice_get (boot_files ++ files) c ≡ Some f → fields_of p c ≡ field_infos classes (literals files) f (0 + c) (base_of (boot_files ++ files) (0 + c))
  fields_are c f e = ap (λ (z : Option ClassInfo). from [] (λ k. k.fields) z) (declared files (array_types files) (literals files) main right c f e)

  -- a static stands at its place
  static_placed : (n : Member) (y : FindsField (boot_files ++ files) n true) → slice_get (static_types p y.found.class) (info_in n true y).place ≡ Some (desc_type p (info_in n true y).desc)
  static_placed n y =
      let make : ℕ → FieldItem → FieldInfo = λ i z. field_info classes (literals files) y.file (0 + y.found.class) (place_in (base_of (boot_files ++ files) (0 + y.found.class)) y.file.fields i z) z in
      let at_place : (info_in n true y).place ≡ count_by is_fixed (take (0 + y.found.place) y.file.fields) = rw y.is_fixed refl in
      let z : 0 + y.found.place ≡ y.found.place = omega arith in
      slice_get-map (λ (f : FieldInfo). desc_type p f.desc) (filter (λ f. is_static f.flags) (fields_of p y.found.class)) (info_in n true y).place
      ∙ ap (λ (fs : List FieldInfo). option_map (λ (f : FieldInfo). desc_type p f.desc) (slice_get (filter (λ f. is_static f.flags) fs) (info_in n true y).place)) (fields_are y.found.class y.file y.is_file)
      ∙ ap (λ (k : ℕ). option_map (λ (f : FieldInfo). desc_type p f.desc) (slice_get (filter (λ f. is_static f.flags) (map_from make 0 y.file.fields)) k)) (at_place ∙ ap (λ (k : ℕ). count_by is_fixed (take k y.file.fields)) z)
      ∙ ap (option_map (λ (f : FieldInfo). desc_type p f.desc)) (filtered_at (λ (f : FieldInfo). is_static f.flags) is_fixed make (λ i z. refl) 0 y.file.fields y.found.place y.item y.is_item y.is_fixed)

  pub reads_static : (k i : ℕ) (d : Desc) → o.op ≡ op.Static k i d → (c place : ℕ) × (target_of p m at ≡ Some (target.Field c place true)) × (c < length p.classes) × (slice_get (static_types p c) place ≡ Some (desc_type p d))
  reads_static k i d e =
      let n : Member = member_in x.file.pool i in
      let y : FindsField (boot_files ++ files) n true = static_there files main right uses m at o x k i d e in
      let t : target_of p m at ≡ Some (target.Field y.found.class (info_in n true y).place true) = targeted files main right members uses m at o x (target.Field y.found.class (info_in n true y).place true) (ap (op_target names x.file) e ∙ field_placed n true y) in
      (y.found.class, (info_in n true y).place, t, class_bound y.found.class y.file y.is_file, static_placed n y ∙ ap (λ (z : Desc). Some (desc_type p z)) (field_typed n true y d (spelled (op.Static k i d) e)))

  -- ---- methods

  -- a method that is found, as the image has it
  method_placed : (n : Member) (k : ℕ) (y : FindsMethod (boot_files ++ files) n k) → option_and_then (method_found names.infos) (found_method (boot_files ++ files) n) ≡ Some (target.Method (first_method (boot_files ++ files) y.found.class + y.found.place))
  method_placed n k y =
      let info : ClassInfo = class_info (boot_files ++ files) classes (literals files) (0 + y.found.class) y.file in
      let here : slice_get (class_infos (boot_files ++ files) (array_types files) (literals files)) y.found.class ≡ Some info = info_at (boot_files ++ files) (array_types files) (literals files) y.found.class y.file y.is_file in
      let make : ℕ → MethodItem → ℕ = λ i z. first_method (boot_files ++ files) (0 + y.found.class) + i in
      let own : slice_get info.methods y.found.place ≡ Some (make (0 + y.found.place) y.item) = get_map_from make 0 y.file.methods y.found.place ∙ ap (option_map (make (0 + y.found.place))) y.is_item in
      let u : 0 + y.found.class ≡ y.found.class = omega arith in
      let v : 0 + y.found.place ≡ y.found.place = omega arith in
      ap (option_and_then (method_found names.infos)) y.is_found
      ∙ ap (λ (z : Option ClassInfo). option_map target.Method (option_and_then (λ c. slice_get c.methods y.found.place) z)) here
      ∙ ap (option_map target.Method) own
      ∙ ap (λ (c : ℕ). Some (target.Method (first_method (boot_files ++ files) c + (0 + y.found.place)))) u
      ∙ ap (λ (i : ℕ). Some (target.Method (first_method (boot_files ++ files) y.found.class + i))) v

  abbrev number_of : (n : Member) (k : ℕ) → FindsMethod (boot_files ++ files) n k → ℕ
  number_of n k y = first_method (boot_files ++ files) y.found.class + y.found.place

  -- its natives before it
  abbrev earlier : (n : Member) (k : ℕ) → FindsMethod (boot_files ++ files) n k → ℕ
  earlier n k y = before (boot_files ++ files) y.found.class y.found.place y.file

  method_is : (n : Member) (k : ℕ) (y : FindsMethod (boot_files ++ files) n k) → method_at p (number_of n k y) ≡ Some (method_info y.file (0 + y.found.class) (earlier n k y) y.item)
  unfolding image_of
  method_is n k y = numbered_there (boot_files ++ files) y.found.class y.file y.found.place y.item y.is_file y.is_item

  -- its name and its descriptor are those that are named
  method_texts : (n : Member) (k : ℕ) (y : FindsMethod (boot_files ++ files) n k) → (n.name ≡ method_name y.file y.item) × (n.desc ≡ method_desc y.file y.item)
  unfolding is_method_of
  method_texts n k y =
      let (a, c) = and_parts (is_name n.name (text_in y.file.pool y.item.name)) (is_name n.desc (text_in y.file.pool y.item.desc)) y.same in
      (same_name n.name (text_in y.file.pool y.item.name) a, same_name n.desc (text_in y.file.pool y.item.desc) c)

  method_typed : (n : Member) (k : ℕ) (y : FindsMethod (boot_files ++ files) n k) (d : MethodDesc) → method_of n.desc ≡ Some d → desc_at p (number_of n k y) ≡ Some d
  method_typed n k y d e =
      ap (λ (z : Option MethodInfo). from None (λ i. Some i.desc) z) (method_is n k y)
      ∙ ap (λ (z : Option MethodDesc). Some (from no_method_desc (λ d. d) z)) (ap method_of (sym (method_texts n k y).1) ∙ e)

  -- it has a receiver exactly where the call gives one
  method_fixed : (n : Member) (k : ℕ) (y : FindsMethod (boot_files ++ files) n k) → is_static_method p (number_of n k y) ≡ (k == code.INVOKESTATIC)
  unfolding wrong_name wrong_method_flags
  method_fixed n k y =
      let (flags, w) = neither (not (beq (is_static y.item.flags) (k == code.INVOKESTATIC))) (k == code.INVOKESPECIAL && is_abstract y.item.flags) y.suits in
      let (named, v) = neither (is_name clinit_name n.name) (is_name init_name n.name && not (k == code.INVOKESPECIAL)) y.named in
      let clinit : is_clinit (method_name y.file y.item) ≡ false =
      nat_list_eq_equiv.symm (method_name y.file y.item) clinit_name ∙ ap (λ (us : List ℕ). is_name clinit_name us) (sym (method_texts n k y).0) ∙ named in
      ap (λ (z : Option MethodInfo). is_static (from 0 (λ i. i.flags) z) || is_clinit (from [] (λ i. i.name) z)) (method_is n k y)
      ∙ or_none (is_static y.item.flags) (is_clinit (method_name y.file y.item)) clinit
      ∙ same_bool (is_static y.item.flags) (k == code.INVOKESTATIC) (not_false _ flags)
    where
      or_none : (a b : Bool) → b ≡ false → (a || b) ≡ a
      or_none true b e = refl
      or_none false b e = e

  method_owner : (n : Member) (k : ℕ) (y : FindsMethod (boot_files ++ files) n k) → owner_of p (number_of n k y) < length p.classes
  method_owner n k y =
      let l = class_bound y.found.class y.file y.is_file in
      let s : owner_of p (number_of n k y) ≡ 0 + y.found.class = ap (λ (z : Option MethodInfo). from 0 (λ i. i.owner) z) (method_is n k y) in
      omega arith

  -- `invokespecial` names something that runs
  method_runs : (n : Member) (k : ℕ) (y : FindsMethod (boot_files ++ files) n k) → (k == code.INVOKESPECIAL) ≡ true → body_of p (number_of n k y) ≡ body.Abstract → ⊥
  unfolding wrong_method_flags
  method_runs n k y s e =
      let (flags, w) = neither (not (beq (is_static y.item.flags) (k == code.INVOKESTATIC))) (k == code.INVOKESPECIAL && is_abstract y.item.flags) y.suits in
      let concrete : is_abstract y.item.flags ≡ false = rw s at w in
      let formed : FormedCodeOf y.file.pool y.item.flags y.item.code = (formed_method y.file (all_at IsClass (boot_files ++ files) (all_formed files members.formed) y.found.class y.file y.is_file) y.found.place y.item y.is_item).code in
      let told : is_decoded y.file.pool y.item ≡ true = decoded_there files main right uses y.found.class y.found.place y.file y.item y.is_file y.is_item in
      let same : body_in (earlier n k y) y.item (code_in y.file.pool y.item) ≡ body.Abstract = sym (ap (λ (z : Option MethodInfo). from body.Abstract (λ i. i.body) z) (method_is n k y)) ∙ e in
      by_code y.item.code refl concrete formed told same
    where
      bare : (b : Bool) → ◌≡◌ {A = ℕ} (if (b || false) then 0 else 1) 0 → (if b then body.Intrinsic (earlier n k y) else body.Abstract) ≡ body.Abstract → ⊥
      bare true c h = cc
      bare false c h = absurd (omega arith)

      by_decoded : (c : Option Code) → is_some c ≡ true → from (bare_body (earlier n k y) y.item) body.Code c ≡ body.Abstract → ⊥
      by_decoded None t h = absurd cc
      by_decoded (Some c) t h = cc

      by_code : (c : Option CodeItem) → y.item.code ≡ c → is_abstract y.item.flags ≡ false → FormedCodeOf y.file.pool y.item.flags y.item.code → is_decoded y.file.pool y.item ≡ true → body_in (earlier n k y) y.item (code_in y.file.pool y.item) ≡ body.Abstract → ⊥
      by_code None q a f t h =
          let z : code_count y.item.flags ≡ 0 = subst (λ (c : Option CodeItem). FormedCodeOf y.file.pool y.item.flags c) q f in
          let none : code_in y.file.pool y.item ≡ None = ap (λ (c : Option CodeItem). option_and_then (λ c. ok_of (decoded c y.file.pool)) c) q in
          bare (is_native y.item.flags) (rw a at z) (rw none at h)
      by_code (Some c) q a f t h =
          by_decoded (code_in y.file.pool y.item) (subst (λ (c : Option CodeItem). (not (is_some c) || is_some (code_in y.file.pool y.item)) ≡ true) q t) h

  pub calls : (k i : ℕ) (d : MethodDesc) → o.op ≡ op.Invoke k i d → (desc_at p (method_in (target_of p m at)) ≡ Some d) × (is_static_method p (method_in (target_of p m at)) ≡ (k == code.INVOKESTATIC)) × (owner_of p (method_in (target_of p m at)) < length p.classes) × ((k == code.INVOKESPECIAL) ≡ true → body_of p (method_in (target_of p m at)) ≡ body.Abstract → ⊥)
  calls k i d e =
      let n : Member = member_in x.file.pool i in
      let y : FindsMethod (boot_files ++ files) n k = method_there files main right uses m at o x k i d e in
      let t : target_of p m at ≡ Some (target.Method (number_of n k y)) = targeted files main right members uses m at o x (target.Method (number_of n k y)) (ap (op_target names x.file) e ∙ method_placed n k y) in
      subst (λ (z : Option Target). (desc_at p (method_in z) ≡ Some d) × (is_static_method p (method_in z) ≡ (k == code.INVOKESTATIC)) × (owner_of p (method_in z) < length p.classes) × ((k == code.INVOKESPECIAL) ≡ true → body_of p (method_in z) ≡ body.Abstract → ⊥)) (sym t)
      (method_typed n k y d (spelled (op.Invoke k i d) e), method_fixed n k y, method_owner n k y, method_runs n k y)
