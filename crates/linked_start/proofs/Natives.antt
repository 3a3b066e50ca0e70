-- Methods that do intrinsics are declared as those.
use Rattle.std.proofs.Common.{◌≡◌, ◌∙◌, sym, ap, refl, ℕ, zero, suc, ◌+◌, ◌<◌, ◌≤◌, Bool, true, false, cond, not, List, [], ◌∷◌, ◌++◌, length, map, take, slice_get, Option, Some, None, inl, inr, arith}
use Rattle.std.specs.Prelude.{◌||◌, option_map, if◌then◌else◌}
use Rattle.std.specs.List.{count_by, filter, flat_map, list_all, sum_by}
use Rattle.std.specs.Option.{option_to_list}
use Rattle.std.proofs.lemmas.List.{length-map, take-append-le}
use Rattle.std.proofs.lemmas.List.Sums.{length-filter, sum_by-cons}
use Rattle.std.proofs.lemmas.Option.{slice_get_within, slice_get-map}
use Rattle.jvm_base.specs.Descriptors.{method_of, args_at, desc_of, desc_at, elem_at}
use Rattle.jvm_base.specs.Words.{from}
use Rattle.jvm_base.specs.declared.desc.Desc.{Desc}
use Rattle.jvm_base.specs.declared.desc.MethodDesc.{MethodDesc}
use Rattle.jvm_base.proofs.Options.{not_true}
use Rattle.boot_table.specs.Files.{boot_files}
use Rattle.boot_table.specs.Table.{boot_rows, first_rows, exceptions}
use Rattle.class_format.specs.Flags.{is_interface, is_native, is_static}
use Rattle.class_format.specs.KnownTexts.{is_clinit}
use Rattle.class_format.specs.declared.class.ClassFile.{ClassFile}
use Rattle.class_format.specs.declared.class.MethodItem.{MethodItem}
use Rattle.class_names.specs.Classes.{code_of as code_in}
use Rattle.code_table.specs.declared.code.Code.{Code}
use Rattle.link_rules.specs.Members.{method_name, method_desc, is_wrong_method, wrong_field, wrong_method, wrong_members}
use Rattle.link_rules.specs.Numbers.{numbered, flags_at}
use Rattle.link_uses.specs.declared.lookup.Found.{Found}
use Rattle.link_image.specs.Classes.{class_infos}
use Rattle.link_image.specs.Image.{image_of}
use Rattle.link_image.specs.Methods.{natives as count_natives, natives_before, no_method_desc, method_info, body_of as body_in}
use Rattle.link_members.proofs.LoopLaws.{parts_none}
use Rattle.program_image.specs.Program.{Program}
use Rattle.program_image.specs.declared.info.Body.{Body}
use Rattle.program_image.specs.declared.info.Body.TheVariants as body
use Rattle.program_image.specs.declared.info.MethodInfo.{MethodInfo}
use Rattle.instruction_table.specs.ClassTypes.{desc_type, method_at, owner_of, is_an_interface}
use Rattle.machine_state.specs.Classes.{body_of}
use Rattle.frame_soundness.specs.Holding.{answer_type, desc_of as desc_at_number}
use Rattle.frame_soundness.specs.Natives.{Native, NativeFits, natives, native_at}
use Rattle.typed_classes.proofs.Steps.{plain_class}
use Rattle.linked_classes.specs.Linking.{AreRight}
use Rattle.linked_classes.proofs.Above.{back_at, flat_none, kept, neither, interface_declared, place_of}
use Rattle.linked_classes.proofs.BootAbove.{boot_count, front_at, tested_at}
use Rattle.linked_methods.specs.Linking.{AreRightMembers}
use Rattle.linked_methods.proofs.Numbered.{before, IsMethodAt, method_at as declared_at}
use Rattle.linked_start.specs.Linking.{NativesLaw}

-- ---- lists

-- an item that a test keeps stands behind those before it that are kept
kept_at : {A : Type 0} (t : A → Bool) (xs : List A) (i : ℕ) (x : A) → slice_get xs i ≡ Some x → t x ≡ true → slice_get (filter t xs) (count_by t (take i xs)) ≡ Some x
kept_at t [] i x e h = absurd cc
kept_at t (y ∷ ys) zero x e h = let s : y ≡ x = cc in let q : t y ≡ true = ap t s ∙ h in rw q (ap Some s)
kept_at t (y ∷ ys) (suc i) x e h =
    ap (slice_get (filter t (y ∷ ys))) (sum_by-cons (λ z. cond (t z) 1 0) y (take i ys)) ∙ by_test (t y) (kept_at t ys i x e h)
  where
    by_test : (b : Bool) → slice_get (filter t ys) (count_by t (take i ys)) ≡ Some x → slice_get (cond b (y ∷ filter t ys) (filter t ys)) (cond b 1 0 + count_by t (take i ys)) ≡ Some x
    by_test true q = let n : 1 + count_by t (take i ys) ≡ suc (count_by t (take i ys)) = omega arith in ap (slice_get (y ∷ filter t ys)) n ∙ q
    by_test false q = let n : 0 + count_by t (take i ys) ≡ count_by t (take i ys) = omega arith in ap (slice_get (filter t ys)) n ∙ q

-- ---- native methods by number

module _ {B : Type 0} (h : ℕ → ClassFile → MethodItem → B) where
  -- what is made of those of a class
  pub natives_in : ℕ → ClassFile → List B
  natives_in c f = map (h c f) (filter (λ m. is_native m.flags) f.methods)

  -- as many as are native
  count_in : (c : ℕ) (f : ClassFile) → length (natives_in c f) ≡ count_natives f.methods
  unfolding natives_in
  count_in c f = length-map (filter (λ m. is_native m.flags) f.methods) (h c f) ∙ length-filter (λ m. is_native m.flags) f.methods

  -- the one of a place among those
  kept_in : (n : ℕ) (f : ClassFile) (i : ℕ) (x : MethodItem) → slice_get f.methods i ≡ Some x → is_native x.flags ≡ true → slice_get (natives_in n f) (count_natives (take i f.methods)) ≡ Some (h n f x)
  unfolding natives_in
  kept_in n f i x q k =
      slice_get-map (h n f) (filter (λ (m : MethodItem). is_native m.flags) f.methods) (count_natives (take i f.methods))
      ∙ ap (option_map (h n f)) (kept_at (λ (m : MethodItem). is_native m.flags) f.methods i x q k)

  -- the one at a place of a class
  at_native : (n : ℕ) (fs : List ClassFile) (c : ℕ) (f : ClassFile) (i : ℕ) (x : MethodItem) → slice_get fs c ≡ Some f → slice_get f.methods i ≡ Some x → is_native x.flags ≡ true → slice_get (numbered natives_in n fs) (sum_by (λ g. count_natives g.methods) (take c fs) + count_natives (take i f.methods)) ≡ Some (h (n + c) f x)
  at_native n [] c f i x e q k = absurd cc
  at_native n (y ∷ ys) zero f i x e q k =
      let s : y ≡ f = cc in
      let w : sum_by (λ (g : ClassFile). count_natives g.methods) [] + count_natives (take i f.methods) ≡ count_natives (take i f.methods) = omega arith in
      let z : n + 0 ≡ n = omega arith in
      let r : slice_get (natives_in n f) (count_natives (take i f.methods)) ≡ Some (h n f x) = kept_in n f i x q k in
      let l : count_natives (take i f.methods) < length (natives_in n f) = slice_get_within (natives_in n f) (count_natives (take i f.methods)) (h n f x) r in
      ap (slice_get (natives_in n y ++ numbered natives_in (n + 1) ys)) w
      ∙ ap (λ (g : ClassFile). slice_get (natives_in n g ++ numbered natives_in (n + 1) ys) (count_natives (take i f.methods))) s
      ∙ front_at (natives_in n f) (numbered natives_in (n + 1) ys) (count_natives (take i f.methods)) l
      ∙ r
      ∙ sym (ap (λ (m : ℕ). Some (h m f x)) z)
  at_native n (y ∷ ys) (suc c) f i x e q k =
      let l : length (natives_in n y) ≡ count_natives y.methods = count_in n y in
      let s : sum_by (λ (g : ClassFile). count_natives g.methods) (y ∷ take c ys) ≡ count_natives y.methods + sum_by (λ (g : ClassFile). count_natives g.methods) (take c ys) = sum_by-cons (λ (g : ClassFile). count_natives g.methods) y (take c ys) in
      let w : sum_by (λ (g : ClassFile). count_natives g.methods) (y ∷ take c ys) + count_natives (take i f.methods) ≡ length (natives_in n y) + (sum_by (λ (g : ClassFile). count_natives g.methods) (take c ys) + count_natives (take i f.methods)) = omega arith in
      let z : n + 1 + c ≡ n + suc c = omega arith in
      ap (slice_get (natives_in n y ++ numbered natives_in (n + 1) ys)) w
      ∙ back_at (natives_in n y) (numbered natives_in (n + 1) ys) (sum_by (λ (g : ClassFile). count_natives g.methods) (take c ys) + count_natives (take i f.methods))
      ∙ at_native (n + 1) ys c f i x e q k
      ∙ ap (λ (m : ℕ). Some (h m f x)) z

-- no interface declares one
owners_plain : list_all (λ (r : Native). not (is_interface (flags_at boot_files r.owner))) natives ≡ true
unfolding boot_files boot_rows first_rows exceptions
owners_plain = refl

-- what has the body of an intrinsic is native
intrinsic_body : (k j : ℕ) (x : MethodItem) (o : Option Code) → body_in j x o ≡ body.Intrinsic k → (is_native x.flags ≡ true) × (j ≡ k)
intrinsic_body k j x (Some c) e = absurd cc
intrinsic_body k j x None e = by_flag (is_native x.flags) e
  where
    by_flag : (b : Bool) → (if b then body.Intrinsic j else body.Abstract) ≡ body.Intrinsic k → (b ≡ true) × (j ≡ k)
    by_flag true e = let s : j ≡ k = cc in (refl, s)
    by_flag false e = absurd cc

-- ---- an image

module _ (files : List ClassFile) (arrays : List Desc) (literals : List (List ℕ)) (main : Found) where
  abbrev p : Program
  p = image_of (boot_files ++ files) arrays literals main

  -- what a method takes and gives
  abbrev desc_in : ClassFile → MethodItem → MethodDesc
  desc_in f x = from no_method_desc (λ d. d) (method_of (method_desc f x))

  -- a native method by its types
  native_seen : ℕ → ClassFile → MethodItem → Native
  native_seen c f x = record {
    fixed = is_static x.flags || is_clinit (method_name f x);
    owner = c;
    args = map (desc_type p) (desc_in f x).args;
    result = option_to_list (answer_type p (desc_in f x));
  }

  -- those of the boot classes are the intrinsics, in their order
  natives_seen : numbered (natives_in native_seen) 0 boot_files ≡ natives
  unfolding native_seen natives_in image_of class_infos boot_files boot_rows first_rows exceptions method_of args_at desc_of desc_at elem_at
  natives_seen = refl

  module _ (right : AreRight files arrays literals main) (members : AreRightMembers files) where
    -- no file declares a native method
    pub no_native : (i j : ℕ) (f : ClassFile) (x : MethodItem) → slice_get files i ≡ Some f → slice_get f.methods j ≡ Some x → is_native x.flags ≡ false
    unfolding wrong_members wrong_method
    no_native i j f x e q =
        let w : flat_map (wrong_method f) f.methods ≡ [] = (parts_none (flat_map (wrong_field f) f.fields) (flat_map (wrong_method f) f.methods) (flat_none wrong_members files members.right i f e)).1 in
        let t : is_wrong_method f x ≡ false = kept (is_wrong_method f x) _ f _ (flat_none (wrong_method f) f.methods w j x q) in
        (neither (is_native x.flags) _ t).0

    -- so one that is native is of a boot class
    pub native_boot : (c j : ℕ) (f : ClassFile) (x : MethodItem) → slice_get (boot_files ++ files) c ≡ Some f → slice_get f.methods j ≡ Some x → is_native x.flags ≡ true → slice_get boot_files c ≡ Some f
    native_boot c j f x e q k =
        elim (place_of files arrays literals main right c f e) [
          | inl b ↦ b
          | inr b ↦ let z : true ≡ false = sym k ∙ no_native b.0 j f x b.1 q in absurd cc
        ]

    -- where such a method is
    pub record IsNativeAt (m k : ℕ) : Type 0 where
      pub info : MethodInfo
      pub is_info : method_at p m ≡ Some info
      pub at : IsMethodAt (boot_files ++ files) info
      pub native : is_native at.item.flags ≡ true
      pub number : before (boot_files ++ files) at.class at.place at.file ≡ k
      pub boot : slice_get boot_files at.class ≡ Some at.file

    -- the method of a number is declared by a class
    info_there : (m : ℕ) (info : MethodInfo) → method_at p m ≡ Some info → IsMethodAt (boot_files ++ files) info
    unfolding image_of
    info_there m info e = declared_at (boot_files ++ files) m info e

    -- what does an intrinsic is native
    pub native_at_number : (m k : ℕ) → body_of p m ≡ body.Intrinsic k → IsNativeAt m k
    native_at_number m k e = by_method (method_at p m) refl
      where
        by_method : (o : Option MethodInfo) → method_at p m ≡ o → IsNativeAt m k
        by_method None q = let z : ◌≡◌ {A = Body} body.Abstract (body.Intrinsic k) = sym (ap (λ (o : Option MethodInfo). from body.Abstract (λ i. i.body) o) q) ∙ e in absurd cc
        by_method (Some info) q =
            let x : IsMethodAt (boot_files ++ files) info = info_there m info q in
            let j : ℕ = before (boot_files ++ files) x.class x.place x.file in
            let b : body_in j x.item (code_in x.file.pool x.item) ≡ body.Intrinsic k = ap (λ (i : MethodInfo). i.body) x.is_info ∙ sym (ap (λ (o : Option MethodInfo). from body.Abstract (λ i. i.body) o) q) ∙ e in
            let (n, s) = intrinsic_body k j x.item (code_in x.file.pool x.item) b in
            record { info = info; is_info = q; at = x; native = n; number = s; boot = native_boot x.class x.place x.file x.item x.is_file x.is_item n }

    -- files behind the boot classes count nothing before these
    front_natives : (c : ℕ) → c ≤ length boot_files → natives_before (boot_files ++ files) (0 + c) ≡ natives_before boot_files c
    unfolding natives_before
    front_natives c l = let z : 0 + c ≡ c = omega arith in ap (λ (n : ℕ). sum_by (λ (f : ClassFile). count_natives f.methods) (take n (boot_files ++ files))) z ∙ ap (sum_by (λ (f : ClassFile). count_natives f.methods)) (take-append-le c boot_files files l)

    -- the native method at a place of a boot class, among all
    seen_at : (c : ℕ) (f : ClassFile) (i : ℕ) (x : MethodItem) → slice_get boot_files c ≡ Some f → slice_get f.methods i ≡ Some x → is_native x.flags ≡ true → slice_get (numbered (natives_in native_seen) 0 boot_files) (natives_before boot_files c + count_natives (take i f.methods)) ≡ Some (native_seen (0 + c) f x)
    unfolding natives_before
    seen_at c f i x e q k = at_native native_seen 0 boot_files c f i x e q k

    -- a method that does an intrinsic is that one
    fits : (m k : ℕ) (d : MethodDesc) → body_of p m ≡ body.Intrinsic k → desc_at_number p m ≡ Some d → NativeFits p m k d
    unfolding native_seen
    fits m k d e g = all_of_it (native_at_number m k e)
      where
        all_of_it : IsNativeAt m k → NativeFits p m k d
        all_of_it y =
            let x : IsMethodAt (boot_files ++ files) y.info = y.at in
            let n = boot_count in
            let l : x.class < length boot_files = slice_get_within boot_files x.class x.file y.boot in
            let z : 0 + x.class ≡ x.class = omega arith in
            let place : 0 + x.place ≡ x.place = omega arith in
            let front : natives_before (boot_files ++ files) (0 + x.class) ≡ natives_before boot_files x.class =
            front_natives x.class (omega arith) in
            let number : natives_before boot_files x.class + count_natives (take x.place x.file.methods) ≡ k = sym (ap (λ (a : ℕ). a + count_natives (take x.place x.file.methods)) front) ∙ sym (ap (λ (i : ℕ). natives_before (boot_files ++ files) (0 + x.class) + count_natives (take i x.file.methods)) place) ∙ y.number in
            let r : slice_get natives k ≡ Some (native_seen (0 + x.class) x.file x.item) =
            ap (slice_get natives) (sym number) ∙ sym (ap (λ (rs : List Native). slice_get rs (natives_before boot_files x.class + count_natives (take x.place x.file.methods))) natives_seen) ∙ seen_at x.class x.file x.place x.item y.boot x.is_item y.native in
            let is : native_at k ≡ native_seen (0 + x.class) x.file x.item = ap (λ (o : Option Native). from (native_at 34) (λ r. r) o) r in
            let same : method_info x.file (0 + x.class) (before (boot_files ++ files) x.class x.place x.file) x.item ≡ y.info = x.is_info in
            let here : method_at p m ≡ Some (method_info x.file (0 + x.class) (before (boot_files ++ files) x.class x.place x.file) x.item) = y.is_info ∙ ap Some (sym same) in
            let owner : owner_of p m ≡ 0 + x.class = ap (λ (o : Option MethodInfo). from 0 (λ i. i.owner) o) here in
            let typed : ◌≡◌ {A = Option MethodDesc} (Some (desc_in x.file x.item)) (Some d) = sym (ap (λ (o : Option MethodInfo). from None (λ i. Some i.desc) o) here) ∙ g in
            let desc : desc_in x.file x.item ≡ d = cc in
            let bare : is_interface x.file.flags ≡ false =
            ap (λ (o : Option ClassFile). is_interface (from 0 (λ f. f.flags) o)) (sym y.boot)
            ∙ ap (λ (c : ℕ). is_interface (flags_at boot_files c)) (sym z)
            ∙ not_true (is_interface (flags_at boot_files (0 + x.class))) (tested_at (λ (r : Native). not (is_interface (flags_at boot_files r.owner))) natives owners_plain k (native_seen (0 + x.class) x.file x.item) r) in
            let bare_here : is_an_interface p (owner_of p m) ≡ false = ap (is_an_interface p) (owner ∙ z) ∙ interface_declared files arrays literals main right x.class x.file x.is_file ∙ bare in
            record {
              few = slice_get_within natives k (native_seen (0 + x.class) x.file x.item) r;
              fixed = ap (λ (o : Option MethodInfo). is_static (from 0 (λ i. i.flags) o) || is_clinit (from [] (λ i. i.name) o)) here ∙ sym (ap (λ (r : Native). r.fixed) is);
              owner = owner ∙ sym (ap (λ (r : Native). r.owner) is);
              no_interface = plain_class p (owner_of p m) bare_here;
              args = ap (λ (d : MethodDesc). map (desc_type p) d.args) (sym desc) ∙ sym (ap (λ (r : Native). r.args) is);
              result = ap (λ (d : MethodDesc). option_to_list (answer_type p d)) (sym desc) ∙ sym (ap (λ (r : Native). r.result) is);
            }

-- each intrinsic is declared as that one
pub natives_law : NativesLaw
natives_law files arrays literals main right members = fits files arrays literals main right members
