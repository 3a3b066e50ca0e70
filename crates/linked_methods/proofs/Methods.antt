-- Methods of an image belong to their classes, and initialisers are as the machine calls them.
use Rattle.std.proofs.Common.{◌≡◌, ◌∙◌, sym, ap, subst, refl, ℕ, suc, ◌+◌, ◌<◌, ◌==◌, Bool, true, false, not, List, [], ◌∷◌, ◌++◌, length, map, slice_get, position, Option, Some, None, inl, inr, arith}
use Rattle.std.specs.Prelude.{◌&&◌, ◌||◌, nat_eq, codes, option_and_then}
use Rattle.std.specs.Cmp.Lexicographic.{pointwise}
use Rattle.std.specs.List.{AllByRecursion, flat_map, list_all}
use Rattle.std.specs.Option.{is_none}
use Rattle.std.proofs.lemmas.Option.{slice_get_within}
use Rattle.jvm_base.specs.Descriptors.{method_of, args_at, desc_of, desc_at, elem_at}
use Rattle.jvm_base.specs.Words.{from}
use Rattle.jvm_base.specs.declared.code_item.CodeItem.{CodeItem}
use Rattle.jvm_base.specs.declared.desc.Desc.{Desc}
use Rattle.jvm_base.specs.declared.desc.MethodDesc.{MethodDesc}
use Rattle.jvm_base.specs.declared.pool.PoolItem.{PoolItem}
use Rattle.jvm_base.proofs.Options.{and_parts, map_some, then_some}
use Rattle.boot_table.specs.Files.{boot_files}
use Rattle.boot_table.specs.Table.{boot_rows, first_rows, exceptions}
use Rattle.class_format.specs.Flags.{is_interface, is_abstract, is_native, is_static}
use Rattle.class_format.specs.KnownTexts.{is_clinit}
use Rattle.class_format.specs.Meaning.{IsClass, IsMethod, HasCode, Spelled, contents_of, holds_code, plain_method}
use Rattle.class_format.specs.Members.{code_count}
use Rattle.class_format.specs.Spelling.{Member}
use Rattle.class_format.specs.declared.class.ClassFile.{ClassFile}
use Rattle.class_format.specs.declared.class.MethodItem.{MethodItem}
use Rattle.class_names.specs.Classes.{code_of as code_in, ok_of}
use Rattle.class_names.specs.Known.{is_name}
use Rattle.class_names.specs.Texts.{clinit_name}
use Rattle.code_table.specs.Decoded.{decoded}
use Rattle.code_table.specs.declared.code.Code.{Code}
use Rattle.hierarchy.specs.Walks.{has}
use Rattle.hierarchy.proofs.Tests.{or_split, or_right, equal_from}
use Rattle.link_rules.specs.Members.{method_name, method_desc, is_wrong_method, wrong_field, wrong_method, wrong_members}
use Rattle.link_rules.specs.Numbers.{map_from}
use Rattle.link_uses.specs.declared.lookup.Found.{Found}
use Rattle.link_image.specs.Image.{image_of}
use Rattle.link_image.specs.Methods.{first_method, method_info, method_numbers, clinit_number, bare_body, body_of as body_in, no_method_desc, is_initialiser as is_clinit_of}
use Rattle.link_image.proofs.ClassLaws.{count_infos}
use Rattle.program_image.specs.Handlers.{code_of, body_code}
use Rattle.program_image.specs.Program.{Program}
use Rattle.program_image.specs.Selection.{methods_of}
use Rattle.program_image.specs.declared.info.Body.TheVariants as body
use Rattle.program_image.specs.declared.info.ClassInfo.{ClassInfo}
use Rattle.program_image.specs.declared.info.MethodInfo.{MethodInfo}
use Rattle.instruction_table.specs.ClassTypes.{plain, class_at, method_at, array_at, owner_of, init_name, is_an_interface, is_initialiser, is_static_method}
use Rattle.machine_state.specs.Classes.{body_of, clinit_of}
use Rattle.frame_soundness.specs.AcceptedProgram.{IsOwned, IsAlone, nothing_desc}
use Rattle.typed_classes.proofs.Steps.{plain_class}
use Rattle.linked_classes.specs.Linking.{AreRight}
use Rattle.linked_classes.proofs.Above.{all_at, item_at, flat_none, kept, neither, not_false, same_name, declared, of_array, kind_of, interface_declared, array_declared, place_of}
use Rattle.linked_classes.proofs.BootAbove.{tested_at}
use Rattle.linked_classes.proofs.Positions.{position_at}
use Rattle.linked_methods.specs.Linking.{AreRightMembers, MethodsLaw}
use Rattle.linked_methods.proofs.Numbered.{before, method_there, IsMethodAt, method_at as declared_at}

-- ---- class files

-- who has code isn't abstract or native
abbrev IsCounted : MethodItem → Type 0
IsCounted m = (c : CodeItem) → m.code ≡ Some c → code_count m.flags ≡ 1

counted : (pool : List PoolItem) (flags : ℕ) (o : Option CodeItem) (contents : List (List ℕ)) → HasCode pool flags o contents → (c : CodeItem) → o ≡ Some c → code_count flags ≡ 1
counted pool flags None contents h c e = absurd cc
counted pool flags (Some k) contents h c e = h.0

spelled_counted : (pool : List PoolItem) (earlier : List MethodItem) (sources : List Member) (xs : List MethodItem) → Spelled (IsMethod pool) earlier sources xs → AllByRecursion IsCounted xs
spelled_counted pool earlier [] [] h = tt
spelled_counted pool earlier [] (x ∷ xs) h = absurd h
spelled_counted pool earlier (a ∷ sources) [] h = absurd h
spelled_counted pool earlier (a ∷ sources) (x ∷ xs) h = (
  λ c e. ap code_count h.0.flags ∙ counted pool a.flags x.code (contents_of (holds_code pool) a.attributes) h.0.code c e,
  spelled_counted pool (earlier ++ x ∷ []) sources xs h.1,
)

counted_file : (f : ClassFile) → IsClass f → AllByRecursion IsCounted f.methods
counted_file f h = spelled_counted f.pool [] (map (plain_method f.pool) f.methods) f.methods h.methods

-- a method of a file that isn't refused
method_kept : (f : ClassFile) (x : MethodItem) → wrong_method f x ≡ [] → is_wrong_method f x ≡ false
unfolding wrong_method
method_kept f x h = kept (is_wrong_method f x) _ f _ h

second_none : {A : Type 0} (xs ys : List A) → xs ++ ys ≡ [] → ys ≡ []
second_none [] ys h = h
second_none (x ∷ xs) ys h = absurd cc

-- ---- boot classes

-- no method of an interface has something to run
abbrev is_bare : ClassFile → Bool
is_bare f = not (is_interface f.flags) || list_all (λ m. is_none m.code && not (is_native m.flags)) f.methods

boot_bare : list_all is_bare boot_files ≡ true
unfolding boot_files boot_rows first_rows exceptions
boot_bare = refl

-- ---- bodies

no_code : (k : ℕ) (pool : List PoolItem) (m : MethodItem) → m.code ≡ None → is_native m.flags ≡ false → body_in k m (code_in pool m) ≡ body.Abstract
no_code k pool m e n =
    ap (λ (o : Option CodeItem). from (bare_body k m) body.Code (option_and_then (λ c. ok_of (decoded c pool)) o)) e ∙ rw n refl

is_none_is : (o : Option CodeItem) → is_none o ≡ true → o ≡ None
is_none_is None e = refl
is_none_is (Some c) e = absurd cc

not_true : (b : Bool) → not b ≡ true → b ≡ false
not_true true e = absurd cc
not_true false e = refl

-- the empty descriptor
plain_desc : method_of (codes "()V") ≡ Some nothing_desc
unfolding method_of args_at desc_of desc_at elem_at
plain_desc = refl

in_numbers : (a n : ℕ) (xs : List MethodItem) (m : ℕ) → has (map_from (λ i x. a + i) n xs) m ≡ true → (i : ℕ) × (i < length xs) × (m ≡ a + (n + i))
in_numbers a n [] m h = absurd cc
in_numbers a n (x ∷ xs) m h =
    elim (or_split (a + n == m) (has (map_from (λ i x. a + i) (n + 1) xs) m) h) [
      | inl e ↦ let s : a + n ≡ m = equal_from (a + n) m e in (0, omega arith, omega arith)
      | inr e ↦ let (i, l, s) = in_numbers a (n + 1) xs m e in (suc i, omega arith, omega arith)
    ]

module _ (files : List ClassFile) (arrays : List Desc) (literals : List (List ℕ)) (main : Found) (right : AreRight files arrays literals main) (members : AreRightMembers files) where
  abbrev p : Program
  p = image_of (boot_files ++ files) arrays literals main

  -- the method of a number is declared by a class
  info_there : (m : ℕ) (info : MethodInfo) → method_at p m ≡ Some info → IsMethodAt (boot_files ++ files) info
  unfolding image_of
  info_there m info e = declared_at (boot_files ++ files) m info e

  info_of : (c : ℕ) (f : ClassFile) (i : ℕ) (x : MethodItem) → slice_get (boot_files ++ files) c ≡ Some f → slice_get f.methods i ≡ Some x → method_at p (first_method (boot_files ++ files) (0 + c) + i) ≡ Some (method_info f (0 + c) (before (boot_files ++ files) c i f) x)
  unfolding image_of
  info_of c f i x e q =
      let z : 0 + c ≡ c = omega arith in
      ap (λ (k : ℕ). method_at p (first_method (boot_files ++ files) k + i)) z ∙ method_there (boot_files ++ files) c f i x e q

  owner_is : (m : ℕ) (info : MethodInfo) → method_at p m ≡ Some info → owner_of p m ≡ info.owner
  owner_is m info e = ap (λ (o : Option MethodInfo). from 0 (λ i. i.owner) o) e

  class_bound : (c : ℕ) (f : ClassFile) → slice_get (boot_files ++ files) c ≡ Some f → c < length p.classes
  unfolding image_of
  class_bound c f e =
      let l : c < length (boot_files ++ files) = slice_get_within (boot_files ++ files) c f e in
      let n = count_infos (boot_files ++ files) arrays literals in omega arith

  -- ---- owners

  owners : (k m : ℕ) → has (methods_of p.classes k) m ≡ true → IsOwned p k m
  owners k m h = by_class (class_at p k) refl
    where
      in_class : (f : ClassFile) → slice_get (boot_files ++ files) k ≡ Some f → has (method_numbers (first_method (boot_files ++ files) (0 + k)) f) m ≡ true → IsOwned p k m
      in_class f e g =
          let (i, l, s) = in_numbers (first_method (boot_files ++ files) (0 + k)) 0 f.methods m g in
          let (x, q) = item_at f.methods i l in
          let w : m ≡ first_method (boot_files ++ files) (0 + k) + i = omega arith in
          let z : 0 + k ≡ k = omega arith in
          record {
            owner = ap (owner_of p) w ∙ owner_is (first_method (boot_files ++ files) (0 + k) + i) (method_info f (0 + k) (before (boot_files ++ files) k i f) x) (info_of k f i x e q) ∙ z;
            bound = class_bound k f e;
            no_array = array_declared files arrays literals main right k f e;
          }

      by_class : (o : Option ClassInfo) → class_at p k ≡ o → IsOwned p k m
      by_class None q = let z : has [] m ≡ true = subst (λ (x : Option ClassInfo). has (from [] (λ info. info.methods) x) m ≡ true) q h in absurd cc
      by_class (Some info) q =
          elim (kind_of files arrays literals main right k info q) [
            | inl d ↦ in_class d.file d.is_file (subst (λ (x : Option ClassInfo). has (from [] (λ info. info.methods) x) m ≡ true) (declared files arrays literals main right k d.file d.is_file) h)
            | inr a ↦ let z : has [] m ≡ true = subst (λ (x : Option ClassInfo). has (from [] (λ info. info.methods) x) m ≡ true) (ap (class_at p) a.number ∙ of_array files arrays literals main right a.place a.type a.is_type) h in absurd cc
          ]

  -- a method that is there is of a declared class
  declares : (m : ℕ) (info : MethodInfo) → method_at p m ≡ Some info → (x : IsMethodAt (boot_files ++ files) info) × (owner_of p m ≡ x.class)
  declares m info e =
      let x : IsMethodAt (boot_files ++ files) info = info_there m info e in
      let z : 0 + x.class ≡ x.class = omega arith in
      (x, owner_is m info e ∙ sym (ap (λ (i : MethodInfo). i.owner) x.is_info) ∙ z)

  coded_in : (m : ℕ) (c : Code) → code_of p m ≡ Some c → array_at p (owner_of p m) ≡ None
  coded_in m c e =
      let (info, q, r) = then_some (λ (i : MethodInfo). body_code i.body) (method_at p m) c e in
      let (x, s) = declares m info q in
      ap (array_at p) s ∙ array_declared files arrays literals main right x.class x.file x.is_file

  -- ---- initialisers of objects

  -- no method of a file is refused
  methods_kept : (j : ℕ) (f : ClassFile) → slice_get files j ≡ Some f → flat_map (wrong_method f) f.methods ≡ []
  unfolding wrong_members
  methods_kept j f b = second_none (flat_map (wrong_field f) f.fields) (flat_map (wrong_method f) f.methods) (flat_none wrong_members files members.right j f b)

  -- no method of an interface that has something to run is called so
  no_init : (c i k : ℕ) (f : ClassFile) (x : MethodItem) → slice_get (boot_files ++ files) c ≡ Some f → slice_get f.methods i ≡ Some x → is_interface f.flags ≡ true → pointwise nat_eq (method_name f x) init_name ≡ true → (body_in k x (code_in f.pool x) ≡ body.Abstract → ⊥) → ⊥
  no_init c i k f x e q interface name runs =
      elim (place_of files arrays literals main right c f e) [
        | inl b ↦
            let t : list_all (λ m. is_none m.code && not (is_native m.flags)) f.methods ≡ true = bare (is_interface f.flags) interface (tested_at is_bare boot_files boot_bare c f b) in
            let (u, v) = and_parts (is_none x.code) (not (is_native x.flags)) (tested_at (λ m. is_none m.code && not (is_native m.flags)) f.methods t i x q) in
            runs (no_code k f.pool x (is_none_is x.code u) (not_true (is_native x.flags) v))
        | inr b ↦ in_file b.0 b.1
      ]
    where
      bare : (b : Bool) → b ≡ true → (not b || list_all (λ m. is_none m.code && not (is_native m.flags)) f.methods) ≡ true → list_all (λ m. is_none m.code && not (is_native m.flags)) f.methods ≡ true
      bare true r h = h
      bare false r h = absurd cc

      both_false : (a b : Bool) → (a && b) ≡ false → a ≡ true → b ≡ false
      both_false true b h r = h
      both_false false b h r = absurd cc

      clinit : is_name clinit_name (method_name f x) ≡ true → ⊥
      clinit r =
          let s : clinit_name ≡ method_name f x = same_name clinit_name (method_name f x) r in
          let z : pointwise nat_eq clinit_name init_name ≡ true = subst (λ (us : List ℕ). pointwise nat_eq us init_name ≡ true) (sym s) name in cc

      by_code : (o : Option CodeItem) → x.code ≡ o → is_native x.flags ≡ false → is_abstract x.flags ≡ true → ((c : CodeItem) → x.code ≡ Some c → code_count x.flags ≡ 1) → ⊥
      by_code None r n a one = runs (no_code k f.pool x r n)
      by_code (Some d) r n a one =
          let z : code_count x.flags ≡ 0 = rw (n, a) refl in
          let y : ◌≡◌ {A = ℕ} 0 1 = sym z ∙ one d r in absurd (omega arith)

      in_file : (j : ℕ) → slice_get files j ≡ Some f → ⊥
      in_file j b =
          let w : flat_map (wrong_method f) f.methods ≡ [] = methods_kept j f b in
          let t : is_wrong_method f x ≡ false = method_kept f x (flat_none (wrong_method f) f.methods w i x q) in
          let (n, r) = neither (is_native x.flags) (is_interface f.flags && (not (is_abstract x.flags) && not (is_name clinit_name (method_name f x)))) t in
          let s : (not (is_abstract x.flags) && not (is_name clinit_name (method_name f x))) ≡ false = both_false (is_interface f.flags) _ r interface in
          let one = all_at IsCounted f.methods (counted_file f (all_at IsClass files members.formed j f b)) i x q in
          by_abstract (is_abstract x.flags) refl s n one
        where
          by_abstract : (a : Bool) → is_abstract x.flags ≡ a → (not a && not (is_name clinit_name (method_name f x))) ≡ false → is_native x.flags ≡ false → ((c : CodeItem) → x.code ≡ Some c → code_count x.flags ≡ 1) → ⊥
          by_abstract true r s n one = by_code x.code refl n r one
          by_abstract false r s n one = clinit (not_false (is_name clinit_name (method_name f x)) s)

  inits : (m : ℕ) → is_static_method p m ≡ false → is_initialiser p m ≡ true → (body_of p m ≡ body.Abstract → ⊥) → plain p (owner_of p m) ≡ owner_of p m
  inits m st init runs = by_method (method_at p m) refl
    where
      by_method : (o : Option MethodInfo) → method_at p m ≡ o → plain p (owner_of p m) ≡ owner_of p m
      by_method None q = let z : pointwise nat_eq [] init_name ≡ true = subst (λ (o : Option MethodInfo). pointwise nat_eq (from [] (λ i. i.name) o) init_name ≡ true) q init in absurd cc
      by_method (Some info) q =
          let (x, s) = declares m info q in
          let named : pointwise nat_eq (method_name x.file x.item) init_name ≡ true = subst (λ (i : MethodInfo). pointwise nat_eq i.name init_name ≡ true) (sym x.is_info) (subst (λ (o : Option MethodInfo). pointwise nat_eq (from [] (λ i. i.name) o) init_name ≡ true) q init) in
          let same : body_of p m ≡ info.body = ap (λ (o : Option MethodInfo). from body.Abstract (λ i. i.body) o) q in
          by_kind x s named (λ h. runs (same ∙ sym (ap (λ (i : MethodInfo). i.body) x.is_info) ∙ h)) (is_interface x.file.flags) refl
        where
          by_kind : (x : IsMethodAt (boot_files ++ files) info) → owner_of p m ≡ x.class → pointwise nat_eq (method_name x.file x.item) init_name ≡ true → (body_in (before (boot_files ++ files) x.class x.place x.file) x.item (code_in x.file.pool x.item) ≡ body.Abstract → ⊥) → (b : Bool) → is_interface x.file.flags ≡ b → plain p (owner_of p m) ≡ owner_of p m
          by_kind x s named go true r = absurd (no_init x.class x.place (before (boot_files ++ files) x.class x.place x.file) x.file x.item x.is_file x.is_item r named go)
          by_kind x s named go false r = plain_class p (owner_of p m) (ap (is_an_interface p) s ∙ interface_declared files arrays literals main right x.class x.file x.is_file ∙ r)

  -- ---- initialisers of classes

  clinits : (c m : ℕ) → clinit_of p c ≡ Some m → IsAlone p m nothing_desc
  clinits c m e = by_class (class_at p c) refl
    where
      in_class : (f : ClassFile) → slice_get (boot_files ++ files) c ≡ Some f → clinit_number (first_method (boot_files ++ files) (0 + c)) f ≡ Some m → IsAlone p m nothing_desc
      in_class f g h =
          let (i, q, s) = map_some (λ i. first_method (boot_files ++ files) (0 + c) + i) (position (is_clinit_of f) f.methods) m h in
          let (x, r, t) = position_at (is_clinit_of f) f.methods i q in
          let (named, typed) = and_parts (is_name clinit_name (method_name f x)) (is_name (codes "()V") (method_desc f x)) t in
          let info : MethodInfo = method_info f (0 + c) (before (boot_files ++ files) c i f) x in
          let here : method_at p m ≡ Some info = ap (method_at p) (sym s) ∙ info_of c f i x g r in
          let z : 0 + c ≡ c = omega arith in
          let l : c < length p.classes = class_bound c f g in
          record {
            is_desc =
                ap (λ (o : Option MethodInfo). from None (λ i. Some i.desc) o) here
                ∙ ap (λ (us : List ℕ). Some (from no_method_desc (λ d. d) (method_of us))) (sym (same_name (codes "()V") (method_desc f x) typed))
                ∙ ap (λ (o : Option MethodDesc). Some (from no_method_desc (λ d. d) o)) plain_desc;
            fixed =
                ap (λ (o : Option MethodInfo). is_static (from 0 (λ i. i.flags) o) || is_clinit (from [] (λ i. i.name) o)) here
                ∙ or_right (is_static x.flags) (is_clinit (method_name f x)) (subst (λ (us : List ℕ). is_clinit us ≡ true) (same_name clinit_name (method_name f x) named) refl);
            bound = subst (λ (k : ℕ). k < length p.classes) (sym (owner_is m info here ∙ z)) l;
          }

      by_class : (o : Option ClassInfo) → class_at p c ≡ o → IsAlone p m nothing_desc
      by_class None q = let z : ◌≡◌ {A = Option ℕ} None (Some m) = sym (ap (λ (o : Option ClassInfo). from None (λ k. k.clinit) o) q) ∙ e in absurd cc
      by_class (Some info) q =
          elim (kind_of files arrays literals main right c info q) [
            | inl d ↦ in_class d.file d.is_file (sym (ap (λ (o : Option ClassInfo). from None (λ k. k.clinit) o) (declared files arrays literals main right c d.file d.is_file)) ∙ e)
            | inr a ↦
                let z : ◌≡◌ {A = Option ℕ} None (Some m) = sym (ap (λ (o : Option ClassInfo). from None (λ k. k.clinit) o) (ap (class_at p) a.number ∙ of_array files arrays literals main right a.place a.type a.is_type)) ∙ e in absurd cc
          ]

-- the methods of an image are right
pub methods_law : MethodsLaw
methods_law files arrays literals main right members = record {
  owners = owners files arrays literals main right members;
  coded_in = coded_in files arrays literals main right members;
  inits = inits files arrays literals main right members;
  clinits = clinits files arrays literals main right members;
}
