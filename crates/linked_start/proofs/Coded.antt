-- The methods that no instruction calls have code.
use Rattle.std.proofs.Common.{◌≡◌, ◌∙◌, sym, ap, subst, refl, ℕ, zero, suc, ◌+◌, Bool, true, false, not, List, [], ◌∷◌, ◌++◌, map, slice_get, position, Option, Some, None, Result, Ok, Err, inl, inr, arith}
use Rattle.std.specs.Prelude.{◌&&◌, ◌||◌, codes, is_none, is_some, option_and_then, if◌then◌else◌}
use Rattle.std.specs.List.{AllByRecursion, list_all}
use Rattle.std.specs.Option.{option_map_or}
use Rattle.jvm_base.specs.Words.{from}
use Rattle.jvm_base.specs.declared.code_item.CodeItem.{CodeItem}
use Rattle.jvm_base.specs.declared.desc.Desc.{Desc}
use Rattle.jvm_base.specs.declared.pool.PoolItem.{PoolItem}
use Rattle.jvm_base.proofs.Options.{and_parts, if_some, map_some}
use Rattle.boot_table.specs.Files.{boot_files}
use Rattle.boot_table.specs.Table.{boot_rows, first_rows, exceptions}
use Rattle.constant_pool.specs.Items.{text_at, is_text_that}
use Rattle.class_format.specs.Flags.{is_native, is_abstract, is_static, is_private, is_final, is_synchronized, has_two_accesses, method_flags_clash}
use Rattle.class_format.specs.KnownTexts.{is_clinit}
use Rattle.class_format.specs.Meaning.{IsClass, IsMethod, HasCode, Spelled, contents_of, holds_code, plain_method}
use Rattle.class_format.specs.Members.{is_without_receiver, code_count}
use Rattle.class_format.specs.Spelling.{Member}
use Rattle.class_format.specs.declared.class.ClassFile.{ClassFile}
use Rattle.class_format.specs.declared.class.MethodItem.{MethodItem}
use Rattle.class_names.specs.Classes.{code_of as code_in, ok_of}
use Rattle.class_names.specs.Known.{is_name}
use Rattle.class_names.specs.Texts.{text_in, clinit_name}
use Rattle.code_table.specs.Decoded.{decoded}
use Rattle.code_table.specs.declared.code.Code.{Code}
use Rattle.code_table.specs.declared.error.CodeErr.{CodeErr}
use Rattle.hierarchy.specs.Walks.{first_some, or_else}
use Rattle.hierarchy.proofs.Tests.{or_split, or_left, or_right}
use Rattle.link_members.proofs.LoopLaws.{parts_none}
use Rattle.link_rules.specs.Decoding.{refused_code, undecoded, undecoded_file}
use Rattle.link_rules.specs.Members.{method_name, method_desc}
use Rattle.link_rules.specs.Numbers.{numbered}
use Rattle.link_rules.specs.declared.error.LinkErr.{LinkErr}
use Rattle.link_uses.specs.declared.lookup.Found.{Found as FoundAt}
use Rattle.link_image.specs.Classes.{class_infos}
use Rattle.link_image.specs.Image.{image_of}
use Rattle.link_image.specs.Methods.{first_method, natives_before, method_info, method_infos, clinit_number, body_of as body_in, is_initialiser as is_clinit_of}
use Rattle.program_image.specs.Handlers.{code_of, body_code}
use Rattle.program_image.specs.Program.{Program}
use Rattle.program_image.specs.Selection.{is_accessible, is_instance, is_like, like_one, methods_of, declared_by, open_in, supers, found_up, is_abstract_body, chosen, select_of}
use Rattle.program_image.specs.Signatures.{same_text, same_method_desc, same_signature}
use Rattle.program_image.specs.declared.info.Body.{Body}
use Rattle.program_image.specs.declared.info.Body.TheVariants as body
use Rattle.program_image.specs.declared.info.ClassInfo.{ClassInfo}
use Rattle.program_image.specs.declared.info.MethodInfo.{MethodInfo}
use Rattle.program_image.specs.declared.select.Selected.TheVariants.{Found, NoBody}
use Rattle.instruction_table.specs.ClassTypes.{class_at, method_at, name_of}
use Rattle.machine_state.specs.Classes.{clinit_of, thread_run}
use Rattle.linked_classes.specs.Linking.{AreRight}
use Rattle.linked_classes.proofs.Above.{all_at, same_name, declared, of_array, kind_of, place_of}
use Rattle.linked_classes.proofs.BootAbove.{tested_at}
use Rattle.linked_classes.proofs.Positions.{position_at}
use Rattle.linked_methods.specs.Linking.{AreRightMembers}
use Rattle.linked_methods.proofs.Numbered.{before, method_there}
use Rattle.linked_start.specs.Coding.{CodeLaw}
use Rattle.linked_start.specs.Linking.{IsMain}
use Rattle.linked_start.proofs.Mains.{IsMainAt, main_in_files, info, info_there, is_fixed}
use Rattle.linked_start.proofs.Natives.{IsNativeAt, native_at_number, no_native}

-- ---- class files

-- a method that has no receiver, and isn't native, has code
abbrev HasOwnCode : List PoolItem → MethodItem → Type 0
HasOwnCode pool x =
    is_native x.flags ≡ false → is_without_receiver pool x.flags x.name ≡ true → is_some x.code ≡ true

-- what has no receiver is not abstract
bound_flags : (flags : ℕ) → method_flags_clash true flags ≡ false → is_abstract flags ≡ false
bound_flags flags h = by_flag (is_abstract flags) (is_private flags) h
  where
    by_flag : (a b : Bool) → ((a && ((((b || true) || is_final flags) || is_synchronized flags) || is_native flags)) || has_two_accesses flags) ≡ false → a ≡ false
    by_flag false b h = refl
    by_flag true true h = absurd cc
    by_flag true false h = absurd cc

-- what is neither native nor abstract has code
has_code : (pool : List PoolItem) (flags : ℕ) (o : Option CodeItem) (contents : List (List ℕ)) → HasCode pool flags o contents → is_native flags ≡ false → is_abstract flags ≡ false → is_some o ≡ true
has_code pool flags (Some c) contents h n a = refl
has_code pool flags None contents h n a =
    let z : code_count flags ≡ 1 = rw (n, a) refl in
    let y : ◌≡◌ {A = ℕ} 1 0 = sym z ∙ h.0 in absurd (omega arith)

-- so each method of a class file, by what spells it
spelled_code : (pool : List PoolItem) (earlier : List MethodItem) (sources : List Member) (xs : List MethodItem) → Spelled (IsMethod pool) earlier sources xs → AllByRecursion (HasOwnCode pool) xs
spelled_code pool earlier [] [] h = tt
spelled_code pool earlier [] (x ∷ xs) h = absurd h
spelled_code pool earlier (a ∷ sources) [] h = absurd h
spelled_code pool earlier (a ∷ sources) (x ∷ xs) h = (
  λ n w.
      let f : x.flags ≡ a.flags = h.0.flags in
      let m : x.name ≡ a.name = h.0.name in
      let r : is_without_receiver pool a.flags a.name ≡ true = sym (ap (λ (k : ℕ). is_without_receiver pool k a.name) f) ∙ sym (ap (λ (k : ℕ). is_without_receiver pool x.flags k) m) ∙ w in
      let b : is_abstract a.flags ≡ false = bound_flags a.flags (subst (λ (b : Bool). method_flags_clash b a.flags ≡ false) r h.0.member.head.plain) in
      has_code pool a.flags x.code (contents_of (holds_code pool) a.attributes) h.0.code (sym (ap is_native f) ∙ n) b,
  spelled_code pool (earlier ++ x ∷ []) sources xs h.1,
)

-- the same of a class file
code_file : (f : ClassFile) → IsClass f → AllByRecursion (HasOwnCode f.pool) f.methods
code_file f h = spelled_code f.pool [] (map (plain_method f.pool) f.methods) f.methods h.methods

-- a name of the pool
text_there : (pool : List PoolItem) (i : ℕ) → is_clinit (text_in pool i) ≡ true → is_text_that is_clinit pool i ≡ true
text_there pool i h = by_text (text_at pool i) h
  where
    by_text : (o : Option (List ℕ)) → is_clinit (from [] (λ us. us) o) ≡ true → option_map_or is_clinit o false ≡ true
    by_text None h = absurd cc
    by_text (Some us) h = h

-- ---- decoding

-- nothing in the whole is nothing at each place
numbered_none : {A : Type 0} (g : ℕ → A → List LinkErr) (n : ℕ) (xs : List A) → numbered g n xs ≡ [] → (i : ℕ) (x : A) → slice_get xs i ≡ Some x → g (n + i) x ≡ []
numbered_none g n [] h i x e = absurd cc
numbered_none g n (y ∷ ys) h zero x e =
    let s : y ≡ x = cc in
    let z : n ≡ n + 0 = omega arith in
    subst (λ (m : ℕ). g m x ≡ []) z (subst (λ a. g n a ≡ []) s (parts_none (g n y) (numbered g (n + 1) ys) h).0)
numbered_none g n (y ∷ ys) h (suc i) x e =
    let z : n + 1 + i ≡ n + suc i = omega arith in
    subst (λ (m : ℕ). g m x ≡ []) z (numbered_none g (n + 1) ys (parts_none (g n y) (numbered g (n + 1) ys) h).1 i x e)

-- code that isn't refused is decoded
code_decoded : (class method : ℕ) (pool : List PoolItem) (o : Option CodeItem) → undecoded class method pool o ≡ [] → is_some o ≡ true → is_some (option_and_then (λ c. ok_of (decoded c pool)) o) ≡ true
code_decoded class method pool None h e = absurd cc
code_decoded class method pool (Some c) h e = by_result (decoded c pool) h
  where
    by_result : (r : Result Code CodeErr) → refused_code class method r ≡ [] → is_some (ok_of r) ≡ true
    by_result (Ok code) h = refl
    by_result (Err why) h = absurd cc

-- ---- boot classes

-- none has an initialiser
boot_quiet : list_all (λ f. is_none (position (is_clinit_of f) f.methods)) boot_files ≡ true
unfolding boot_files boot_rows first_rows exceptions
boot_quiet = refl

-- the method that a thread begins with
run_name : List ℕ
run_name = codes "run"

-- none has a native `run`
boot_runs : list_all (λ f. list_all (λ m. not (is_native m.flags && same_text (method_name f m) run_name)) f.methods) boot_files ≡ true
unfolding run_name boot_files boot_rows first_rows exceptions
boot_runs = refl

-- ---- look-ups

-- what is found first is found somewhere
first_is : (f : ℕ → Option ℕ) (xs : List ℕ) (m : ℕ) → first_some f xs ≡ Some m → (x : ℕ) × (f x ≡ Some m)
first_is f [] m e = absurd cc
first_is f (x ∷ xs) m e = by_first (f x) refl e (first_is f xs m)
  where
    by_first : (o : Option ℕ) → f x ≡ o → or_else o (first_some f xs) ≡ Some m → (first_some f xs ≡ Some m → (y : ℕ) × (f y ≡ Some m)) → (y : ℕ) × (f y ≡ Some m)
    by_first None q e again = again e
    by_first (Some k) q e again = (x, q ∙ e)

-- what is found is like what is called
up_like : (classes : List ClassInfo) (methods : List MethodInfo) (called c m : ℕ) → found_up classes methods called c ≡ Some m → is_like methods called m ≡ true
up_like classes methods called c m e =
    let (k, q) = first_is (open_in classes methods called) (supers classes c) m e in
    let (a, r) = if_some (from false (λ x. is_accessible classes x k) (slice_get methods called)) (declared_by classes methods called k) m q in
    let (j, s) = first_is (like_one methods called) (methods_of classes k) m r in
    let (t, u) = if_some (is_like methods called j) (Some j) m s in
    let v : j ≡ m = cc in subst (λ (n : ℕ). is_like methods called n ≡ true) v t

-- a method that is selected isn't abstract
record IsSelected (methods : List MethodInfo) (called m : ℕ) : Type 0 where
  info : MethodInfo
  is_info : slice_get methods m ≡ Some info
  runs : is_abstract_body info.body ≡ false
  like : is_like methods called m ≡ true

-- what is chosen is what was found, and is not abstract
chosen_is : (methods : List MethodInfo) (k m : ℕ) (o : Option MethodInfo) → chosen false k o ≡ Found m → (k ≡ m) × ((x : MethodInfo) × (o ≡ Some x) × (is_abstract_body x.body ≡ false))
chosen_is methods k m None e = absurd cc
chosen_is methods k m (Some x) e = by_body (is_abstract_body x.body) refl e
  where
    by_body : (b : Bool) → is_abstract_body x.body ≡ b → (if b then NoBody else Found k) ≡ Found m → (k ≡ m) × ((y : MethodInfo) × (Some x ≡ Some y) × (is_abstract_body y.body ≡ false))
    by_body true q e = absurd cc
    by_body false q e = let s : k ≡ m = cc in (s, (x, refl, q))

-- what is selected is like what is called
selected_is : (classes : List ClassInfo) (methods : List MethodInfo) (c called m : ℕ) → select_of classes methods c called false ≡ Found m → IsSelected methods called m
selected_is classes methods c called m e = by_found (found_up classes methods called c) refl e
  where
    by_found : (o : Option ℕ) → found_up classes methods called c ≡ o → from NoBody (λ k. chosen false k (slice_get methods k)) o ≡ Found m → IsSelected methods called m
    by_found None q h = absurd cc
    by_found (Some k) q h =
        let (s, (x, r, t)) = chosen_is methods k m (slice_get methods k) h in
        record {
          info = x;
          is_info = ap (slice_get methods) (sym s) ∙ r;
          runs = t;
          like = up_like classes methods called c m (q ∙ ap Some s);
        }

-- methods that are alike have one name
like_named : (methods : List MethodInfo) (called m : ℕ) (x : MethodInfo) → slice_get methods m ≡ Some x → is_like methods called m ≡ true → same_text x.name (from [] (λ i. i.name) (slice_get methods called)) ≡ true
like_named methods called m x e h = by_called (slice_get methods called) h
  where
    by_called : (o : Option MethodInfo) → from false (λ c. from false (λ y. is_instance y && same_signature y c) (slice_get methods m)) o ≡ true → same_text x.name (from [] (λ i. i.name) o) ≡ true
    by_called None h = absurd cc
    by_called (Some c) h =
        let w : (is_instance x && same_signature x c) ≡ true = subst (λ (o : Option MethodInfo). from false (λ y. is_instance y && same_signature y c) o ≡ true) e h in
        let (a, b) = and_parts (is_instance x) (same_signature x c) w in
        (and_parts (same_text x.name c.name) (same_method_desc x.desc c.desc) b).0

-- ---- an image

-- a method whose body is code has code
body_coded : (p : Program) (m : ℕ) (i : MethodInfo) → method_at p m ≡ Some i → is_some (body_code i.body) ≡ true → is_some (code_of p m) ≡ true
body_coded p m i e h = ap (λ (o : Option MethodInfo). is_some (option_and_then (λ i. body_code i.body) o)) e ∙ h

-- code that is there is the body
decoded_body : (k : ℕ) (x : MethodItem) (o : Option Code) → is_some o ≡ true → is_some (body_code (body_in k x o)) ≡ true
decoded_body k x None h = absurd cc
decoded_body k x (Some c) h = refl

module _ (files : List ClassFile) (arrays : List Desc) (literals : List (List ℕ)) (main : FoundAt) where
  abbrev p : Program
  p = image_of (boot_files ++ files) arrays literals main

  -- the name of what a thread begins with
  called_name : name_of p (thread_run p) ≡ run_name
  unfolding run_name image_of class_infos method_infos first_method natives_before boot_files boot_rows first_rows exceptions
  called_name = refl

  module _ (right : AreRight files arrays literals main) (members : AreRightMembers files) where
    -- what is selected for it is no intrinsic
    runs : (c m : ℕ) → select_of p.classes p.methods c (thread_run p) false ≡ Found m → is_some (code_of p m) ≡ true
    runs c m e = by_body (selected_is p.classes p.methods c (thread_run p) m e)
      where
        native_run : (k : ℕ) (x : IsSelected p.methods (thread_run p) m) → x.info.body ≡ body.Intrinsic k → ⊥
        native_run k x b =
            let y : IsNativeAt files arrays literals main right members m k = native_at_number files arrays literals main right members m k (ap (λ (o : Option MethodInfo). from body.Abstract (λ i. i.body) o) x.is_info ∙ b) in
            let named : same_text x.info.name run_name ≡ true = sym (ap (same_text x.info.name) called_name) ∙ like_named p.methods (thread_run p) m x.info x.is_info x.like in
            let s : ◌≡◌ {A = Option MethodInfo} (Some x.info) (Some y.info) = sym x.is_info ∙ y.is_info in
            let t : x.info ≡ y.info = cc in
            let here : same_text (method_name y.at.file y.at.item) run_name ≡ true =
            ap (λ (i : MethodInfo). same_text i.name run_name) (y.at.is_info ∙ sym t) ∙ named in
            let u : not (is_native y.at.item.flags && same_text (method_name y.at.file y.at.item) run_name) ≡ true =
            tested_at (λ m. not (is_native m.flags && same_text (method_name y.at.file m) run_name)) y.at.file.methods
            (tested_at (λ f. list_all (λ m. not (is_native m.flags && same_text (method_name f m) run_name)) f.methods) boot_files boot_runs y.at.class y.at.file y.boot) y.at.place y.at.item y.at.is_item in
            let v : not (true && true) ≡ true = subst (λ (b : Bool). not (b && true) ≡ true) y.native (subst (λ (b : Bool). not (is_native y.at.item.flags && b) ≡ true) here u) in
            absurd cc

        by_body : IsSelected p.methods (thread_run p) m → is_some (code_of p m) ≡ true
        by_body x = by_kind x.info.body refl x.runs
          where
            by_kind : (b : Body) → x.info.body ≡ b → is_abstract_body b ≡ false → is_some (code_of p m) ≡ true
            by_kind (body.Code c) q r = body_coded p m x.info x.is_info (ap (λ (b : Body). is_some (body_code b)) q)
            by_kind (body.Intrinsic k) q r = absurd (native_run k x q)
            by_kind body.Abstract q r = absurd cc

    module _ (decoding : numbered undecoded_file 0 files ≡ []) where
      -- a method of a file that has no receiver has code
      file_code : (j i : ℕ) (f : ClassFile) (x : MethodItem) → slice_get files j ≡ Some f → slice_get f.methods i ≡ Some x → (is_static x.flags || is_clinit (method_name f x)) ≡ true → is_some (code_in f.pool x) ≡ true
      file_code j i f x e q h =
          let w : is_without_receiver f.pool x.flags x.name ≡ true =
          elim (or_split (is_static x.flags) (is_clinit (method_name f x)) h) [
            | inl s ↦ rw s refl
            | inr s ↦ or_right (is_static x.flags) (is_text_that is_clinit f.pool x.name) (text_there f.pool x.name s)
          ]
          in
          let c : is_some x.code ≡ true = all_at (HasOwnCode f.pool) f.methods (code_file f (all_at IsClass files members.formed j f e)) i x q (no_native files arrays literals main right members j i f x e q) w in
          let u : undecoded (0 + j) (0 + i) f.pool x.code ≡ [] = numbered_none (λ k m. undecoded (0 + j) k f.pool m.code) 0 f.methods (numbered_none undecoded_file 0 files decoding j f e) i x q in
          code_decoded (0 + j) (0 + i) f.pool x.code u c

      -- a declared method has the code that its file has
      declared_code : (c m i : ℕ) (f : ClassFile) (x : MethodItem) → slice_get (boot_files ++ files) c ≡ Some f → slice_get f.methods i ≡ Some x → m ≡ first_method (boot_files ++ files) c + i → is_some (code_in f.pool x) ≡ true → is_some (code_of p m) ≡ true
      unfolding image_of
      declared_code c m i f x g r n k =
          let here : method_at p m ≡ Some (method_info f (0 + c) (before (boot_files ++ files) c i f) x) = ap (method_at p) n ∙ method_there (boot_files ++ files) c f i x g r in
          body_coded p m (method_info f (0 + c) (before (boot_files ++ files) c i f) x) here (decoded_body (before (boot_files ++ files) c i f) x (code_in f.pool x) k)

      -- initialisers of classes, and main
      clinits : (c m : ℕ) → clinit_of p c ≡ Some m → is_some (code_of p m) ≡ true
      clinits c m e = by_class (class_at p c) refl
        where
          in_class : (f : ClassFile) → slice_get (boot_files ++ files) c ≡ Some f → clinit_number (first_method (boot_files ++ files) (0 + c)) f ≡ Some m → is_some (code_of p m) ≡ true
          in_class f g h =
              let (i, q, s) = map_some (λ i. first_method (boot_files ++ files) (0 + c) + i) (position (is_clinit_of f) f.methods) m h in
              let (x, r, t) = position_at (is_clinit_of f) f.methods i q in
              let (named, typed) = and_parts (is_name clinit_name (method_name f x)) (is_name (codes "()V") (method_desc f x)) t in
              let w : is_clinit (method_name f x) ≡ true = subst (λ (us : List ℕ). is_clinit us ≡ true) (same_name clinit_name (method_name f x) named) refl in
              let z : 0 + c ≡ c = omega arith in
              let n : m ≡ first_method (boot_files ++ files) c + i = sym s ∙ ap (λ (k : ℕ). first_method (boot_files ++ files) k + i) z in
              elim (place_of files arrays literals main right c f g) [
                | inl b ↦
                    let u : is_none (position (is_clinit_of f) f.methods) ≡ true = tested_at (λ f. is_none (position (is_clinit_of f) f.methods)) boot_files boot_quiet c f b in
                    let v : is_none (Some i) ≡ true = subst (λ (o : Option ℕ). is_none o ≡ true) q u in absurd cc
                | inr b ↦ declared_code c m i f x g r n (file_code b.0 i f x b.1 r (or_right (is_static x.flags) (is_clinit (method_name f x)) w))
              ]

          by_class : (o : Option ClassInfo) → class_at p c ≡ o → is_some (code_of p m) ≡ true
          by_class None q = let z : ◌≡◌ {A = Option ℕ} None (Some m) = sym (ap (λ (o : Option ClassInfo). from None (λ k. k.clinit) o) q) ∙ e in absurd cc
          by_class (Some info) q =
              elim (kind_of files arrays literals main right c info q) [
                | inl d ↦ in_class d.file d.is_file (sym (ap (λ (o : Option ClassInfo). from None (λ k. k.clinit) o) (declared files arrays literals main right c d.file d.is_file)) ∙ e)
                | inr a ↦
                    let z : ◌≡◌ {A = Option ℕ} None (Some m) = sym (ap (λ (o : Option ClassInfo). from None (λ k. k.clinit) o) (ap (class_at p) a.number ∙ of_array files arrays literals main right a.place a.type a.is_type)) ∙ e in absurd cc
              ]

      main_code : IsMain files main → is_some (code_of p p.main) ≡ true
      unfolding info
      main_code is =
          let at : IsMainAt 34 files main = main_in_files files main is in
          let k : ℕ = before (boot_files ++ files) main.class main.place at.file in
          let c : is_some (code_in at.file.pool at.item) ≡ true = file_code at.number main.place at.file at.item at.is_file at.is_item (or_left (is_static at.item.flags) (is_clinit (method_name at.file at.item)) (is_fixed files main is)) in
          body_coded p p.main (method_info at.file (0 + main.class) k at.item) (info_there files main is arrays literals) (decoded_body k at.item (code_in at.file.pool at.item) c)

-- so those of an image do
pub code_law : CodeLaw
code_law files arrays literals main right members is decoding = record {
  clinits = clinits files arrays literals main right members decoding;
  main = main_code files arrays literals main right members decoding is;
  runs = runs files arrays literals main right members;
}
