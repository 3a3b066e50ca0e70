-- The methods of all classes by number: each is one of a class, at its place.
use Rattle.std.proofs.Common.{◌≡◌, ◌∙◌, sym, ap, refl, ℕ, zero, suc, ◌+◌, ◌-◌, ◌<◌, List, [], ◌∷◌, ◌++◌, length, take, slice_get, Some, inl, inr, arith}
use Rattle.std.specs.Prelude.{option_map}
use Rattle.std.proofs.lemmas.List.Sums.{sum_by-cons}
use Rattle.std.proofs.lemmas.Option.{slice_get_within}
use Rattle.jvm_base.proofs.Options.{map_some}
use Rattle.class_format.specs.declared.class.ClassFile.{ClassFile}
use Rattle.class_format.specs.declared.class.MethodItem.{MethodItem}
use Rattle.flow_types.proofs.TreeLaws.{cases_lt}
use Rattle.link_rules.specs.Numbers.{numbered}
use Rattle.link_image.specs.Methods.{count_methods, first_method, natives, natives_before, method_info, class_methods, method_infos}
use Rattle.link_image.proofs.ListLaws.{length_map_from, get_map_from}
use Rattle.program_image.specs.declared.info.MethodInfo.{MethodInfo}
use Rattle.linked_classes.proofs.Above.{back_at}
use Rattle.linked_classes.proofs.BootAbove.{front_at}

module _ (g : ℕ → ClassFile → List MethodInfo) (long : (c : ℕ) (f : ClassFile) → length (g c f) ≡ length f.methods) where
  -- the method at a place of a class
  at_numbered : (k : ℕ) (fs : List ClassFile) (c : ℕ) (f : ClassFile) → slice_get fs c ≡ Some f → (i : ℕ) → i < length f.methods → slice_get (numbered g k fs) (count_methods (take c fs) + i) ≡ slice_get (g (k + c) f) i
  at_numbered k [] c f e i l = absurd cc
  at_numbered k (x ∷ xs) zero f e i l =
      let s : x ≡ f = cc in
      let n : length (g k x) ≡ length f.methods = long k x ∙ ap (λ (y : ClassFile). length y.methods) s in
      let z : k + 0 ≡ k = omega arith in
      let w : count_methods [] + i ≡ i = omega arith in
      ap (slice_get (g k x ++ numbered g (k + 1) xs)) w ∙ front_at (g k x) (numbered g (k + 1) xs) i (omega arith) ∙ ap (λ (y : ClassFile). slice_get (g k y) i) s ∙ sym (ap (λ (m : ℕ). slice_get (g m f) i) z)
  at_numbered k (x ∷ xs) (suc c) f e i l =
      let n : length (g k x) ≡ length x.methods = long k x in
      let s : count_methods (x ∷ take c xs) ≡ length x.methods + count_methods (take c xs) = sum_by-cons (λ (y : ClassFile). length y.methods) x (take c xs) in
      let w : count_methods (x ∷ take c xs) + i ≡ length (g k x) + (count_methods (take c xs) + i) = omega arith in
      let z : k + 1 + c ≡ k + suc c = omega arith in
      ap (slice_get (g k x ++ numbered g (k + 1) xs)) w ∙ back_at (g k x) (numbered g (k + 1) xs) (count_methods (take c xs) + i) ∙ at_numbered (k + 1) xs c f e i l ∙ ap (λ (m : ℕ). slice_get (g m f) i) z

  -- each method is at one
  split_numbered : (k : ℕ) (fs : List ClassFile) (m : ℕ) (info : MethodInfo) → slice_get (numbered g k fs) m ≡ Some info → (c : ℕ) × (f : ClassFile) × (i : ℕ) × (slice_get fs c ≡ Some f) × (slice_get (g (k + c) f) i ≡ Some info)
  split_numbered k [] m info e = absurd cc
  split_numbered k (x ∷ xs) m info e =
      elim (cases_lt m (length (g k x))) [
        | inl l ↦
            let z : k + 0 ≡ k = omega arith in
            (0, x, m, refl, ap (λ (n : ℕ). slice_get (g n x) m) z ∙ sym (front_at (g k x) (numbered g (k + 1) xs) m l) ∙ e)
        | inr h ↦
            let w : length (g k x) + (m - length (g k x)) ≡ m = omega arith in
            let (c, f, i, a, b) = split_numbered (k + 1) xs (m - length (g k x)) info (sym (back_at (g k x) (numbered g (k + 1) xs) (m - length (g k x))) ∙ ap (slice_get (g k x ++ numbered g (k + 1) xs)) w ∙ e) in
            let z : k + suc c ≡ k + 1 + c = omega arith in
            (suc c, f, i, a, ap (λ (n : ℕ). slice_get (g n f) i) z ∙ b)
      ]

module _ (all : List ClassFile) where
  own_methods : ℕ → ClassFile → List MethodInfo
  own_methods c f = class_methods (natives_before all c) c f

  own_long : (c : ℕ) (f : ClassFile) → length (own_methods c f) ≡ length f.methods
  unfolding own_methods
  own_long c f = length_map_from (λ i m. method_info f c (natives_before all c + natives (take i f.methods)) m) 0 f.methods

  -- how many native methods stand before one
  abbrev pub before : ℕ → ℕ → ClassFile → ℕ
  before c i f = natives_before all (0 + c) + natives (take (0 + i) f.methods)

  -- the method at a place of a class has a number
  pub method_there : (c : ℕ) (f : ClassFile) (i : ℕ) (x : MethodItem) → slice_get all c ≡ Some f → slice_get f.methods i ≡ Some x → slice_get (method_infos all) (first_method all c + i) ≡ Some (method_info f (0 + c) (before c i f) x)
  unfolding method_infos first_method own_methods
  method_there c f i x e q =
      at_numbered own_methods own_long 0 all c f e i (slice_get_within f.methods i x q)
      ∙ get_map_from (λ i m. method_info f (0 + c) (natives_before all (0 + c) + natives (take i f.methods)) m) 0 f.methods i
      ∙ ap (option_map (λ (m : MethodItem). method_info f (0 + c) (before c i f) m)) q

  -- where a method is declared
  pub record IsMethodAt (info : MethodInfo) : Type 0 where
    pub class : ℕ
    pub place : ℕ
    pub file : ClassFile
    pub item : MethodItem
    pub is_file : slice_get all class ≡ Some file
    pub is_item : slice_get file.methods place ≡ Some item
    pub is_info : method_info file (0 + class) (before class place file) item ≡ info

  -- each method is declared by a class
  pub method_at : (m : ℕ) (info : MethodInfo) → slice_get (method_infos all) m ≡ Some info → IsMethodAt info
  unfolding method_infos own_methods
  method_at m info e =
      let (c, f, i, a, b) = split_numbered own_methods own_long 0 all m info e in
      let q : option_map (λ (m : MethodItem). method_info f (0 + c) (before c i f) m) (slice_get f.methods i) ≡ Some info = sym (get_map_from (λ i m. method_info f (0 + c) (natives_before all (0 + c) + natives (take i f.methods)) m) 0 f.methods i) ∙ b in
      let (x, r, s) = map_some (λ (m : MethodItem). method_info f (0 + c) (before c i f) m) (slice_get f.methods i) info q in
      record { class = c; place = i; file = f; item = x; is_file = a; is_item = r; is_info = s }
