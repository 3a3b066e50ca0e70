-- What tells descriptors and signatures apart.
use Rattle.std.proofs.Common.{◌≡◌, ℕ, ◌+◌, ◌<◌, Bool, true, false, ◌==◌, List, [], ◌∷◌, ◌++◌, length, position, slice_get, Option, Some, None, inl, inr, length-append, refl, sym, ap, subst, ◌∙◌, arith, nat_eq}
use Rattle.std.specs.Prelude.{◌&&◌}
use Rattle.std.specs.Bool.{Decides, one_answer}
use Rattle.std.specs.Option.{option_eq}
use Rattle.std.specs.Cmp.Lexicographic.{pointwise}
use Rattle.std.proofs.lemmas.Bool.Decides.{nat_tests}
use Rattle.std.proofs.lemmas.Slice.Eq.{slice_eq-Decides}
use Rattle.jvm_base.specs.declared.desc.Elem.{Elem}
use Rattle.jvm_base.specs.declared.desc.Elem.TheVariants.{Byte, Char, Double, Float, Int, Long, Short, Boolean, Object}
use Rattle.jvm_base.specs.declared.desc.Desc.{Desc}
use Rattle.jvm_base.specs.declared.desc.MethodDesc.{MethodDesc}
use Rattle.jvm_base.specs.contracts.desc.MethodDescPartialEq.TheImpl as method_desc
use Rattle.jvm_base.specs.contracts.desc.DescPartialEq.TheImpl as desc
use Rattle.jvm_base.specs.contracts.desc.ElemPartialEq.TheImpl as elem
use Rattle.std.specs.Cmp.{IsEquivalence}
use Rattle.std.proofs.Math.ListN.{get_or-append}
use Rattle.std.proofs.Math.Seq.{get_or-append_seam}
use Rattle.std.proofs.lemmas.Bool.{cases_lt}
use Rattle.std.proofs.lemmas.Option.{slice_get_within}
use Rattle.numbering.specs.Seen.{with_item}
use Rattle.numbering.proofs.Laws.{number_kept, number_tells}
use Rattle.program_image.specs.declared.info.MethodInfo.{MethodInfo}
use Rattle.program_image.specs.Built.Signs.{Sign, sign_at, AreSigns}
use Rattle.program_image.proofs.Rows.{some_is}
use Rattle.program_image.specs.Signatures.{same_text, elem_kind, elem_name, same_elem, same_desc, same_method_desc, same_signature}

-- both of two tests pass
pub both_true : (a b : Bool) → (a && b) ≡ true → (a ≡ true) × (b ≡ true)
both_true true b e = (refl, e)
both_true false b e = absurd cc

true_both : (a b : Bool) → a ≡ true → b ≡ true → (a && b) ≡ true
true_both a b e f = rw e f

-- a test of numbers
numbers_decide : (a b : ℕ) → Decides (a == b) (a ≡ b)
numbers_decide a b = (λ e. grind (arith, nat_tests), λ e. grind (arith, nat_tests))

-- a test of texts
pub texts_decide : (a b : List ℕ) → Decides (same_text a b) (a ≡ b)
texts_decide a b = slice_eq-Decides numbers_decide a b (same_text a b) refl

-- the derived test of element types
elem_from : (a b : Elem) → elem.eq-value.it a b ≡ true → a ≡ b
elem_from Byte Byte e = refl
elem_from Char Char e = refl
elem_from Double Double e = refl
elem_from Float Float e = refl
elem_from Int Int e = refl
elem_from Long Long e = refl
elem_from Short Short e = refl
elem_from Boolean Boolean e = refl
elem_from (Object x) (Object y) e = ap Object ((texts_decide x y).0 e)
elem_from a b e = absurd cc

elem_itself : (a : Elem) → elem.eq-value.it a a ≡ true
elem_itself Byte = refl
elem_itself Char = refl
elem_itself Double = refl
elem_itself Float = refl
elem_itself Int = refl
elem_itself Long = refl
elem_itself Short = refl
elem_itself Boolean = refl
elem_itself (Object x) = (texts_decide x x).1 refl

-- the test of element types by kind and name
kind_from : (a b : Elem) → same_elem a b ≡ true → a ≡ b
kind_from Byte Byte e = refl
kind_from Char Char e = refl
kind_from Double Double e = refl
kind_from Float Float e = refl
kind_from Int Int e = refl
kind_from Long Long e = refl
kind_from Short Short e = refl
kind_from Boolean Boolean e = refl
kind_from (Object x) (Object y) e = ap Object ((texts_decide x y).0 e)
kind_from a b e = absurd cc

kind_itself : (a : Elem) → same_elem a a ≡ true
kind_itself a = true_both _ _ ((numbers_decide (elem_kind a) (elem_kind a)).1 refl) ((texts_decide (elem_name a) (elem_name a)).1 refl)

-- a test that passes for what is one, and for nothing else, decides it
decides_by : {A : Type 0} (E : A → A → Bool) → ((a b : A) → E a b ≡ true → a ≡ b) → ((a : A) → E a a ≡ true) → (a b : A) → Decides (E a b) (a ≡ b)
decides_by E from itself a b = (from a b, λ e. subst (λ z. E a z ≡ true) e (itself a))

-- such a test of what options hold is one of the options
options_decide : {A : Type 0} (E : A → A → Bool) → ((a b : A) → Decides (E a b) (a ≡ b)) → (o p : Option A) → Decides (option_eq E o p) (o ≡ p)
options_decide E d None None = (λ e. refl, λ e. refl)
options_decide E d None (Some b) = (λ e. absurd cc, λ e. absurd cc)
options_decide E d (Some a) None = (λ e. absurd cc, λ e. absurd cc)
options_decide E d (Some a) (Some b) = (λ e. ap Some ((d a b).0 e), λ e. (d a b).1 (let h : a ≡ b = cc in h))

the_desc : ℕ → Elem → Desc
the_desc dims elem = record { dims = dims; elem = elem }

the_method : List Desc → Option Desc → MethodDesc
the_method args ret = record { args = args; ret = ret }

desc_is : (x y : ℕ) (u v : Elem) → x ≡ y → u ≡ v → the_desc x u ≡ the_desc y v
desc_is x y u v p q = ap (λ z. the_desc z u) p ∙ ap (the_desc y) q

method_is : (x y : List Desc) (u v : Option Desc) → x ≡ y → u ≡ v → the_method x u ≡ the_method y v
method_is x y u v p q = ap (λ z. the_method z u) p ∙ ap (the_method y) q

-- a test of element types makes one of types
descs_decide : (E : Elem → Elem → Bool) → ((a b : Elem) → Decides (E a b) (a ≡ b)) → (a b : Desc) → Decides (a.dims == b.dims && E a.elem b.elem) (a ≡ b)
unfolding the_desc
descs_decide E d a b = (
  λ e. (let h = both_true (a.dims == b.dims) (E a.elem b.elem) e in desc_is a.dims b.dims a.elem b.elem ((numbers_decide a.dims b.dims).0 h.0) ((d a.elem b.elem).0 h.1)),
  λ e. true_both (a.dims == b.dims) (E a.elem b.elem) ((numbers_decide a.dims b.dims).1 (ap (λ z. z.dims) e)) ((d a.elem b.elem).1 (ap (λ z. z.elem) e)),
)

-- and one of types makes one of methods' descriptors
methods_decide : (E : Desc → Desc → Bool) → ((a b : Desc) → Decides (E a b) (a ≡ b)) → (a b : MethodDesc) → Decides (pointwise E a.args b.args && option_eq E a.ret b.ret) (a ≡ b)
unfolding the_method
methods_decide E d a b = (
  λ e. (let h = both_true (pointwise E a.args b.args) (option_eq E a.ret b.ret) e in method_is a.args b.args a.ret b.ret ((slice_eq-Decides d a.args b.args (pointwise E a.args b.args) refl).0 h.0) ((options_decide E d a.ret b.ret).0 h.1)),
  λ e. true_both (pointwise E a.args b.args) (option_eq E a.ret b.ret) ((slice_eq-Decides d a.args b.args (pointwise E a.args b.args) refl).1 (ap (λ z. z.args) e)) ((options_decide E d a.ret b.ret).1 (ap (λ z. z.ret) e)),
)

-- the derived test of methods' descriptors
derived_decides : (a b : MethodDesc) → Decides (method_desc.eq-value.it a b) (a ≡ b)
derived_decides a b = methods_decide desc.eq-value.it (descs_decide elem.eq-value.it (decides_by elem.eq-value.it elem_from elem_itself)) a b

-- the test of the definitions
pub methods_told : (a b : MethodDesc) → Decides (same_method_desc a b) (a ≡ b)
methods_told a b = methods_decide same_desc (descs_decide same_elem (decides_by same_elem kind_from kind_itself)) a b

-- the two tests are one
derived_same : (a b : MethodDesc) → method_desc.eq-value.it a b ≡ same_method_desc a b
derived_same a b = one_answer (method_desc.eq-value.it a b) (same_method_desc a b) (derived_decides a b) (methods_told a b)

-- two methods have one signature exactly where they have one name and one descriptor
pub signatures_told : (m n : MethodInfo) → Decides (same_signature m n) ((m.name ≡ n.name) × (m.desc ≡ n.desc))
signatures_told m n = (
  λ e. (let h = both_true (same_text m.name n.name) (same_method_desc m.desc n.desc) e in ((texts_decide m.name n.name).0 h.0, (methods_told m.desc n.desc).0 h.1)),
  λ p. true_both (same_text m.name n.name) (same_method_desc m.desc n.desc) ((texts_decide m.name n.name).1 p.0) ((methods_told m.desc n.desc).1 p.1),
)

-- a test that decides what is one is an equivalence
pub equivalence_of : {A : Type 0} (E : A → A → Bool) → ((a b : A) → Decides (E a b) (a ≡ b)) → IsEquivalence E
equivalence_of E d = record {
  refl = λ x. (d x x).1 refl;
  symm = λ x y. one_answer (E x y) (E y x) (d x y) (λ e. sym ((d y x).0 e), λ e. (d y x).1 (sym e));
  congr = λ x y z e. ap (λ w. E w z) ((d x y).0 e);
}

-- the numbers of the first methods' names and descriptors
pub record Signed (methods : List MethodInfo) (names : List (List ℕ)) (descs : List MethodDesc) (signs : List Sign) (count : ℕ) : Type 0 where
  pub all : length signs ≡ count
  pub name : (a : ℕ) (m : MethodInfo) → a < count → slice_get methods a ≡ Some m → position (same_text m.name) names ≡ Some (sign_at signs a).0
  pub desc : (a : ℕ) (m : MethodInfo) → a < count → slice_get methods a ≡ Some m → position (method_desc.eq-value.it m.desc) descs ≡ Some (sign_at signs a).1

-- one more method is signed
signs_more : (methods : List MethodInfo) (names : List (List ℕ)) (descs : List MethodDesc) (signs : List Sign) (i : ℕ) (m : MethodInfo) (n d : ℕ) → slice_get methods i ≡ Some m → position (same_text m.name) (with_item same_text names m.name) ≡ Some n → position (method_desc.eq-value.it m.desc) (with_item method_desc.eq-value.it descs m.desc) ≡ Some d → Signed methods names descs signs i → Signed methods (with_item same_text names m.name) (with_item method_desc.eq-value.it descs m.desc) (signs ++ (n, d) ∷ []) (i + 1)
signs_more methods names descs signs i m n d at en ed s =
    let last : sign_at (signs ++ (n, d) ∷ []) i ≡ (n, d) = ap (sign_at (signs ++ (n, d) ∷ [])) (sym s.all) ∙ get_or-append_seam signs (n, d) [] (0, 0) in
    let before : (a : ℕ) → a < i → sign_at (signs ++ (n, d) ∷ []) a ≡ sign_at signs a = λ a h. get_or-append signs ((n, d) ∷ []) (0, 0) a (let l = s.all in omega arith) in
    record {
      all = length-append signs ((n, d) ∷ []) ∙ ap (λ k. k + 1) s.all;
      name = λ a k h e. elim (cases_lt a i) [
        | inl less ↦ number_kept same_text names k.name m.name (sign_at signs a).0 (s.name a k less e) ∙ ap (λ z. Some z.0) (sym (before a less))
        | inr more ↦
            let q : a ≡ i = omega arith in
            let same : k ≡ m = some_is k m (sym e ∙ ap (slice_get methods) q ∙ at) in
            ap (λ z. position (same_text z.name) (with_item same_text names m.name)) same ∙ en ∙ ap (λ z. Some z.0) (sym (ap (sign_at (signs ++ (n, d) ∷ [])) q ∙ last))
      ];
      desc = λ a k h e. elim (cases_lt a i) [
        | inl less ↦ number_kept method_desc.eq-value.it descs k.desc m.desc (sign_at signs a).1 (s.desc a k less e) ∙ ap (λ z. Some z.1) (sym (before a less))
        | inr more ↦
            let q : a ≡ i = omega arith in
            let same : k ≡ m = some_is k m (sym e ∙ ap (slice_get methods) q ∙ at) in
            ap (λ z. position (method_desc.eq-value.it z.desc) (with_item method_desc.eq-value.it descs m.desc)) same ∙ ed ∙ ap (λ z. Some z.1) (sym (ap (sign_at (signs ++ (n, d) ∷ [])) q ∙ last))
      ];
    }

-- once all are signed, the signs tell signatures apart
pub signs_all : (methods : List MethodInfo) (names : List (List ℕ)) (descs : List MethodDesc) (signs : List Sign) (i : ℕ) → length methods ≡ i → Signed methods names descs signs i → AreSigns methods signs
signs_all methods names descs signs i done s = record {
  all = s.all ∙ sym done;
  tell = λ a b m n ea eb.
      let ina : a < i = subst (λ k. a < k) done (slice_get_within methods a m ea) in
      let inb : b < i = subst (λ k. b < k) done (slice_get_within methods b n eb) in
      let names_tell = number_tells (equivalence_of same_text texts_decide) names m.name n.name (sign_at signs a).0 (sign_at signs b).0 (s.name a m ina ea) (s.name b n inb eb) in
      let descs_tell = number_tells (equivalence_of method_desc.eq-value.it derived_decides) descs m.desc n.desc (sign_at signs a).1 (sign_at signs b).1 (s.desc a m ina ea) (s.desc b n inb eb) in
      ap (λ z. z && nat_eq (sign_at signs a).1 (sign_at signs b).1) names_tell ∙ ap (λ z. same_text m.name n.name && z) (descs_tell ∙ derived_same m.desc n.desc);
}

-- none is signed at first
pub signs_none : (methods : List MethodInfo) (names : List (List ℕ)) (descs : List MethodDesc) (signs : List Sign) → signs ≡ [] → Signed methods names descs signs 0
signs_none methods names descs signs e = record { all = ap length e; name = λ a m h q. absurd (omega arith); desc = λ a m h q. absurd (omega arith) }

-- the step of the loop, for lists that grew so
pub signs_step : (methods : List MethodInfo) (names names2 : List (List ℕ)) (descs descs2 : List MethodDesc) (signs signs2 : List Sign) (i : ℕ) (m : MethodInfo) (name : List ℕ) (desc : MethodDesc) (n d : ℕ)
    → slice_get methods i ≡ Some m → name ≡ m.name → desc ≡ m.desc
    → names2 ≡ with_item same_text names name → descs2 ≡ with_item method_desc.eq-value.it descs desc → signs2 ≡ signs ++ (n, d) ∷ []
    → position (same_text name) names2 ≡ Some n → position (method_desc.eq-value.it desc) descs2 ≡ Some d
    → Signed methods names descs signs i → Signed methods names2 descs2 signs2 (i + 1)
signs_step methods names names2 descs descs2 signs signs2 i m name desc n d at is_name is_desc e1 e2 e3 en ed s =
    let with_name : names2 ≡ with_item same_text names m.name = e1 ∙ ap (with_item same_text names) is_name in
    let with_desc : descs2 ≡ with_item method_desc.eq-value.it descs m.desc = e2 ∙ ap (with_item method_desc.eq-value.it descs) is_desc in
    let name_at : position (same_text m.name) names2 ≡ Some n = ap (λ z. position (same_text z) names2) (sym is_name) ∙ en in
    let desc_at : position (method_desc.eq-value.it m.desc) descs2 ≡ Some d = ap (λ z. position (method_desc.eq-value.it z) descs2) (sym is_desc) ∙ ed in
    let more = signs_more methods names descs signs i m n d at (subst (λ z. position (same_text m.name) z ≡ Some n) with_name name_at) (subst (λ z. position (method_desc.eq-value.it m.desc) z ≡ Some d) with_desc desc_at) s in
    let grown = with_item method_desc.eq-value.it descs m.desc in
    subst (λ z. Signed methods z descs2 signs2 (i + 1)) (sym with_name)
    (subst (λ z. Signed methods (with_item same_text names m.name) z signs2 (i + 1)) (sym with_desc)
    (subst (λ z. Signed methods (with_item same_text names m.name) grown z (i + 1)) (sym e3) more))
