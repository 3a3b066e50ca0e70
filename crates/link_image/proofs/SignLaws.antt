-- Numbers of names and descriptors, where each is read once.
use Rattle.std.proofs.Common.{◌≡◌, ℕ, zero, suc, ◌+◌, ◌-◌, ◌<◌, ◌≤◌, Bool, true, false, ◌||◌, List, [], ◌∷◌, ◌++◌, Option, Some, None, length, map, take, get_or, slice_index_or, position, length-append, append_assoc, inl, inr, refl, sym, ap, subst, ◌∙◌, arith}
use Rattle.std.specs.Prelude.{slice_get, option_map, IfSome, if◌then◌else◌}
use Rattle.std.specs.List.{flat_map, list_any}
use Rattle.std.proofs.lemmas.Bool.{cases_lt}
use Rattle.std.proofs.lemmas.Grind.{flat_map-append}
use Rattle.std.proofs.lemmas.List.{length-map}
use Rattle.std.proofs.lemmas.List.Quantifiers.{position-Some}
use Rattle.std.proofs.lemmas.Option.{slice_get-map, slice_get-get_or, slice_get_within, get_or_from_slice_get}
use Rattle.jvm_base.specs.declared.desc.MethodDesc.{MethodDesc}
use Rattle.class_format.specs.declared.class.ClassFile.{ClassFile}
use Rattle.link_rules.specs.Numbers.{map_from, numbered}
use Rattle.numbering.specs.Seen.{is_seen, with_item}
use Rattle.jvm_base.proofs.Options.{some_is}
use Rattle.jvm_base.specs.contracts.desc.MethodDescPartialEq.TheImpl as method_desc
use Rattle.program_image.specs.declared.info.MethodInfo.{MethodInfo}
use Rattle.program_image.specs.Built.Signs.{Sign, sign_at}
use Rattle.program_image.specs.Signatures.{same_text}
use Rattle.program_image.proofs.Signatures.{Signed}
use Rattle.link_image.specs.declared.signs.Backs.{Backs}
use Rattle.link_image.specs.Kept.Backs.{IsBack, AreBacks}
use Rattle.link_image.specs.Kept.Signs.{names_of, descs_of, AreClassBacks, AreMethodBacks}
use Rattle.link_image.proofs.BackLaws.{map_twice}
use Rattle.link_image.specs.Methods.{method_info, class_methods, natives, natives_before, method_infos}

-- ---- what is known of lists behind one another

get_left : {A : Type 0} (xs ys : List A) (i : ℕ) → i < length xs → slice_get (xs ++ ys) i ≡ slice_get xs i
get_left [] ys i h = absurd (omega arith)
get_left (x ∷ xs) ys zero h = refl
get_left (x ∷ xs) ys (suc i) h = get_left xs ys i (omega arith)

get_right : {A : Type 0} (xs ys : List A) (i : ℕ) → slice_get (xs ++ ys) (length xs + i) ≡ slice_get ys i
get_right {A = A} [] ys i = let z : length {A = A} [] + i ≡ i = omega arith in ap (slice_get ys) z
get_right (x ∷ xs) ys i = let z : length (x ∷ xs) + i ≡ suc (length xs + i) = omega arith in ap (slice_get (x ∷ (xs ++ ys))) z ∙ get_right xs ys i

right_of : {A : Type 0} (xs ys : List A) (i j : ℕ) → length xs + j ≡ i → slice_get (xs ++ ys) i ≡ slice_get ys j
right_of xs ys i j e = ap (slice_get (xs ++ ys)) (sym e) ∙ get_right xs ys j

pub backs_both : {A : Type 0} (xs ys : List A) (bs cs : List ℕ) → AreBacks xs bs → AreBacks ys cs → AreBacks (xs ++ ys) (bs ++ cs)
backs_both xs ys bs cs b c = record {
  all = (let l = length-append bs cs in let m = length-append xs ys in let p = b.all in let q = c.all in omega arith);
  each = λ i d h. elim (cases_lt i (length bs)) [
    | inl less ↦
        let e : slice_get bs i ≡ Some d = sym (get_left bs cs i less) ∙ h in
        let w = b.each i d e in
        let p = b.all in (
          w.0,
          λ a s. get_left xs ys a (omega arith) ∙ w.1 a s ∙ sym (get_left xs ys i (omega arith)),
        )
    | inr more ↦
        let j : ℕ = i - length bs in
        let split : length bs + j ≡ i = omega arith in
        let p = b.all in
        let e : slice_get cs j ≡ Some d = sym (right_of bs cs i j split) ∙ h in
        let w = c.each j d e in
        let least = w.0 in (
          omega arith,
          λ a s.
              let k : ℕ = a - length bs in
              right_of xs ys a k (omega arith) ∙ w.1 k (omega arith) ∙ sym (right_of xs ys i j (omega arith)),
        )
  ];
}

pub backs_map : {A B : Type 0} (f : A → B) (xs : List A) (bs : List ℕ) → AreBacks xs bs → AreBacks (map f xs) bs
backs_map f xs bs b = record {
  all = b.all ∙ sym (length-map xs f);
  each = λ i d h. ((b.each i d h).0, λ a s. slice_get-map f xs a ∙ ap (option_map f) ((b.each i d h).1 a s) ∙ sym (slice_get-map f xs i));
}

-- ---- classes behind one another

pub class_more : (fs : List ClassFile) (f : ClassFile) (all class new : Backs) → AreMethodBacks fs all → AreClassBacks f class → new.names ≡ all.names ++ class.names → new.descs ≡ all.descs ++ class.descs → AreMethodBacks (fs ++ f ∷ []) new
class_more fs f all class new a c en ed = record {
  names = subst (λ z. AreBacks (flat_map names_of (fs ++ f ∷ [])) z) (sym en) (subst (λ z. AreBacks z (all.names ++ class.names)) (sym (last_of names_of)) (backs_both (flat_map names_of fs) (names_of f) all.names class.names a.names c.names));
  descs = subst (λ z. AreBacks (flat_map descs_of (fs ++ f ∷ [])) z) (sym ed) (subst (λ z. AreBacks z (all.descs ++ class.descs)) (sym (last_of descs_of)) (backs_both (flat_map descs_of fs) (descs_of f) all.descs class.descs a.descs c.descs));
}
  where
    last_of : {B : Type 0} (g : ClassFile → List B) → flat_map g (fs ++ f ∷ []) ≡ flat_map g fs ++ g f
    last_of g = flat_map-append g fs (f ∷ []) ∙ ap (λ z. flat_map g fs ++ z) (nil_behind (g f))
      where
        nil_behind : {B : Type 0} (xs : List B) → xs ++ [] ≡ xs
        nil_behind [] = refl
        nil_behind (x ∷ xs) = ap (λ z. x ∷ z) (nil_behind xs)

-- of no class there are none
pub no_class : (backs : Backs) → backs.names ≡ [] → backs.descs ≡ [] → AreMethodBacks [] backs
no_class backs en ed = record { names = none en; descs = none ed }
  where
    nothing : (i d : ℕ) → slice_get [] i ≡ Some d → ⊥
    nothing i d h = absurd cc

    none : {A : Type 0} {bs : List ℕ} → bs ≡ [] → AreBacks {A = A} [] bs
    none {bs = bs} e = record { all = ap length e; each = λ i d h. absurd (nothing i d (subst (λ (z : List ℕ). slice_get z i ≡ Some d) e h)) }

-- the backs of indices are those of what is made of them
pub backs_of : {A B : Type 0} (f : ℕ → B) (g : A → ℕ) (xs ys : List A) (is js : List ℕ) (bs : List ℕ) → AreBacks is bs → is ≡ js → js ≡ map g ys → ys ≡ xs → AreBacks (map (λ x. f (g x)) xs) bs
backs_of f g xs ys is js bs b ei ej ey =
    subst (λ z. AreBacks z bs) (ap (map f) (ei ∙ ej) ∙ map_twice f g ys ∙ ap (map (λ x. f (g x))) ey) (backs_map f is bs b)

-- ---- the methods of a program

same_map : {A B C : Type 0} (h : B → C) (g : ℕ → A → B) (q : A → C) (k : ℕ) (xs : List A) → ((i : ℕ) (x : A) → h (g i x) ≡ q x) → map h (map_from g k xs) ≡ map q xs
same_map h g q k [] e = refl
same_map h g q k (x ∷ xs) e = ap (λ z. z ∷ map h (map_from g (k + 1) xs)) (e k x) ∙ ap (λ z. q x ∷ z) (same_map h g q (k + 1) xs e)

map_both : {A B : Type 0} (h : A → B) (xs ys : List A) → map h (xs ++ ys) ≡ map h xs ++ map h ys
map_both h [] ys = refl
map_both h (x ∷ xs) ys = ap (λ z. h x ∷ z) (map_both h xs ys)

same_flat : {A B C : Type 0} (h : B → C) (g : ℕ → A → List B) (q : A → List C) (k : ℕ) (xs : List A) → ((i : ℕ) (x : A) → map h (g i x) ≡ q x) → map h (numbered g k xs) ≡ flat_map q xs
same_flat h g q k [] e = refl
same_flat h g q k (x ∷ xs) e = map_both h (g k x) (numbered g (k + 1) xs) ∙ ap (λ z. z ++ map h (numbered g (k + 1) xs)) (e k x) ∙ ap (λ z. q x ++ z) (same_flat h g q (k + 1) xs e)

pub names_are : (all : List ClassFile) → map (λ (m : MethodInfo). m.name) (method_infos all) ≡ flat_map names_of all
unfolding method_infos
names_are all = same_flat (λ (m : MethodInfo). m.name) (λ c f. class_methods (natives_before all c) c f) names_of 0 all (λ c f. same_map (λ (m : MethodInfo). m.name) (λ i m. method_info f c (natives_before all c + natives (take i f.methods)) m) _ 0 f.methods (λ i x. refl))

pub descs_are : (all : List ClassFile) → map (λ (m : MethodInfo). m.desc) (method_infos all) ≡ flat_map descs_of all
unfolding method_infos
descs_are all = same_flat (λ (m : MethodInfo). m.desc) (λ c f. class_methods (natives_before all c) c f) descs_of 0 all (λ c f. same_map (λ (m : MethodInfo). m.desc) (λ i m. method_info f c (natives_before all c + natives (take i f.methods)) m) _ 0 f.methods (λ i x. refl))

-- ---- numbers

any_there : {A : Type 0} (p : A → Bool) (xs : List A) (n : ℕ) (d : A) → n < length xs → p (get_or xs n d) ≡ true → list_any p xs ≡ true
any_there p [] n d h e = absurd (omega arith)
any_there p (x ∷ xs) zero d h e = ap (λ b. b || list_any p xs) e
any_there p (x ∷ xs) (suc n) d h e = ap (λ b. p x || b) (any_there p xs n d (omega arith) e) ∙ or_true (p x)
  where
    or_true : (b : Bool) → (b || true) ≡ true
    or_true true = refl
    or_true false = refl

-- an item that has a number was seen
pub known_item : {A : Type 0} (E : A → A → Bool) (items : List A) (x : A) (n : ℕ) → position (E x) items ≡ Some n → items ≡ with_item E items x
known_item E items x n e =
    let w = position-Some (E x) items n x e in
    sym (ap (λ b. if b then items else items ++ x ∷ []) (any_there (E x) items n x w.0 w.1))

pub known_name : (methods : List MethodInfo) (names : List (List ℕ)) (descs : List MethodDesc) (signs : List Sign) (i : ℕ) (m : MethodInfo) (backs : List ℕ) (o : Option ℕ) → Signed methods names descs signs i → AreBacks (map (λ (x : MethodInfo). x.name) methods) backs → i < length methods → slice_get methods i ≡ Some m → o ≡ option_map (λ (s : Sign). s.0) (slice_get signs (i - slice_index_or backs i 0)) → IfSome o (λ n. position (same_text m.name) names ≡ Some n)
known_name methods names descs signs i m backs o s b h em eo = by (slice_get signs (i - slice_index_or backs i 0)) refl
  where
    back : slice_get backs i ≡ Some (slice_index_or backs i 0)
    back = slice_get-get_or backs i 0 (let l = b.all in let k = length-map methods (λ (x : MethodInfo). x.name) in omega arith)

    there : (a : ℕ) (t : Sign) → a + slice_index_or backs i 0 ≡ i → slice_get signs a ≡ Some t → position (same_text m.name) names ≡ Some t.0
    there a t q e =
        let inside : a < length signs = slice_get_within signs a t e in
        let n = s.all in
        let k : MethodInfo = get_or methods a m in
        let at : slice_get methods a ≡ Some k = slice_get-get_or methods a m (omega arith) in
        let same : Some k.name ≡ Some m.name = ap (option_map (λ (x : MethodInfo). x.name)) (sym at) ∙ sym (slice_get-map (λ (x : MethodInfo). x.name) methods a) ∙ (b.each i (slice_index_or backs i 0) back).1 a q ∙ slice_get-map (λ (x : MethodInfo). x.name) methods i ∙ ap (option_map (λ (x : MethodInfo). x.name)) em in
        let own : m.name ≡ k.name = sym (some_is k.name m.name same) in
        ap (λ z. position (same_text z) names) own ∙ s.name a k (omega arith) at ∙ ap (λ (z : Sign). Some z.0) (get_or_from_slice_get signs a t (0, 0) e)

    by : (p : Option Sign) → slice_get signs (i - slice_index_or backs i 0) ≡ p → IfSome o (λ n. position (same_text m.name) names ≡ Some n)
    by None e = subst (λ z. IfSome z (λ n. position (same_text m.name) names ≡ Some n)) (sym (eo ∙ ap (option_map (λ (s : Sign). s.0)) e)) tt
    by (Some t) e = subst (λ z. IfSome z (λ n. position (same_text m.name) names ≡ Some n)) (sym (eo ∙ ap (option_map (λ (s : Sign). s.0)) e)) (there (i - slice_index_or backs i 0) t (let w = (b.each i (slice_index_or backs i 0) back).0 in omega arith) e)

pub known_desc : (methods : List MethodInfo) (names : List (List ℕ)) (descs : List MethodDesc) (signs : List Sign) (i : ℕ) (m : MethodInfo) (backs : List ℕ) (o : Option ℕ) → Signed methods names descs signs i → AreBacks (map (λ (x : MethodInfo). x.desc) methods) backs → i < length methods → slice_get methods i ≡ Some m → o ≡ option_map (λ (s : Sign). s.1) (slice_get signs (i - slice_index_or backs i 0)) → IfSome o (λ n. position (method_desc.eq-value.it m.desc) descs ≡ Some n)
known_desc methods names descs signs i m backs o s b h em eo = by (slice_get signs (i - slice_index_or backs i 0)) refl
  where
    back : slice_get backs i ≡ Some (slice_index_or backs i 0)
    back = slice_get-get_or backs i 0 (let l = b.all in let k = length-map methods (λ (x : MethodInfo). x.desc) in omega arith)

    there : (a : ℕ) (t : Sign) → a + slice_index_or backs i 0 ≡ i → slice_get signs a ≡ Some t → position (method_desc.eq-value.it m.desc) descs ≡ Some t.1
    there a t q e =
        let inside : a < length signs = slice_get_within signs a t e in
        let n = s.all in
        let k : MethodInfo = get_or methods a m in
        let at : slice_get methods a ≡ Some k = slice_get-get_or methods a m (omega arith) in
        let same : Some k.desc ≡ Some m.desc = ap (option_map (λ (x : MethodInfo). x.desc)) (sym at) ∙ sym (slice_get-map (λ (x : MethodInfo). x.desc) methods a) ∙ (b.each i (slice_index_or backs i 0) back).1 a q ∙ slice_get-map (λ (x : MethodInfo). x.desc) methods i ∙ ap (option_map (λ (x : MethodInfo). x.desc)) em in
        let own : m.desc ≡ k.desc = sym (some_is k.desc m.desc same) in
        ap (λ z. position (method_desc.eq-value.it z) descs) own ∙ s.desc a k (omega arith) at ∙ ap (λ (z : Sign). Some z.1) (get_or_from_slice_get signs a t (0, 0) e)

    by : (p : Option Sign) → slice_get signs (i - slice_index_or backs i 0) ≡ p → IfSome o (λ n. position (method_desc.eq-value.it m.desc) descs ≡ Some n)
    by None e = subst (λ z. IfSome z (λ n. position (method_desc.eq-value.it m.desc) descs ≡ Some n)) (sym (eo ∙ ap (option_map (λ (s : Sign). s.1)) e)) tt
    by (Some t) e = subst (λ z. IfSome z (λ n. position (method_desc.eq-value.it m.desc) descs ≡ Some n)) (sym (eo ∙ ap (option_map (λ (s : Sign). s.1)) e)) (there (i - slice_index_or backs i 0) t (let w = (b.each i (slice_index_or backs i 0) back).0 in omega arith) e)
