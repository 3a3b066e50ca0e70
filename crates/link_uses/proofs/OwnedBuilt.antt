-- How the members that are kept come about.
use Rattle.std.proofs.Common.{◌≡◌, ℕ, zero, suc, ◌+◌, ◌<◌, Bool, true, false, cond, nat_eq, nat_lt, List, [], ◌∷◌, ◌++◌, map, drop, length, get_or, Option, Some, None, position, slice_get, refl, sym, ap, subst, ◌∙◌, arith, inl, inr}
use Rattle.std.specs.Prelude.{◌&&◌, ◌||◌, if◌then◌else◌}
use Rattle.std.specs.List.{flat_map, position_from, AllByRecursion}
use Rattle.std.specs.Cmp.Lexicographic.{nat_list_eq_equiv}
use Rattle.std.proofs.lemmas.Bool.{cases_eq, cases_lt}
use Rattle.std.proofs.lemmas.Bool.Decides.{nat_tests}
use Rattle.std.proofs.lemmas.Grind.{flat_map-append}
use Rattle.std.proofs.lemmas.List.{at_drop_more}
use Rattle.std.proofs.lemmas.List.Folds.{list_any-append}
use Rattle.std.proofs.lemmas.Option.{slice_get_past}
use Rattle.std.proofs.lemmas.Iterator.Adapters.{position_from-zero}
use Rattle.jvm_base.specs.Words.{from}
use Rattle.hierarchy.specs.Walks.{or_else}
use Rattle.hierarchy.proofs.WalkLaws.{or_else_none}
use Rattle.class_format.specs.declared.class.ClassFile.{ClassFile}
use Rattle.class_format.specs.declared.member_kind.MemberKind.{MemberKind}
use Rattle.class_format.specs.declared.member_kind.MemberKind.TheVariants.{Field, Method}
use Rattle.class_names.specs.Known.{is_name, is_known, add_name, add_names}
use Rattle.link_uses.specs.Owned.{Signature, Key, field_signature, method_signature, place_at, signatures, signatures_at, signature_texts, member_texts, class_texts, member_names, has_sign, has_key, AreSeen, ArePlaces}

-- ---- texts

-- texts that are added one after the other
pub add_append : (names xs ys : List (List ℕ)) → add_names names (xs ++ ys) ≡ add_names (add_names names xs) ys
add_append names [] ys = refl
add_append names (x ∷ xs) ys = add_append (add_name names x) xs ys

-- those of two lists of classes
pub texts_both : (boot files all : List ClassFile) → boot ++ files ≡ all → add_names (add_names [] (flat_map class_texts boot)) (flat_map class_texts files) ≡ add_names [] (flat_map class_texts all)
texts_both boot files all e = sym (add_append [] (flat_map class_texts boot) (flat_map class_texts files)) ∙ ap (add_names []) (sym (flat_map-append class_texts boot files)) ∙ ap (λ z. add_names [] (flat_map class_texts z)) e

-- one member more
pub texts_more : {X : Type 0} (f : X → List (List ℕ)) (xs : List X) (i : ℕ) (x : X) (now new whole : List (List ℕ)) → i < length xs → x ≡ get_or xs i x → new ≡ add_names now (f x) → add_names now (flat_map f (drop i xs)) ≡ whole → add_names new (flat_map f (drop (i + 1) xs)) ≡ whole
texts_more f xs i x now new whole h at en eh =
    ap (λ z. add_names z (flat_map f (drop (i + 1) xs))) (en ∙ ap (λ z. add_names now (f z)) at) ∙ sym (add_append now (f (get_or xs i x)) (flat_map f (drop (i + 1) xs))) ∙ ap (add_names now) (sym (at_drop_more (flat_map f) xs i x h)) ∙ eh

or_true : (b : Bool) → (b || true) ≡ true
or_true true = refl
or_true false = refl

-- one text more is known
pub known_added : (names : List (List ℕ)) (x : List ℕ) → is_known (add_name names x) x ≡ true
known_added names x = by (is_known names x) refl
  where
    by : (b : Bool) → is_known names x ≡ b → is_known (if b then names else names ++ x ∷ []) x ≡ true
    by true e = e
    by false e = list_any-append (is_name x) names (x ∷ []) ∙ ap (λ b. is_known names x || (b || false)) (nat_list_eq_equiv.refl x) ∙ or_true (is_known names x)

-- and others stay so
pub known_kept : (names : List (List ℕ)) (x t : List ℕ) → is_known names t ≡ true → is_known (add_name names x) t ≡ true
known_kept names x t known = by (is_known names x)
  where
    by : (b : Bool) → is_known (if b then names else names ++ x ∷ []) t ≡ true
    by true = known
    by false = list_any-append (is_name t) names (x ∷ []) ∙ ap (λ b. b || is_known (x ∷ []) t) known

known_kept_all : (names ts : List (List ℕ)) (t : List ℕ) → is_known names t ≡ true → is_known (add_names names ts) t ≡ true
known_kept_all names [] t known = known
known_kept_all names (x ∷ ts) t known = known_kept_all (add_name names x) ts t (known_kept names x t known)

abbrev AreKnown : List (List ℕ) → List (List ℕ) → Type 0
AreKnown names ts = AllByRecursion (λ t. is_known names t ≡ true) ts

-- all texts that were added are known
all_known : (names ts : List (List ℕ)) → AreKnown (add_names names ts) ts
all_known names [] = tt
all_known names (x ∷ ts) = (known_kept_all (add_name names x) ts x (known_added names x), all_known (add_name names x) ts)

-- the parts of a list in which each is known
known_parts : (names xs ys : List (List ℕ)) → AreKnown names (xs ++ ys) → AreKnown names xs × AreKnown names ys
known_parts names [] ys h = (tt, h)
known_parts names (x ∷ xs) ys h = let rest = known_parts names xs ys h.1 in ((h.0, rest.0), rest.1)

-- the texts of one class
known_class : (names : List (List ℕ)) (all : List ClassFile) (k : ℕ) (g : ClassFile) → AreKnown names (flat_map class_texts all) → slice_get all k ≡ Some g → AreKnown names (class_texts g)
known_class names [] k g h e = absurd cc
known_class names (f ∷ all) zero g h e = let s : f ≡ g = cc in subst (λ z. AreKnown names (class_texts z)) s (known_parts names (class_texts f) (flat_map class_texts all) h).0
known_class names (f ∷ all) (suc k) g h e = known_class names all k g (known_parts names (class_texts f) (flat_map class_texts all) h).1 e

-- members whose texts are known were seen
seen_from : {X : Type 0} (names : List (List ℕ)) (f : X → Signature) (xs : List X) → AreKnown names (flat_map (λ x. signature_texts (f x)) xs) → AreSeen names (map f xs)
seen_from names f [] h = tt
seen_from names f (x ∷ xs) h = ((h.0, h.1.0), seen_from names f xs h.1.1)

-- those of a kind
seen_kind : (names : List (List ℕ)) (kind : MemberKind) (g : ClassFile) → AreKnown names (class_texts g) → AreSeen names (signatures kind g)
seen_kind names Field g h = seen_from names (field_signature g) g.fields (known_parts names (member_texts Field g) (member_texts Method g) h).0
seen_kind names Method g h = seen_from names (method_signature g) g.methods (known_parts names (member_texts Field g) (member_texts Method g) h).1

-- where the texts of all classes were added all members were seen
pub all_seen : (names : List (List ℕ)) (all : List ClassFile) → names ≡ member_names all → (kind : MemberKind) (k : ℕ) → AreSeen names (signatures_at all kind k)
unfolding member_names
all_seen names all e kind k = by (slice_get all k) refl
  where
    known : AreKnown names (flat_map class_texts all)
    known = subst (λ z. AreKnown z (flat_map class_texts all)) (sym e) (all_known [] (flat_map class_texts all))

    by : (o : Option ClassFile) → slice_get all k ≡ o → AreSeen names (from [] (signatures kind) o)
    by None at = tt
    by (Some g) at = seen_kind names kind g (known_class names all k g known at)

-- ---- all classes

same_true : (a b : ℕ) → a ≡ b → nat_eq a b ≡ true
same_true a b e = grind (arith, nat_tests)

same_false : (a b : ℕ) → (a ≡ b → ⊥) → nat_eq a b ≡ false
same_false a b e = grind (arith, nat_tests)

-- two tests that agree have one first place
from_same : {A : Type 0} (p q : A → Bool) (i : ℕ) (xs : List A) → ((x : A) → p x ≡ q x) → position_from p i xs ≡ position_from q i xs
from_same p q i [] h = refl
from_same p q i (x ∷ xs) h = ap (λ b. cond b (Some i) (position_from p (i + 1) xs)) (h x) ∙ ap (cond (q x) (Some i)) (from_same p q (i + 1) xs h)

-- a test that none passes has none
from_none : {A : Type 0} (i : ℕ) (xs : List A) → position_from (λ x. false) i xs ≡ None
from_none i [] = refl
from_none i (x ∷ xs) = from_none (i + 1) xs

-- what the classes below a number declare
abbrev pub declared_below : List ClassFile → List (List ℕ) → MemberKind → ℕ → Key → Option ℕ
declared_below all names kind i key = if nat_lt key.0 i then position (has_sign names key.1) (signatures_at all kind key.0) else None

less_true : (a b : ℕ) → a < b → nat_lt a b ≡ true
less_true a b h = grind (arith, nat_tests)

less_false : (a b : ℕ) → (a < b → ⊥) → nat_lt a b ≡ false
less_false a b h = grind (arith, nat_tests)

-- one class more
pub class_more : (all : List ClassFile) (names : List (List ℕ)) (kind : MemberKind) (i : ℕ) (key : Key) (now new : Option ℕ) → now ≡ declared_below all names kind i key → new ≡ or_else now (position_from (has_key names i key) 0 (signatures_at all kind i)) → new ≡ declared_below all names kind (i + 1) key
class_more all names kind i key now new en ew = elim (cases_eq key.0 i) [
  | inl s ↦
      let none : now ≡ None = en ∙ ap (λ b. if b then position (has_sign names key.1) (signatures_at all kind key.0) else None) (less_false key.0 i (λ h. omega arith)) in
      let here : position_from (has_key names i key) 0 (signatures_at all kind i) ≡ position (has_sign names key.1) (signatures_at all kind key.0) =
      from_same (has_key names i key) (has_sign names key.1) 0 (signatures_at all kind i) (λ x. ap (λ b. b && has_sign names key.1 x) (same_true i key.0 (sym s)))
      ∙ sym (position_from-zero (has_sign names key.1) (signatures_at all kind i))
      ∙ ap (λ k. position (has_sign names key.1) (signatures_at all kind k)) (sym s) in
      ew ∙ ap (λ o. or_else o (position_from (has_key names i key) 0 (signatures_at all kind i))) none ∙ here
      ∙ sym (ap (λ b. if b then position (has_sign names key.1) (signatures_at all kind key.0) else None) (less_true key.0 (i + 1) (omega arith)))
  | inr ne ↦
      let none : position_from (has_key names i key) 0 (signatures_at all kind i) ≡ None =
      from_same (has_key names i key) (λ x. false) 0 (signatures_at all kind i) (λ x. ap (λ b. b && has_sign names key.1 x) (same_false i key.0 (λ e. ne (sym e))))
      ∙ from_none 0 (signatures_at all kind i) in
      ew ∙ ap (or_else now) none ∙ or_else_none now ∙ en ∙ ap (λ b. if b then position (has_sign names key.1) (signatures_at all kind key.0) else None) (same_less key.0 i ne)
]
  where
    same_less : (a b : ℕ) → (a ≡ b → ⊥) → nat_lt a b ≡ nat_lt a (b + 1)
    same_less a b ne = elim (cases_lt a b) [
      | inl h ↦ less_true a b h ∙ sym (less_true a (b + 1) (omega arith))
      | inr h ↦ less_false a b (λ q. omega arith) ∙ sym (less_false a (b + 1) (λ q. omega arith))
    ]

-- all classes
pub class_all : (all : List ClassFile) (names : List (List ℕ)) (kind : MemberKind) (entries : List (Key × ℕ)) (i : ℕ) → length all ≡ i → ((key : Key) → place_at entries key ≡ declared_below all names kind i key) → ArePlaces all names kind entries
class_all all names kind entries i done h = record {
  each = λ key. elim (cases_lt key.0 i) [
    | inl less ↦ h key ∙ ap (λ b. if b then position (has_sign names key.1) (signatures_at all kind key.0) else None) (less_true key.0 i less)
    | inr more ↦
        let past : slice_get all key.0 ≡ None = slice_get_past all key.0 (omega arith) in
        h key ∙ ap (λ b. if b then position (has_sign names key.1) (signatures_at all kind key.0) else None) (less_false key.0 i (λ q. omega arith)) ∙ sym (ap (λ o. position (has_sign names key.1) (from [] (signatures kind) o)) past)
  ];
}
