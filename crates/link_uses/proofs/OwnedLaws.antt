-- What is kept of declared members is what look-ups find.
use Rattle.std.proofs.Common.{◌≡◌, ℕ, ◌+◌, Bool, true, false, cond, List, [], ◌∷◌, map, Option, Some, None, position, slice_get, refl, sym, ap, ◌∙◌}
use Rattle.std.specs.Prelude.{◌&&◌, ◌||◌, option_map, option_and_then}
use Rattle.std.specs.List.{list_any, position_from, AllByRecursion}
use Rattle.std.specs.Cmp.Lexicographic.{same_text}
use Rattle.std.proofs.lemmas.Iterator.Adapters.{position_from-zero}
use Rattle.jvm_base.specs.Words.{from}
use Rattle.hierarchy.specs.Walks.{first_some, or_else}
use Rattle.class_format.specs.declared.class.ClassFile.{ClassFile}
use Rattle.class_format.specs.declared.member_kind.MemberKind.{MemberKind}
use Rattle.class_format.specs.declared.member_kind.MemberKind.TheVariants.{Field, Method}
use Rattle.class_names.specs.Known.{is_name, is_known}
use Rattle.class_names.specs.Texts.{Member}
use Rattle.code_table.proofs.Firsts.{position_none, none_position}
use Rattle.link_members.proofs.SignLaws.{number_is}
use Rattle.link_uses.specs.declared.lookup.Found.{Found}
use Rattle.link_uses.specs.declared.owned.Owned.{Owned}
use Rattle.link_uses.specs.Lookups.{is_field_of, is_method_of, own_field, own_method}
use Rattle.link_members.specs.Signs.{Sign}
use Rattle.link_uses.specs.Owned.{Signature, field_signature, method_signature, signatures, signatures_at, has_number, has_sign, sign_of, AreSeen, ArePlaces, IsOwned, Key, found_at}

-- ---- numbers of texts

-- none passes where no place is found
none_any : {A : Type 0} (p : A → Bool) (xs : List A) → AllByRecursion (λ x. p x ≡ false) xs → list_any p xs ≡ false
none_any p [] h = refl
none_any p (x ∷ xs) h = ap (λ b. b || list_any p xs) h.0 ∙ none_any p xs h.1

-- a text that wasn't seen is none that was
not_seen : (names : List (List ℕ)) (asked text : List ℕ) → position (is_name asked) names ≡ None → is_known names text ≡ true → is_name asked text ≡ false
not_seen names asked text none known = by (is_name asked text) refl
  where
    by : (b : Bool) → is_name asked text ≡ b → b ≡ false
    by false e = refl
    by true e =
        let s : asked ≡ text = same_text asked text (sym e) in
        sym known ∙ ap (is_known names) (sym s) ∙ none_any (is_name asked) names (position_none (is_name asked) names none)

-- ---- the first place

-- two tests that agree have one first place
from_same : {A : Type 0} (p q : A → Bool) (i : ℕ) (xs : List A) → ((x : A) → p x ≡ q x) → position_from p i xs ≡ position_from q i xs
from_same p q i [] h = refl
from_same p q i (x ∷ xs) h = ap (λ b. cond b (Some i) (position_from p (i + 1) xs)) (h x) ∙ ap (cond (q x) (Some i)) (from_same p q (i + 1) xs h)

-- the first place in a mapped list
from_map : {A B : Type 0} (f : A → B) (p : B → Bool) (i : ℕ) (xs : List A) → position_from p i (map f xs) ≡ position_from (λ x. p (f x)) i xs
from_map f p i [] = refl
from_map f p i (x ∷ xs) = ap (cond (p (f x)) (Some i)) (from_map f p (i + 1) xs)

-- the same of places counted from 0
place_same : {A : Type 0} (p q : A → Bool) (xs : List A) → ((x : A) → p x ≡ q x) → position p xs ≡ position q xs
place_same p q xs h = position_from-zero p xs ∙ from_same p q 0 xs h ∙ sym (position_from-zero q xs)

place_map : {A B : Type 0} (f : A → B) (p : B → Bool) (xs : List A) → position p (map f xs) ≡ position (λ x. p (f x)) xs
place_map f p xs = position_from-zero p (map f xs) ∙ from_map f p 0 xs ∙ sym (position_from-zero (λ x. p (f x)) xs)

-- ---- look-ups

-- name and descriptor are the member's
abbrev pub is_called : Member → Signature → Bool
is_called m s = is_name m.name s.0 && is_name m.desc s.1

-- the numbers of a member's name and descriptor, where both were seen
sign_parts : (names : List (List ℕ)) (m : Member) (s : Sign) → sign_of names m ≡ Some s → (position (is_name m.name) names ≡ Some s.0) × (position (is_name m.desc) names ≡ Some s.1)
sign_parts names m s e = by (position (is_name m.name) names) (position (is_name m.desc) names) e refl refl
  where
    by : (a b : Option ℕ) → option_and_then (λ n. option_map (λ d. (n, d)) b) a ≡ Some s → position (is_name m.name) names ≡ a → position (is_name m.desc) names ≡ b → (position (is_name m.name) names ≡ Some s.0) × (position (is_name m.desc) names ≡ Some s.1)
    by None b h ea eb = absurd cc
    by (Some n) None h ea eb = absurd cc
    by (Some n) (Some d) h ea eb = let q : (n, d) ≡ s = cc in (ea ∙ ap (λ z. Some z.0) q, eb ∙ ap (λ z. Some z.1) q)

-- a signature has the sign exactly where it is the member's
sign_is : (names : List (List ℕ)) (m : Member) (s : Sign) (x : Signature) → sign_of names m ≡ Some s → has_sign names s x ≡ is_called m x
sign_is names m s x e =
    let parts = sign_parts names m s e in
    ap (λ b. b && has_number names x.1 s.1) (number_is names m.name x.0 s.0 parts.0) ∙ ap (λ b. is_name m.name x.0 && b) (number_is names m.desc x.1 s.1 parts.1)

and_false : (b : Bool) → (b && false) ≡ false
and_false true = refl
and_false false = refl

-- a member without a sign is none that was seen
sign_none : (names : List (List ℕ)) (m : Member) (x : Signature) → sign_of names m ≡ None → (is_known names x.0 ≡ true) × (is_known names x.1 ≡ true) → is_called m x ≡ false
sign_none names m x e seen = by (position (is_name m.name) names) (position (is_name m.desc) names) e refl refl
  where
    by : (a b : Option ℕ) → option_and_then {U = Sign} (λ n. option_map (λ d. (n, d)) b) a ≡ None → position (is_name m.name) names ≡ a → position (is_name m.desc) names ≡ b → is_called m x ≡ false
    by None b h ea eb = ap (λ z. z && is_name m.desc x.1) (not_seen names m.name x.0 ea seen.0)
    by (Some n) None h ea eb = ap (λ z. is_name m.name x.0 && z) (not_seen names m.desc x.1 eb seen.1) ∙ and_false (is_name m.name x.0)
    by (Some n) (Some d) h ea eb = absurd cc

-- so it is none of a class's
none_called : (names : List (List ℕ)) (m : Member) (ss : List Signature) → sign_of names m ≡ None → AreSeen names ss → AllByRecursion (λ x. is_called m x ≡ false) ss
none_called names m [] e seen = tt
none_called names m (x ∷ ss) e seen = (sign_none names m x e seen.0, none_called names m ss e seen.1)

abbrev found_in : ℕ → Option ℕ → Option Found
found_in k o = option_map (λ i. record { class = k; place = i }) o

-- a class's field, by its signature
field_called : (all : List ClassFile) (m : Member) (k : ℕ) → found_in k (position (is_called m) (signatures_at all Field k)) ≡ own_field all m k
unfolding own_field is_field_of
field_called all m k = by (slice_get all k)
  where
    by : (o : Option ClassFile) → found_in k (position (is_called m) (from [] (signatures Field) o)) ≡ from None (λ g. found_in k (position (is_field_of g m) g.fields)) o
    by None = refl
    by (Some g) = ap (found_in k) (place_map (field_signature g) (is_called m) g.fields)

-- a class's method, by its signature
method_called : (all : List ClassFile) (m : Member) (k : ℕ) → found_in k (position (is_called m) (signatures_at all Method k)) ≡ own_method all m k
unfolding own_method is_method_of
method_called all m k = by (slice_get all k)
  where
    by : (o : Option ClassFile) → found_in k (position (is_called m) (from [] (signatures Method) o)) ≡ from None (λ g. found_in k (position (is_method_of g m) g.methods)) o
    by None = refl
    by (Some g) = ap (found_in k) (place_map (method_signature g) (is_called m) g.methods)

-- what is kept at a class and a sign is what has the member's signature
kept_called : (all : List ClassFile) (names : List (List ℕ)) (kind : MemberKind) (entries : List (Key × ℕ)) (m : Member) (s : Sign) (k : ℕ) → ArePlaces all names kind entries → sign_of names m ≡ Some s → found_at entries s k ≡ found_in k (position (is_called m) (signatures_at all kind k))
unfolding found_at
kept_called all names kind entries m s k kept e = ap (found_in k) (kept.each (k, s) ∙ place_same (has_sign names s) (is_called m) (signatures_at all kind k) (λ x. sign_is names m s x e))

-- the field that is kept is the class's own
pub kept_field : (all : List ClassFile) (owned : Owned) (m : Member) (s : Sign) → IsOwned all owned → sign_of owned.names m ≡ Some s → (k : ℕ) → found_at owned.fields.entries s k ≡ own_field all m k
kept_field all owned m s o e k = kept_called all owned.names Field owned.fields.entries m s k o.fields e ∙ field_called all m k

-- the method that is kept is the class's own
pub kept_method : (all : List ClassFile) (owned : Owned) (m : Member) (s : Sign) → IsOwned all owned → sign_of owned.names m ≡ Some s → (k : ℕ) → found_at owned.methods.entries s k ≡ own_method all m k
kept_method all owned m s o e k = kept_called all owned.names Method owned.methods.entries m s k o.methods e ∙ method_called all m k

-- where a name or descriptor wasn't seen no class has such a field
pub no_field : (all : List ClassFile) (owned : Owned) (m : Member) → IsOwned all owned → sign_of owned.names m ≡ None → (k : ℕ) → own_field all m k ≡ None
no_field all owned m o e k = sym (field_called all m k) ∙ ap (found_in k) (none_position (is_called m) (signatures_at all Field k) (none_called owned.names m (signatures_at all Field k) e (o.seen Field k)))

-- nor such a method
pub no_method : (all : List ClassFile) (owned : Owned) (m : Member) → IsOwned all owned → sign_of owned.names m ≡ None → (k : ℕ) → own_method all m k ≡ None
no_method all owned m o e k = sym (method_called all m k) ∙ ap (found_in k) (none_position (is_called m) (signatures_at all Method k) (none_called owned.names m (signatures_at all Method k) e (o.seen Method k)))

-- ---- along a walk

-- a question without answers has no first one
pub first_none : {A : Type 0} (f : ℕ → Option A) (xs : List ℕ) → ((k : ℕ) → f k ≡ None) → first_some f xs ≡ None
first_none f [] h = refl
first_none f (x ∷ xs) h = ap (λ o. or_else o (first_some f xs)) (h x) ∙ first_none f xs h

-- nor one behind that
pub none_twice : {A : Type 0} (f : ℕ → Option A) (xs ys : List ℕ) → ((k : ℕ) → f k ≡ None) → or_else (first_some f xs) (first_some f ys) ≡ None
none_twice f xs ys h = ap (λ o. or_else o (first_some f ys)) (first_none f xs h) ∙ first_none f ys h
