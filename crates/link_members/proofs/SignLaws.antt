-- Two signatures have one sign exactly where they are one, and each signature of a file has one.
use Rattle.std.proofs.Common.{◌≡◌, ℕ, zero, suc, ◌+◌, ◌<◌, Bool, true, false, nat_eq, List, [], ◌∷◌, ◌++◌, drop, length, get_or, Option, Some, None, position, refl, sym, ap, subst, ◌∙◌, arith}
use Rattle.std.specs.Prelude.{◌&&◌, ◌||◌, if◌then◌else◌}
use Rattle.std.specs.List.{flat_map, list_any, AllByRecursion}
use Rattle.std.specs.Option.{option_to_list}
use Rattle.std.specs.Cmp.Lexicographic.{same_text, nat_list_eq_equiv}
use Rattle.std.proofs.lemmas.Bool.Decides.{nat_tests}
use Rattle.std.proofs.lemmas.Grind.{flat_map-append}
use Rattle.std.proofs.lemmas.List.{at_drop_more}
use Rattle.std.proofs.lemmas.List.Folds.{list_any-append}
use Rattle.std.proofs.lemmas.List.Quantifiers.{position-Some}
use Rattle.jvm_base.specs.declared.pool.PoolItem.{PoolItem}
use Rattle.jvm_base.specs.Words.{from}
use Rattle.constant_pool.specs.Items.{text_of}
use Rattle.class_format.specs.declared.class.ClassFile.{ClassFile}
use Rattle.class_names.specs.Known.{is_name, is_known, add_name, add_names}
use Rattle.class_names.specs.Texts.{text_in}
use Rattle.code_table.proofs.Firsts.{position_none}
use Rattle.link_rules.specs.Numbers.{numbered}
use Rattle.link_members.specs.Declarations.{Table, signature_of, is_signature, methods_at, declared_one, declared_in, signed_one, signed_in, AreDeclared}
use Rattle.link_members.specs.Signs.{is_number, Pair, Sign, item_texts, file_texts, text_names, signed, sign_of, is_sign, is_signed}
use Rattle.link_members.proofs.DeclaredLaws.{one_pair, one_sign, true_same}

-- ---- texts that are added one after the other

add_append : (names xs ys : List (List ℕ)) → add_names names (xs ++ ys) ≡ add_names (add_names names xs) ys
add_append names [] ys = refl
add_append names (x ∷ xs) ys = add_append (add_name names x) xs ys

-- those of two lists of classes
pub texts_both : (boot files all : List ClassFile) (names : List (List ℕ)) → boot ++ files ≡ all → add_names (add_names names (flat_map file_texts boot)) (flat_map file_texts files) ≡ add_names names (flat_map file_texts all)
texts_both boot files all names e = sym (add_append names (flat_map file_texts boot) (flat_map file_texts files)) ∙ ap (add_names names) (sym (flat_map-append file_texts boot files)) ∙ ap (λ z. add_names names (flat_map file_texts z)) e

-- those of one item more
pub texts_more : {X : Type 0} (f : X → List (List ℕ)) (xs : List X) (i : ℕ) (x : X) (now new whole : List (List ℕ)) → i < length xs → x ≡ get_or xs i x → new ≡ add_names now (f x) → add_names now (flat_map f (drop i xs)) ≡ whole → add_names new (flat_map f (drop (i + 1) xs)) ≡ whole
texts_more f xs i x now new whole h at en eh =
    ap (λ z. add_names z (flat_map f (drop (i + 1) xs))) (en ∙ ap (λ z. add_names now (f z)) at) ∙ sym (add_append now (f (get_or xs i x)) (flat_map f (drop (i + 1) xs))) ∙ ap (add_names now) (sym (at_drop_more (flat_map f) xs i x h)) ∙ eh

-- ---- each of them is known

or_true : (b : Bool) → (b || true) ≡ true
or_true true = refl
or_true false = refl

known_added : (names : List (List ℕ)) (x : List ℕ) → is_known (add_name names x) x ≡ true
known_added names x = by (is_known names x) refl
  where
    by : (b : Bool) → is_known names x ≡ b → is_known (if b then names else names ++ x ∷ []) x ≡ true
    by true e = e
    by false e = list_any-append (is_name x) names (x ∷ []) ∙ ap (λ b. is_known names x || (b || false)) (nat_list_eq_equiv.refl x) ∙ or_true (is_known names x)

known_kept : (names : List (List ℕ)) (x t : List ℕ) → is_known names t ≡ true → is_known (add_name names x) t ≡ true
known_kept names x t known = by (is_known names x)
  where
    by : (b : Bool) → is_known (if b then names else names ++ x ∷ []) t ≡ true
    by true = known
    by false = list_any-append (is_name t) names (x ∷ []) ∙ ap (λ b. b || is_known (x ∷ []) t) known

known_kept_all : (names ts : List (List ℕ)) (t : List ℕ) → is_known names t ≡ true → is_known (add_names names ts) t ≡ true
known_kept_all names [] t known = known
known_kept_all names (x ∷ ts) t known = known_kept_all (add_name names x) ts t (known_kept names x t known)

abbrev AreKnown : List (List ℕ) → List (List ℕ) → Type 0
AreKnown names ts = AllByRecursion (λ t. is_known names t ≡ true) ts

all_known : (names ts : List (List ℕ)) → AreKnown (add_names names ts) ts
all_known names [] = tt
all_known names (x ∷ ts) = (known_kept_all (add_name names x) ts x (known_added names x), all_known (add_name names x) ts)

known_parts : (names xs ys : List (List ℕ)) → AreKnown names (xs ++ ys) → AreKnown names xs × AreKnown names ys
known_parts names [] ys h = (tt, h)
known_parts names (x ∷ xs) ys h = let rest = known_parts names xs ys h.1 in ((h.0, rest.0), rest.1)

-- the text at an index of a pool whose texts are known
text_known : (names : List (List ℕ)) (pool : List PoolItem) (i : ℕ) → is_known names [] ≡ true → AreKnown names (flat_map item_texts pool) → is_known names (text_in pool i) ≡ true
text_known names [] i none h = none
text_known names (item ∷ pool) zero none h = by (text_of item) (known_parts names (item_texts item) (flat_map item_texts pool) h).0
  where
    by : (o : Option (List ℕ)) → AreKnown names (option_to_list o) → is_known names (from [] (λ us. us) o) ≡ true
    by None k = none
    by (Some us) k = k.0
text_known names (item ∷ pool) (suc i) none h = text_known names pool i none (known_parts names (item_texts item) (flat_map item_texts pool) h).1

-- ---- numbers of texts

same_true : (a b : ℕ) → a ≡ b → nat_eq a b ≡ true
same_true a b e = grind (arith, nat_tests)

-- two texts of one number are one
one_text : (names : List (List ℕ)) (a b : List ℕ) (i : ℕ) → position (is_name a) names ≡ Some i → position (is_name b) names ≡ Some i → a ≡ b
one_text names a b i ea eb =
    let pa : is_name a (get_or names i a) ≡ true = (position-Some (is_name a) names i a ea).1 in
    let pb : is_name b (get_or names i a) ≡ true = (position-Some (is_name b) names i a eb).1 in
    same_text a (get_or names i a) (sym pa) ∙ sym (same_text b (get_or names i a) (sym pb))

-- a text has another's number exactly where the two are one
pub number_is : (names : List (List ℕ)) (asked text : List ℕ) (n : ℕ) → position (is_name asked) names ≡ Some n → is_number (position (is_name text) names) n ≡ is_name asked text
number_is names asked text n at = by (is_name asked text) refl
  where
    other : (o : Option ℕ) → position (is_name text) names ≡ o → is_name asked text ≡ false → is_number o n ≡ false
    other None e differ = refl
    other (Some k) e differ = unlike (nat_eq k n) refl
      where
        unlike : (b : Bool) → nat_eq k n ≡ b → b ≡ false
        unlike false h = refl
        unlike true h =
            let s : asked ≡ text = one_text names asked text n at (e ∙ ap (λ z. Some z) (true_same k n h)) in
            sym (nat_list_eq_equiv.refl asked) ∙ ap (is_name asked) s ∙ differ

    by : (b : Bool) → is_name asked text ≡ b → is_number (position (is_name text) names) n ≡ b
    by true e =
        let s : asked ≡ text = same_text asked text (sym e) in
        ap (λ o. is_number o n) (ap (λ t. position (is_name t) names) (sym s) ∙ at) ∙ same_true n n refl
    by false e = other (position (is_name text) names) refl e

-- a text without a number isn't known
none_any : {A : Type 0} (p : A → Bool) (xs : List A) → AllByRecursion (λ x. p x ≡ false) xs → list_any p xs ≡ false
none_any p [] h = refl
none_any p (x ∷ xs) h = ap (λ b. b || list_any p xs) h.0 ∙ none_any p xs h.1

unknown : (names : List (List ℕ)) (t : List ℕ) → position (is_name t) names ≡ None → is_known names t ≡ false
unknown names t e = none_any (is_name t) names (position_none (is_name t) names e)

-- ---- signs

-- the numbers of both
sign_parts : (names : List (List ℕ)) (s : Pair) (k : Sign) → sign_of names s ≡ Some k → (position (is_name s.0) names ≡ Some k.0) × (position (is_name s.1) names ≡ Some k.1)
sign_parts names s k e = by (position (is_name s.0) names) (position (is_name s.1) names) e refl refl
  where
    by : (a b : Option ℕ) → signed a b ≡ Some k → position (is_name s.0) names ≡ a → position (is_name s.1) names ≡ b → (position (is_name s.0) names ≡ Some k.0) × (position (is_name s.1) names ≡ Some k.1)
    by None b h ea eb = absurd cc
    by (Some n) None h ea eb = absurd cc
    by (Some n) (Some d) h ea eb = let q : (n, d) ≡ k = cc in (ea ∙ ap (λ z. Some z.0) q, eb ∙ ap (λ z. Some z.1) q)

-- a signature whose texts are known has a sign
not_none : (names : List (List ℕ)) (s : Pair) → is_known names s.0 ≡ true → is_known names s.1 ≡ true → sign_of names s ≡ None → true ≡ false
not_none names s ka kb e = by (position (is_name s.0) names) (position (is_name s.1) names) e refl refl
  where
    by : (a b : Option ℕ) → signed a b ≡ None → position (is_name s.0) names ≡ a → position (is_name s.1) names ≡ b → true ≡ false
    by None b h ea eb = sym ka ∙ unknown names s.0 ea
    by (Some n) None h ea eb = sym kb ∙ unknown names s.1 eb
    by (Some n) (Some d) h ea eb = absurd cc

same_sign : (k : Sign) → is_sign k k ≡ true
same_sign k = ap (λ b. b && nat_eq k.1 k.1) (same_true k.0 k.0 refl) ∙ same_true k.1 k.1 refl

same_signature : (s : Pair) → is_signature s s ≡ true
same_signature s = ap (λ b. b && is_name s.1 s.1) (nat_list_eq_equiv.refl s.0) ∙ nat_list_eq_equiv.refl s.1

-- two signatures of one sign are one
one_signature : (names : List (List ℕ)) (x s : Pair) (k : Sign) → sign_of names x ≡ Some k → sign_of names s ≡ Some k → x ≡ s
one_signature names x s k ex es =
    let px = sign_parts names x k ex in
    let ps = sign_parts names s k es in
    ap (λ (a : List ℕ). (a, x.1)) (one_text names x.0 s.0 k.0 px.0 ps.0) ∙ ap (λ (b : List ℕ). (s.0, b)) (one_text names x.1 s.1 k.1 px.1 ps.1)

-- a signature has another's sign exactly where it is the other
sign_is : (names : List (List ℕ)) (x s : Pair) (k : Sign) → sign_of names s ≡ Some k → is_signed (sign_of names x) k ≡ is_signature x s
sign_is names x s k e = by (is_signature x s) refl
  where
    other : (o : Option Sign) → sign_of names x ≡ o → is_signature x s ≡ false → is_signed o k ≡ false
    other None ex differ = refl
    other (Some j) ex differ = unlike (is_sign j k) refl
      where
        unlike : (b : Bool) → is_sign j k ≡ b → b ≡ false
        unlike false h = refl
        unlike true h =
            let same : x ≡ s = one_signature names x s k (ex ∙ ap (λ z. Some z) (one_sign j k h)) e in
            sym (same_signature x) ∙ ap (is_signature x) same ∙ differ

    by : (b : Bool) → is_signature x s ≡ b → is_signed (sign_of names x) k ≡ b
    by true h = ap (λ o. is_signed o k) (ap (sign_of names) (one_pair x s h) ∙ e) ∙ same_sign k
    by false h = other (sign_of names x) refl h

-- a signature without a sign is none whose texts are known
sign_none : (names : List (List ℕ)) (x s : Pair) → sign_of names s ≡ None → is_known names x.0 ≡ true → is_known names x.1 ≡ true → is_signature x s ≡ false
sign_none names x s e ka kb = by (is_signature x s) refl
  where
    by : (b : Bool) → is_signature x s ≡ b → b ≡ false
    by false h = refl
    by true h = not_none names x ka kb (ap (sign_of names) (one_pair x s h) ∙ e)

-- ---- tables

-- lists that are made of items alike
flat_same : {A B : Type 0} (f g : A → List B) (xs : List A) → ((x : A) → f x ≡ g x) → flat_map f xs ≡ flat_map g xs
flat_same f g [] h = refl
flat_same f g (x ∷ xs) h = ap (λ z. z ++ flat_map f xs) (h x) ∙ ap (λ z. g x ++ z) (flat_same f g xs h)

numbered_same : {A B : Type 0} (f g : ℕ → A → List B) (n : ℕ) (xs : List A) → ((c : ℕ) (x : A) → f c x ≡ g c x) → numbered f n xs ≡ numbered g n xs
numbered_same f g n [] h = refl
numbered_same f g n (x ∷ xs) h = ap (λ z. z ++ numbered f (n + 1) xs) (h n x) ∙ ap (λ z. g n x ++ z) (numbered_same f g (n + 1) xs h)

flat_none : {A B : Type 0} (f : A → List B) (xs : List A) → ((x : A) → f x ≡ []) → flat_map f xs ≡ []
flat_none f [] h = refl
flat_none f (x ∷ xs) h = ap (λ z. z ++ flat_map f xs) (h x) ∙ flat_none f xs h

-- the methods of a sign are those of the signature that has it
signed_declared : (names : List (List ℕ)) (s : Pair) (k : Sign) (c : ℕ) (g : ClassFile) → sign_of names s ≡ Some k → signed_in names k c g ≡ declared_in s c g
signed_declared names s k c g e =
    flat_same (signed_one names k c g) (declared_one s c g) g.methods (λ m. ap (λ b. if b then record { class = c; flags = m.flags } ∷ [] else []) (sign_is names (signature_of g m) s k e))

-- no class has a method of a signature without a sign
none_declared : (names : List (List ℕ)) (s : Pair) (n : ℕ) (all : List ClassFile) → sign_of names s ≡ None → is_known names [] ≡ true → AreKnown names (flat_map file_texts all) → numbered (declared_in s) n all ≡ []
none_declared names s n [] e none h = refl
none_declared names s n (g ∷ all) e none h =
    let parts = known_parts names (file_texts g) (flat_map file_texts all) h in
    ap (λ z. z ++ numbered (declared_in s) (n + 1) all) (flat_none (declared_one s n g) g.methods (λ m. ap (λ b. if b then record { class = n; flags = m.flags } ∷ [] else []) (sign_none names (signature_of g m) s e (text_known names g.pool m.name none parts.0) (text_known names g.pool m.desc none parts.0))))
    ∙ none_declared names s (n + 1) all e none parts.1

-- a table that has the methods by sign has them by signature
pub declared_signed : (all : List ClassFile) (names : List (List ℕ)) (table : Table) → names ≡ text_names all → ((k : Sign) → methods_at table k ≡ numbered (signed_in names k) 0 all) → AreDeclared all names table
unfolding text_names
declared_signed all names table e each = λ s. by s (sign_of names s) refl
  where
    known : AreKnown names ([] ∷ flat_map file_texts all)
    known = subst (λ z. AreKnown z ([] ∷ flat_map file_texts all)) (sym e) (all_known [] ([] ∷ flat_map file_texts all))

    by : (s : Pair) (o : Option Sign) → sign_of names s ≡ o → from [] (methods_at table) o ≡ numbered (declared_in s) 0 all
    by s None h = sym (none_declared names s 0 all h known.0 known.1)
    by s (Some k) h = each k ∙ numbered_same (signed_in names k) (declared_in s) 0 all (λ c g. signed_declared names s k c g h)
