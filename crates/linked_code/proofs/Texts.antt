-- The texts of the classes that code names, and their dimensions.
use Rattle.std.proofs.Common.{◌≡◌, ◌∙◌, sym, ap, subst, refl, ℕ, zero, suc, ◌+◌, ◌<◌, ◌==◌, Bool, true, false, cond, not, List, [], ◌∷◌, ◌++◌, length, slice_get, Option, Some, None, arith}
use Rattle.std.specs.Prelude.{if◌then◌else◌, option_and_then, take_while, replicate}
use Rattle.std.specs.List.{position_from}
use Rattle.std.specs.Option.{is_some, option_map_or}
use Rattle.std.proofs.lemmas.Iterator.Adapters.{position_from-zero}
use Rattle.std.proofs.lemmas.List.Sums.{take_while-cons}
use Rattle.jvm_base.specs.Descriptors.{elem_text, desc_of}
use Rattle.jvm_base.specs.Letters.{array_letter}
use Rattle.jvm_base.specs.Words.{from}
use Rattle.jvm_base.specs.declared.desc.Desc.{Desc}
use Rattle.jvm_base.specs.declared.desc.Elem.{Elem}
use Rattle.jvm_base.specs.declared.pool.PoolItem.{PoolItem}
use Rattle.jvm_base.specs.declared.pool.PoolItem.TheVariants.{Class}
use Rattle.jvm_base.proofs.Descs.{IsHead, elem_head, desc_of_takes}
use Rattle.jvm_base.proofs.Options.{then_some, map_some, not_true, not_false}
use Rattle.class_names.specs.Texts.{text_in, class_text, is_array}
use Rattle.code_table.specs.Items.{dimensions_of, class_dimensions}
use Rattle.constant_pool.specs.Items.{text_at, class_at, name_of}
use Rattle.constant_pool.specs.Links.{is_class_text, is_linked, bad_link}

-- ---- class items

-- the dimensions that are told of an item are those of its text
pub text_dims : (pool : List PoolItem) (i dims : ℕ) → class_dimensions pool i ≡ Some dims → (dimensions_of (class_text pool i) ≡ dims) × ((name : ℕ) × (class_at pool i ≡ Some name))
text_dims pool i dims e =
    let (us, q, s) = map_some dimensions_of (option_and_then (text_at pool) (class_at pool i)) dims e in
    let (name, a, b) = then_some (text_at pool) (class_at pool i) us q in
    let t : class_text pool i ≡ us = ap (λ (o : Option ℕ). from [] (text_in pool) o) a ∙ ap (λ (o : Option (List ℕ)). from [] (λ (vs : List ℕ). vs) o) b in
    (ap dimensions_of t ∙ s, (name, a))

-- where nothing is found, each item fails
none_from : {A : Type 0} (t : A → Bool) (n : ℕ) (xs : List A) → position_from t n xs ≡ None → (i : ℕ) (x : A) → slice_get xs i ≡ Some x → t x ≡ false
none_from t n [] e i x q = absurd cc
none_from t n (y ∷ ys) e i x q = by_test (t y) refl e i q (none_from t (n + 1) ys)
  where
    by_test : (b : Bool) → t y ≡ b → (if b then Some n else position_from t (n + 1) ys) ≡ None → (i : ℕ) → slice_get (y ∷ ys) i ≡ Some x → (position_from t (n + 1) ys ≡ None → (i : ℕ) (z : _) → slice_get ys i ≡ Some z → t z ≡ false) → t x ≡ false
    by_test true h g i q again = absurd cc
    by_test false h g zero q again = let s : y ≡ x = cc in subst (λ z. t z ≡ false) s h
    by_test false h g (suc i) q again = again g i x q

-- the text of a class item of a linked pool is that of a class
pub class_linked : (pool : List PoolItem) → bad_link pool ≡ None → (i name : ℕ) → class_at pool i ≡ Some name → is_class_text (class_text pool i) ≡ true
class_linked pool none i name e =
    let (item, q, s) = then_some name_of (slice_get pool i) name e in
    let linked : is_linked pool item ≡ true = not_false (is_linked pool item) (none_from (λ (x : PoolItem). not (is_linked pool x)) 0 pool (sym (position_from-zero (λ (x : PoolItem). not (is_linked pool x)) pool) ∙ none) i item q) in
    ap (λ (o : Option ℕ). is_class_text (from [] (text_in pool) o)) e ∙ by_item item s linked
  where
    by_text : (o : Option (List ℕ)) → option_map_or is_class_text o false ≡ true → is_class_text (from [] (λ (us : List ℕ). us) o) ≡ true
    by_text None h = h
    by_text (Some us) h = h

    by_item : (item : PoolItem) → name_of item ≡ Some name → is_linked pool item ≡ true → is_class_text (text_in pool name) ≡ true
    by_item (Class n) s h = let k : n ≡ name = cc in by_text (text_at pool name) (subst (λ (m : ℕ). option_map_or is_class_text (text_at pool m) false ≡ true) k h)
    by_item _ s h = absurd cc

-- ---- texts of array classes

-- one is a descriptor
pub array_desc : (text : List ℕ) → is_class_text text ≡ true → is_array text ≡ true → (d : Desc) × (desc_of text ≡ Some d)
array_desc [] h a = absurd cc
array_desc (u ∷ us) h a = by_desc (desc_of (u ∷ us)) refl (rw a at h)
  where
    by_desc : (o : Option Desc) → desc_of (u ∷ us) ≡ o → is_some o ≡ true → (d : Desc) × (desc_of (u ∷ us) ≡ Some d)
    by_desc None q k = absurd cc
    by_desc (Some d) q k = (d, q)

-- it has a dimension
pub array_deep : (text : List ℕ) → is_array text ≡ true → 0 < dimensions_of text
array_deep [] a = absurd cc
array_deep (u ∷ us) a =
    let s : dimensions_of (u ∷ us) ≡ length (cond (u == array_letter) (u ∷ take_while (λ u. u == array_letter) us) []) = ap length (take_while-cons (λ (u : ℕ). u == array_letter) u us) in
    let t : length (cond (u == array_letter) (u ∷ take_while (λ u. u == array_letter) us) []) ≡ suc (dimensions_of us) = rw a refl in
    omega arith

-- and what has one is an array
pub deep_array : (text : List ℕ) → 0 < dimensions_of text → is_array text ≡ true
deep_array [] l = absurd (let z : dimensions_of [] ≡ 0 = refl in omega arith)
deep_array (u ∷ us) l = by_test (u == array_letter) (subst (λ (xs : List ℕ). 0 < length xs) (take_while-cons (λ (u : ℕ). u == array_letter) u us) l)
  where
    by_test : (b : Bool) → 0 < length (cond b (u ∷ take_while (λ u. u == array_letter) us) []) → b ≡ true
    by_test true h = refl
    by_test false h = absurd (let z : length {A = ℕ} [] ≡ 0 = refl in omega arith)

text_deep : (n : ℕ) (e : Elem) → dimensions_of (replicate n array_letter ++ elem_text e) ≡ n
text_deep zero e =
    let h : IsHead e = elem_head e in
    ap dimensions_of h.text ∙ ap length (take_while-cons (λ (u : ℕ). u == array_letter) h.unit h.rest)
    ∙ ap (λ (b : Bool). length (cond b (h.unit ∷ take_while (λ u. u == array_letter) h.rest) [])) (not_true (h.unit == array_letter) h.not_bracket)
text_deep (suc n) e =
    ap length (take_while-cons (λ (u : ℕ). u == array_letter) array_letter (replicate n array_letter ++ elem_text e))
    ∙ ap suc (text_deep n e)

-- the dimensions of a descriptor's text are its own
pub desc_dims : (text : List ℕ) (d : Desc) → desc_of text ≡ Some d → dimensions_of text ≡ d.dims
desc_dims text d e = ap dimensions_of (desc_of_takes text d e).1 ∙ text_deep d.dims d.elem
