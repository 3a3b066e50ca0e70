-- A field's descriptor that is read is the one that was written.
use Rattle.std.proofs.Common.{◌≡◌, ℕ, suc, Bool, true, false, cond, not, ◌&&◌, List, [], ◌∷◌, ◌++◌, length, take, drop, get_or, Some, refl, sym, ap, subst, ◌∙◌, arith, append_assoc}
use Rattle.std.specs.Prelude.{position, replicate, option_map, option_and_then, nat_lt, ◌==◌}
use Rattle.std.specs.List.{list_all, AllByRecursion}
use Rattle.std.proofs.Math.Seq.{drop-append_seam, take-append_seam}
use Rattle.std.proofs.lemmas.Bool.{eqb-true}
use Rattle.std.proofs.lemmas.Bool.Decides.{nat_tests}
use Rattle.std.proofs.lemmas.List.{length-replicate, append-nil, take-append-drop}
use Rattle.std.proofs.lemmas.List.Quantifiers.{position-Some}
use Rattle.jvm_base.specs.declared.desc.Elem.{Elem}
use Rattle.jvm_base.specs.declared.desc.Elem.TheVariants.{Byte, Char, Double, Float, Int, Long, Short, Boolean, Object}
use Rattle.jvm_base.specs.declared.desc.Desc.{Desc}
use Rattle.jvm_base.specs.Descriptors.{elem_text, desc_text, is_class_name, IsElem, IsDesc, letter_elem, name_at, elem_at, desc_at, whole, desc_of}
use Rattle.jvm_base.proofs.Options.{some_is, and_parts, not_true, not_false, map_some, then_some, if_some, choice, no_choice}
use Rattle.jvm_base.proofs.Places.{parts_at, position_behind, all_replicate, take_replicate, drop_behind}
use Rattle.jvm_base.proofs.Readers.{IsReader}

-- ---- element types

-- an element type at the front of a text, and what follows it
record IsElemAt (us : List ℕ) (x : Elem × List ℕ) : Type 0 where
  pub parts : us ≡ elem_text x.0 ++ x.1
  pub fits : IsElem x.0

record IsLetter (u : ℕ) (e : Elem) : Type 0 where
  pub text : elem_text e ≡ u ∷ []
  pub fits : IsElem e

letter : (u n : ℕ) (e : Elem) → elem_text e ≡ n ∷ [] → IsElem e → (u == n) ≡ true → IsLetter u e
letter u n e text fits h = record { text = text ∙ ap (λ k. k ∷ []) (sym (eqb-true u n h)); fits = fits }

letter_takes : (u : ℕ) (e : Elem) → letter_elem u ≡ Some e → IsLetter u e
letter_takes u =
    let P : Elem → Type 0 = λ e. IsLetter u e in
    choice P (u == 66) Byte _ (letter u 66 Byte refl tt)
    (choice P (u == 67) Char _ (letter u 67 Char refl tt)
    (choice P (u == 68) Double _ (letter u 68 Double refl tt)
    (choice P (u == 70) Float _ (letter u 70 Float refl tt)
    (choice P (u == 73) Int _ (letter u 73 Int refl tt)
    (choice P (u == 74) Long _ (letter u 74 Long refl tt)
    (choice P (u == 83) Short _ (letter u 83 Short refl tt)
    (choice P (u == 90) Boolean _ (letter u 90 Boolean refl tt)
    (no_choice P))))))))

name_takes : (us : List ℕ) (x : Elem × List ℕ) → name_at us ≡ Some x → IsElemAt (76 ∷ us) x
name_takes us x e =
    let i = then_some _ (position (λ u. u == 59) us) x e in
    let place = position-Some (λ u. u == 59) us i.0 0 i.1 in
    let named = if_some (is_class_name (take i.0 us)) _ x i.2 in
    let at_end : get_or us i.0 0 ≡ 59 = eqb-true (get_or us i.0 0) 59 place.1 in
    let parts : us ≡ take i.0 us ++ 59 ∷ drop (suc i.0) us = subst (λ n. us ≡ take i.0 us ++ n ∷ drop (suc i.0) us) at_end (parts_at us i.0 0 place.0) in
    subst (λ (z : Elem × List ℕ). IsElemAt (76 ∷ us) z) (some_is (Object (take i.0 us), drop (suc i.0) us) x named.1)
    (record { parts = ap (λ (z : List ℕ). 76 ∷ z) parts ∙ sym (append_assoc (76 ∷ take i.0 us) (59 ∷ []) (drop (suc i.0) us)); fits = named.0 })

elem_takes : (us : List ℕ) (x : Elem × List ℕ) → elem_at us ≡ Some x → IsElemAt us x
unfolding elem_at
elem_takes [] x e = absurd cc
elem_takes (u ∷ us) x e =
    let class : (b : Bool) → (u == 76) ≡ b → cond b (name_at us) (option_map (λ e. (e, us)) (letter_elem u)) ≡ Some x → IsElemAt (u ∷ us) x = λ b. elim b as (λ b. (u == 76) ≡ b → cond b (name_at us) (option_map (λ e. (e, us)) (letter_elem u)) ≡ Some x → IsElemAt (u ∷ us) x) [
      | true ↦ λ h k. subst (λ n. IsElemAt (n ∷ us) x) (sym (eqb-true u 76 h)) (name_takes us x k)
      | false ↦ λ h k.
          let found = map_some (λ e. (e, us)) (letter_elem u) x k in
          let is = letter_takes u found.0 found.1 in
          subst (λ (z : Elem × List ℕ). IsElemAt (u ∷ us) z) found.2 (record { parts = ap (λ (z : List ℕ). z ++ us) (sym is.text); fits = is.fits })
    ] in
    class (u == 76) refl e

no_end : (name : List ℕ) → list_all (λ u. not (u == 59) && not (u == 91)) name ≡ true → AllByRecursion (λ u. (u == 59) ≡ false) name
no_end [] h = tt
no_end (u ∷ name) h =
    let all = and_parts (not (u == 59) && not (u == 91)) (list_all (λ u. not (u == 59) && not (u == 91)) name) h in
    let one = and_parts (not (u == 59)) (not (u == 91)) all.0 in
    (not_true (u == 59) one.0, no_end name all.1)

name_again : (name rest : List ℕ) → is_class_name name ≡ true → name_at (name ++ 59 ∷ rest) ≡ Some (Object name, rest)
name_again name rest h =
    let units = (and_parts (nat_lt 0 (length name)) (list_all (λ u. not (u == 59) && not (u == 91)) name) h).1 in
    rw (position_behind (λ u. u == 59) name 59 rest (no_end name units) refl, take-append_seam name (59 ∷ rest), h, drop_behind name 59 rest) refl

elem_again : (e : Elem) (rest : List ℕ) → IsElem e → elem_at (elem_text e ++ rest) ≡ Some (e, rest)
unfolding elem_at
elem_again Byte rest h = refl
elem_again Char rest h = refl
elem_again Double rest h = refl
elem_again Float rest h = refl
elem_again Int rest h = refl
elem_again Long rest h = refl
elem_again Short rest h = refl
elem_again Boolean rest h = refl
elem_again (Object name) rest h = ap name_at (append_assoc name (59 ∷ []) rest) ∙ name_again name rest h

-- ---- descriptors

-- a descriptor at the front of a text, and what follows it
pub record IsDescAt (us : List ℕ) (x : Desc × List ℕ) : Type 0 where
  pub parts : us ≡ desc_text x.0 ++ x.1
  pub fits : IsDesc x.0

pub desc_takes : (us : List ℕ) (x : Desc × List ℕ) → desc_at us ≡ Some x → IsDescAt us x
unfolding desc_at
desc_takes us x e =
    let n = then_some _ (position (λ u. not (u == 91)) us) x e in
    let place = position-Some (λ u. not (u == 91)) us n.0 0 n.1 in
    let few = if_some (nat_lt n.0 256) _ x n.2 in
    let found = map_some _ (elem_at (drop n.0 us)) x few.1 in
    let elem = elem_takes (drop n.0 us) found.0 found.1 in
    let brackets : take n.0 us ≡ replicate n.0 91 = take_replicate n.0 91 us (omega (arith, place.0)) (λ k lt. eqb-true (get_or us k 0) 91 (not_false (get_or us k 0 == 91) (place.2 k lt))) in
    let parts : us ≡ replicate n.0 91 ++ elem_text found.0.0 ++ found.0.1 =
    sym (take-append-drop n.0 us) ∙ ap (λ (z : List ℕ). z ++ drop n.0 us) brackets ∙ ap (λ (z : List ℕ). replicate n.0 91 ++ z) elem.parts ∙ sym (append_assoc (replicate n.0 91) (elem_text found.0.0) found.0.1) in
    subst (λ (z : Desc × List ℕ). IsDescAt us z) found.2 (record { parts = parts; fits = record { dims = grind (arith, nat_tests); elem = elem.fits } })

pub record IsHead (e : Elem) : Type 0 where
  pub unit : ℕ
  pub rest : List ℕ
  pub text : elem_text e ≡ unit ∷ rest
  pub not_bracket : not (unit == 91) ≡ true

pub elem_head : (e : Elem) → IsHead e
elem_head Byte = record { unit = 66; rest = []; text = refl; not_bracket = refl }
elem_head Char = record { unit = 67; rest = []; text = refl; not_bracket = refl }
elem_head Double = record { unit = 68; rest = []; text = refl; not_bracket = refl }
elem_head Float = record { unit = 70; rest = []; text = refl; not_bracket = refl }
elem_head Int = record { unit = 73; rest = []; text = refl; not_bracket = refl }
elem_head Long = record { unit = 74; rest = []; text = refl; not_bracket = refl }
elem_head Short = record { unit = 83; rest = []; text = refl; not_bracket = refl }
elem_head Boolean = record { unit = 90; rest = []; text = refl; not_bracket = refl }
elem_head (Object name) = record { unit = 76; rest = name ++ 59 ∷ []; text = refl; not_bracket = refl }

bracket_place : (n : ℕ) (e : Elem) (rest : List ℕ) → position (λ u. not (u == 91)) (replicate n 91 ++ (elem_text e ++ rest)) ≡ Some n
bracket_place n e rest =
    let head = elem_head e in
    ap (λ (z : List ℕ). position (λ u. not (u == 91)) (replicate n 91 ++ (z ++ rest))) head.text
    ∙ position_behind (λ u. not (u == 91)) (replicate n 91) head.unit (head.rest ++ rest) (all_replicate (λ u. not (u == 91) ≡ false) n 91 refl) head.not_bracket
    ∙ ap Some (length-replicate n 91)

drop_brackets : (n : ℕ) (us : List ℕ) → drop n (replicate n 91 ++ us) ≡ us
drop_brackets n us = ap (λ k. drop k (replicate n 91 ++ us)) (sym (length-replicate n 91)) ∙ drop-append_seam (replicate n 91) us

pub desc_again : (d : Desc) (rest : List ℕ) → IsDesc d → desc_at (desc_text d ++ rest) ≡ Some (d, rest)
unfolding desc_at
desc_again d rest fits =
    let few : nat_lt d.dims 256 ≡ true = grind (arith, fits.dims) in
    rw (append_assoc (replicate d.dims 91) (elem_text d.elem) rest, bracket_place d.dims d.elem rest, few, drop_brackets d.dims (elem_text d.elem ++ rest), elem_again d.elem rest fits.elem) refl

pub is_empty : (us : List ℕ) → (length us == 0) ≡ true → us ≡ []
is_empty [] h = refl
is_empty (u ∷ us) h = absurd (grind (arith, nat_tests))

pub desc_of_takes : (us : List ℕ) (d : Desc) → desc_of us ≡ Some d → IsDesc d × (us ≡ desc_text d)
unfolding desc_of
desc_of_takes us d e =
    let x = then_some whole (desc_at us) d e in
    let end = if_some (length x.0.1 == 0) (Some x.0.0) d x.2 in
    let at = desc_takes us x.0 x.1 in
    let parts : us ≡ desc_text x.0.0 = at.parts ∙ ap (λ (z : List ℕ). desc_text x.0.0 ++ z) (is_empty x.0.1 end.0) ∙ append-nil (desc_text x.0.0) in
    subst (λ (z : Desc). IsDesc z × (us ≡ desc_text z)) (some_is x.0.0 d end.1) (at.fits, parts)

pub desc_of_again : (d : Desc) → IsDesc d → desc_of (desc_text d) ≡ Some d
unfolding desc_of
desc_of_again d fits = ap (λ (z : List ℕ). option_and_then whole (desc_at z)) (sym (append-nil (desc_text d))) ∙ ap (option_and_then whole) (desc_again d [] fits)

pub desc_reader : IsReader desc_of desc_text IsDesc
desc_reader = record { takes = desc_of_takes; again = desc_of_again }
