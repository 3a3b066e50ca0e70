-- Where each class stands behind what lies above it, it does so whatever classes follow.
use Rattle.std.proofs.Common.{◌≡◌, ℕ, ◌+◌, ◌<◌, Bool, true, false, not, cond, ◌||◌, List, [], ◌∷◌, ◌++◌, Option, Some, None, map, length, position, ap, sym, ◌∙◌, refl, arith, zero, suc, append_assoc}
use Rattle.std.specs.Prelude.{◌&&◌}
use Rattle.std.specs.List.{AllByRecursion, Contains, filter_map, cons_option, list_all, list_any, position_or_len}
use Rattle.std.specs.Option.{option_to_list}
use Rattle.std.proofs.lemmas.List.{length-append}
use Rattle.std.proofs.lemmas.List.Elements.{All-contains}
use Rattle.jvm_base.proofs.Options.{and_parts}
use Rattle.class_format.specs.declared.class.ClassFile.{ClassFile}
use Rattle.class_format.proofs.Recursion.{all_of}
use Rattle.class_names.specs.Known.{is_name, is_known}
use Rattle.class_names.specs.Classes.{this_name, super_text, interface_texts}
use Rattle.hierarchy.specs.Hierarchy.{row_of}
use Rattle.link_rules.specs.Numbers.{number_of, super_row, interface_row}

-- each class's superclass and interfaces are among the classes before it
abbrev pub are_falling : List (List ℕ) → List ClassFile → Bool
are_falling before [] = true
are_falling before (f ∷ files) =
    (list_all (is_known before) (option_to_list (super_text f)) && list_all (is_known before) (interface_texts f))
    && are_falling (before ++ this_name f ∷ []) files

pub one_more : (b any : Bool) (n m : ℕ) → (b || any) ≡ true → (any ≡ true → n < m) → cond (not b) (1 + n) 0 < suc m
one_more true any n m e h = omega arith
one_more false any n m e h = let l = h e in omega arith

-- what one of the first items passes is passed first by one of them
passed_first : {X : Type 0} (p : X → Bool) (xs rest : List X) → list_any p xs ≡ true → position_or_len p (xs ++ rest) < length xs
passed_first p [] rest e = absurd cc
passed_first p (x ∷ xs) rest e = one_more (p x) (list_any p xs) (position_or_len p (xs ++ rest)) (length xs) e (passed_first p xs rest)

placed : (b : Bool) (n i : ℕ) → cond b (Some n) None ≡ Some i → n ≡ i
placed true n i e = cc
placed false n i e = absurd cc

-- a name among the first ones has a number among theirs
known_place : (names rest : List (List ℕ)) (t : List ℕ) (k : ℕ) → is_known names t ≡ true → position (is_name t) (names ++ rest) ≡ Some k → k < length names
known_place names rest t k known e =
    let at : position_or_len (is_name t) (names ++ rest) ≡ k = placed _ _ k e in
    let low = passed_first (is_name t) names rest known in omega arith

in_front : (n : ℕ) (o : Option ℕ) (rest : List ℕ) → ((k : ℕ) → o ≡ Some k → k < n) → AllByRecursion (λ k. k < n) rest → AllByRecursion (λ k. k < n) (cons_option o rest)
in_front n None rest w r = r
in_front n (Some k) rest w r = (w k refl, r)

texts_fall : (all : List ClassFile) (before rest : List (List ℕ)) (texts : List (List ℕ)) → map this_name all ≡ before ++ rest → list_all (is_known before) texts ≡ true → AllByRecursion (λ k. k < length before) (filter_map (number_of all) texts)
texts_fall all before rest [] e known = tt
texts_fall all before rest (t ∷ ts) e known =
    let parts = and_parts (is_known before t) (list_all (is_known before) ts) known in
    in_front (length before) (number_of all t) (filter_map (number_of all) ts)
    (λ k n. known_place before rest t k parts.0 (ap (position (is_name t)) (sym e) ∙ n))
    (texts_fall all before rest ts e parts.1)

joined : (n : ℕ) (xs ys : List ℕ) → AllByRecursion (λ k. k < n) xs → AllByRecursion (λ k. k < n) ys → AllByRecursion (λ k. k < n) (xs ++ ys)
joined n [] ys p q = q
joined n (x ∷ xs) ys p q = (p.0, joined n xs ys p.1 q)

row_falls : (all : List ClassFile) (before rest : List (List ℕ)) (f : ClassFile) (k : ℕ) → map this_name all ≡ before ++ rest → (list_all (is_known before) (option_to_list (super_text f)) && list_all (is_known before) (interface_texts f)) ≡ true → Contains (super_row all f ++ interface_row all f) k → k < length before
row_falls all before rest f k e known w =
    let parts = and_parts (list_all (is_known before) (option_to_list (super_text f))) (list_all (is_known before) (interface_texts f)) known in
    let row : List ℕ = super_row all f ++ interface_row all f in
    let P : ℕ → Type 0 = λ j. j < length before in
    All-contains P row k
    (all_of P row
    (joined (length before) (super_row all f) (interface_row all f)
    (texts_fall all before rest (option_to_list (super_text f)) e parts.0)
    (texts_fall all before rest (interface_texts f) e parts.1)))
    w

-- the class at c of those that stand so has only lower numbers above it
pub rows_fall : (all : List ClassFile) (before : List (List ℕ)) (files rest : List ClassFile) (c k : ℕ) → map this_name all ≡ before ++ map this_name (files ++ rest) → are_falling before files ≡ true → c < length files → Contains (row_of (map (λ f. super_row all f ++ interface_row all f) (files ++ rest)) c) k → k < length before + c
rows_fall all before [] rest c k e known lt w = absurd (omega arith)
rows_fall all before (f ∷ files) rest zero k e known lt w =
    let parts = and_parts (list_all (is_known before) (option_to_list (super_text f)) && list_all (is_known before) (interface_texts f)) (are_falling (before ++ this_name f ∷ []) files) known in
    let low = row_falls all before (map this_name ((f ∷ files) ++ rest)) f k e parts.0 w in omega arith
rows_fall all before (f ∷ files) rest (suc c) k e known lt w =
    let parts = and_parts (list_all (is_known before) (option_to_list (super_text f)) && list_all (is_known before) (interface_texts f)) (are_falling (before ++ this_name f ∷ []) files) known in
    let one : length (before ++ this_name f ∷ []) ≡ length before + 1 = length-append before (this_name f ∷ []) in
    let rows = rows_fall all (before ++ this_name f ∷ []) files rest c k (e ∙ sym (append_assoc before (this_name f ∷ []) (map this_name (files ++ rest)))) parts.1 (omega arith) w in
    omega arith
