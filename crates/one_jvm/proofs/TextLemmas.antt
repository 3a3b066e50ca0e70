-- Methods counted through classes.
use Rattle.std.proofs.Common.{◌≡◌, ℕ, zero, suc, ◌+◌, ◌≤◌, ◌<◌, List, [], ◌∷◌, ◌++◌, length, take, get_or, Some, None, Result, Ok, Err, refl, ap, subst, ◌∙◌, append-nil, arith}
use Rattle.std.specs.Prelude.{slice_get, option_map, not, MatchResult}
use Rattle.std.specs.List.{flat_map, sum_by, All}
use Rattle.std.proofs.lemmas.List.{length-append, length-map, take_more}
use Rattle.std.proofs.lemmas.Grind.{flat_map-append}
use Rattle.std.proofs.lemmas.List.Filters.{length-filter_both}
use Rattle.std.proofs.lemmas.List.Sums.{sum_by-append}
use Rattle.std.proofs.lemmas.Option.{slice_get-map, slice_get_within, slice_get-get_or, get_or_from_slice_get}
use Rattle.acceptance.proofs.TreeLaws.{front_at, back_at}
use Rattle.class_format.specs.declared.class.ClassFile.{ClassFile}
use Rattle.class_format.specs.declared.class.MethodItem.{MethodItem}
use Rattle.class_format.specs.Meaning.{IsClass}
use Rattle.class_link.proofs.Small.{methods_short}
use Rattle.link_rules.specs.Sizes.{HasFewMethods}
use Rattle.one_jvm.specs.Outcomes.{coded_methods, has_code, method_texts, whole_text}

-- one item more of a front
one_more : {A : Type 0} (xs : List A) (i : ℕ) (x : A) → slice_get xs i ≡ Some x → take (i + 1) xs ≡ take i xs ++ x ∷ []
one_more xs i x at = take_more xs i x (slice_get_within xs i x at) ∙ ap (λ (z : _). take i xs ++ z ∷ []) (get_or_from_slice_get xs i x x at)

-- where nothing is, the list ends
pub past_of : {A : Type 0} (xs : List A) (k : ℕ) → slice_get xs k ≡ None → length xs ≤ k
past_of [] k e = omega arith
past_of (x ∷ xs) zero e = absurd cc
past_of (x ∷ xs) (suc k) e = let l = past_of xs k e in omega arith

-- what is made of one item more
pub map_more : {A : Type 0} (g : A → List ℕ) (xs : List A) (i : ℕ) (x : A) → slice_get xs i ≡ Some x → flat_map g (take (i + 1) xs) ≡ flat_map g (take i xs) ++ g x
map_more {A} g xs i x at =
    ap (λ (z : List A). flat_map g z) (one_more xs i x at) ∙ flat_map-append g (take i xs) (x ∷ []) ∙ ap (λ (z : List ℕ). flat_map g (take i xs) ++ z) (append-nil (g x))

-- the same where an item is read by its place
pub map_more_at : {A : Type 0} (g : A → List ℕ) (xs : List A) (i : ℕ) (d : A) → i < length xs → flat_map g (take (i + 1) xs) ≡ flat_map g (take i xs) ++ g (get_or xs i d)
map_more_at g xs i d lt = map_more g xs i (get_or xs i d) (slice_get-get_or xs i d lt)

-- so many texts have the methods of one class more
pub more_texts : (classes : List ClassFile) (i : ℕ) (f : ClassFile) → slice_get classes i ≡ Some f → length (flat_map method_texts (take (i + 1) classes)) ≡ length (flat_map method_texts (take i classes)) + length f.methods
more_texts classes i f at =
    ap (λ (z : List ClassFile). length (flat_map method_texts z)) (one_more classes i f at)
    ∙ ap length (flat_map-append method_texts (take i classes) (f ∷ []))
    ∙ omega (arith, length-append (flat_map method_texts (take i classes)) (flat_map method_texts (f ∷ [])), length-append (method_texts f) [], length-map f.methods (whole_text f))

-- the lists of the first items stand in front
item_behind : {A B : Type 0} (g : A → List B) (xs : List A) (i : ℕ) (x : A) (k : ℕ) (y : B) → slice_get xs i ≡ Some x → slice_get (g x) k ≡ Some y → slice_get (flat_map g xs) (length (flat_map g (take i xs)) + k) ≡ Some y
item_behind g [] i x k y at e = absurd cc
item_behind g (a ∷ xs) zero x k y at e =
    let same : a ≡ x = cc in
    let here : slice_get (g a) k ≡ Some y = ap (λ z. slice_get (g z) k) same ∙ e in
    let from_zero : 0 + k ≡ k = omega arith in
    ap (slice_get (g a ++ flat_map g xs)) from_zero ∙ front_at (g a) (flat_map g xs) k (slice_get_within (g a) k y here) ∙ here
item_behind g (a ∷ xs) (suc i) x k y at e =
    let place : length (g a ++ flat_map g (take i xs)) + k ≡ length (g a) + (length (flat_map g (take i xs)) + k) = omega (arith, length-append (g a) (flat_map g (take i xs))) in
    ap (slice_get (g a ++ flat_map g xs)) place ∙ back_at (g a) (flat_map g xs) (length (flat_map g (take i xs)) + k) ∙ item_behind g xs i x k y at e

-- the text of a method of the class at a place
pub text_there : (classes : List ClassFile) (i : ℕ) (f : ClassFile) (k number : ℕ) (m : MethodItem) → slice_get classes i ≡ Some f → slice_get f.methods k ≡ Some m → number ≡ length (flat_map method_texts (take i classes)) + k → slice_get (flat_map method_texts classes) number ≡ Some (whole_text f m)
text_there classes i f k number m at has place =
    ap (slice_get (flat_map method_texts classes)) place
    ∙ item_behind method_texts classes i f k (whole_text f m) at (slice_get-map (whole_text f) f.methods k ∙ ap (option_map (whole_text f)) has)

-- a text among those of the first classes
pub text_first : (first second : List ClassFile) (number : ℕ) (text : List ℕ) → slice_get (flat_map method_texts first) number ≡ Some text → slice_get (flat_map method_texts (first ++ second)) number ≡ Some text
text_first first second number text at =
    ap (λ (z : List (List ℕ)). slice_get z number) (flat_map-append method_texts first second)
    ∙ front_at (flat_map method_texts first) (flat_map method_texts second) number (slice_get_within (flat_map method_texts first) number text at) ∙ at

-- or among those of the others
pub text_second : (first second : List ClassFile) (number rest : ℕ) (text : List ℕ) → number ≡ length (flat_map method_texts first) + rest → slice_get (flat_map method_texts second) rest ≡ Some text → slice_get (flat_map method_texts (first ++ second)) number ≡ Some text
text_second first second number rest text place at =
    ap (slice_get (flat_map method_texts (first ++ second))) place
    ∙ ap (λ (z : List (List ℕ)). slice_get z (length (flat_map method_texts first) + rest)) (flat_map-append method_texts first second)
    ∙ back_at (flat_map method_texts first) (flat_map method_texts second) rest ∙ at

-- behind both
pub text_past : (first second : List ClassFile) (number rest more : ℕ) → number ≡ length (flat_map method_texts first) + rest → rest ≡ length (flat_map method_texts second) + more → number ≡ length (flat_map method_texts (first ++ second)) + more
text_past first second number rest more a b =
    omega (arith, a, b, ap length (flat_map-append method_texts first second), length-append (flat_map method_texts first) (flat_map method_texts second))

-- what is found among the others, or behind both
pub text_behind : {R : Type 0} (first second : List ClassFile) (number rest : ℕ) (text : R → List ℕ) (r : Result R ℕ) → number ≡ length (flat_map method_texts first) + rest
    → MatchResult r (λ x. slice_get (flat_map method_texts second) rest ≡ Some (text x)) (λ more. rest ≡ length (flat_map method_texts second) + more)
    → MatchResult r (λ x. slice_get (flat_map method_texts (first ++ second)) number ≡ Some (text x)) (λ more. number ≡ length (flat_map method_texts (first ++ second)) + more)
text_behind first second number rest text (Ok x) place at = text_second first second number rest (text x) place at
text_behind first second number rest text (Err more) place at = text_past first second number rest more place at

-- ---- methods with code

-- a class has no more methods with code than methods
few_coded : (f : ClassFile) → coded_methods f ≤ length f.methods
few_coded f = let both = length-filter_both has_code (λ m. not (has_code m)) (λ m. refl) f.methods in omega arith

-- which are less than 65,536
pub coded_short : (classes : List ClassFile) (i : ℕ) (f : ClassFile) → All IsClass classes → slice_get classes i ≡ Some f → coded_methods f ≤ 65535
coded_short classes i f formed at =
    let few : HasFewMethods (get_or classes i f) = methods_short classes formed i f (slice_get_within classes i f at) in
    let here : HasFewMethods f = subst HasFewMethods (get_or_from_slice_get classes i f f at) few in
    let le = few_coded f in
    omega arith

-- one class more
pub more_coded : (classes : List ClassFile) (i : ℕ) (f : ClassFile) → slice_get classes i ≡ Some f → sum_by coded_methods (take (i + 1) classes) ≡ sum_by coded_methods (take i classes) + coded_methods f
more_coded classes i f at =
    ap (sum_by coded_methods) (one_more classes i f at) ∙ sum_by-append coded_methods (take i classes) (f ∷ []) ∙ omega arith
