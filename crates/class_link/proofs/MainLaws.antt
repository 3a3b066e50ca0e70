-- The main method is found exactly where a file declares it.
use Rattle.std.proofs.Common.{◌≡◌, ℕ, ◌+◌, ◌<◌, Bool, true, false, cond, ◌||◌, List, [], ◌∷◌, ◌++◌, Option, Some, None, length, position, slice_get, refl, sym, ap, ◌∙◌, subst, arith, suc}
use Rattle.std.specs.Prelude.{is_some, option_map, nat_lt, if◌then◌else◌}
use Rattle.std.specs.List.{list_any, position_or_len}
use Rattle.std.proofs.lemmas.Bool.{lt-ltb}
use Rattle.std.proofs.lemmas.List.Quantifiers.{position-Some}
use Rattle.jvm_base.specs.Words.{from}
use Rattle.jvm_base.proofs.Options.{and_parts}
use Rattle.boot_table.specs.Files.{boot_files}
use Rattle.class_format.specs.declared.class.ClassFile.{ClassFile}
use Rattle.class_names.specs.Known.{is_name}
use Rattle.class_names.specs.Classes.{this_name}
use Rattle.link_rules.specs.declared.error.LinkErr.TheVariants.{Bad}
use Rattle.link_rules.specs.declared.error.LinkWhy.TheVariants.{NoMain}
use Rattle.link_rules.specs.Numbers.{methods_at}
use Rattle.link_uses.specs.declared.lookup.Found.{Found}
use Rattle.class_link.specs.Mains.{is_main, declares_main, main_in, main_from, main_found, no_main, main_name}
use Rattle.class_link.proofs.BootLaws.{boot_count}
use Rattle.class_link.proofs.Falling.{one_more}

-- an item that passes has a place
placed : {X : Type 0} (p : X → Bool) (xs : List X) → list_any p xs ≡ true → position_or_len p xs < length xs
placed p [] e = absurd cc
placed p (x ∷ xs) e = one_more (p x) (list_any p xs) (position_or_len p xs) (length xs) e (placed p xs)

found_in : (number : ℕ) (f : ClassFile) → list_any (is_main f) f.methods ≡ true → is_some (main_in number f) ≡ true
found_in number f e =
    let place : ℕ = position_or_len (is_main f) f.methods in
    let g : ℕ → Found = λ i. record { class = number; place = i } in
    let at : nat_lt place (length f.methods) ≡ true = lt-ltb place (length f.methods) (placed (is_main f) f.methods e) in
    ap (λ b. is_some (option_map g (cond b (Some place) None))) at

chosen : (b any : Bool) (x y : Option Found) → (b || any) ≡ true → (b ≡ true → is_some x ≡ true) → (any ≡ true → is_some y ≡ true) → is_some (if b then x else y) ≡ true
chosen true any x y e h k = h refl
chosen false any x y e h k = k e

declared : (first : ℕ) (main : List ℕ) (files : List ClassFile) → list_any (declares_main main) files ≡ true → is_some (main_from first main files) ≡ true
declared first main [] e = absurd cc
declared first main (f ∷ files) e =
    chosen (declares_main main f) (list_any (declares_main main) files) (main_in first f) (main_from (first + 1) main files) e
    (λ h. found_in first f (and_parts (is_name main (this_name f)) (list_any (is_main f) f.methods) h).1)
    (declared (first + 1) main files)

none_declared : (b : Bool) (o : Option Found) → o ≡ None → (b ≡ true → is_some o ≡ true) → b ≡ false
none_declared true None e h = let s = h refl in absurd cc
none_declared true (Some x) e h = absurd cc
none_declared false o e h = refl

-- where it isn't found, the main class is refused
pub no_main_found : (files : List ClassFile) (main : List ℕ) → main_found files main ≡ None → no_main files main ≡ Bad NoMain main main_name ∷ []
no_main_found files main e =
    let none = none_declared (list_any (declares_main main) files) (main_found files main) e (declared 34 main files) in
    ap (λ b. if b then [] else Bad NoMain main main_name ∷ []) none

back : (b any : Bool) (o p : Option Found) (x : Found) → (if b then o else p) ≡ Some x → (p ≡ Some x → any ≡ true) → (b || any) ≡ true
back true any o p x e h = refl
back false any o p x e h = h e

is_declared : (first : ℕ) (main : List ℕ) (files : List ClassFile) (x : Found) → main_from first main files ≡ Some x → list_any (declares_main main) files ≡ true
is_declared first main [] x e = absurd cc
is_declared first main (f ∷ files) x e =
    back (declares_main main f) (list_any (declares_main main) files) (main_in first f) (main_from (first + 1) main files) x e (is_declared (first + 1) main files x)

-- and where it's found it isn't
pub main_is_declared : (files : List ClassFile) (main : List ℕ) (x : Found) → main_found files main ≡ Some x → no_main files main ≡ []
main_is_declared files main x e =
    ap (λ b. if b then [] else Bad NoMain main main_name ∷ []) (is_declared 34 main files x e)

-- ---- where it is

record IsWithin (first : ℕ) (files : List ClassFile) (x : Found) : Type 0 where
  number : ℕ
  file : ClassFile
  class : x.class ≡ first + number
  declares : slice_get files number ≡ Some file
  place : x.place < length file.methods

in_file : (number : ℕ) (f : ClassFile) (x : Found) (o : Option ℕ) → position (is_main f) f.methods ≡ o → option_map (λ i. record { class = number; place = i }) o ≡ Some x → (x.class ≡ number) × (x.place < length f.methods)
in_file number f x None p e = absurd cc
in_file number f x (Some i) p e =
    let class : number ≡ x.class = ap (from 0 (λ (y : Found). y.class)) e in
    let place : i ≡ x.place = ap (from 0 (λ (y : Found). y.place)) e in
    let inside = elim f.methods as (λ ms. position (is_main f) ms ≡ Some i → i < length ms) [ [] ↦ λ h. absurd cc | m ∷ ms ↦ λ h. (position-Some (is_main f) (m ∷ ms) i m h).0 ] in
    (sym class, subst (λ n. n < length f.methods) place (inside p))

one_of : (first : ℕ) (f : ClassFile) (files : List ClassFile) (x : Found) (b : Bool) (rest : Option Found) → (if b then main_in first f else rest) ≡ Some x → (rest ≡ Some x → IsWithin (first + 1) files x) → IsWithin first (f ∷ files) x
one_of first f files x true rest e h =
    let at = in_file first f x _ refl e in
    record { number = 0; file = f; class = let c = at.0 in omega arith; declares = refl; place = at.1 }
one_of first f files x false rest e h =
    let w = h e in
    record { number = suc w.number; file = w.file; class = let c = w.class in omega arith; declares = w.declares; place = w.place }

within : (first : ℕ) (main : List ℕ) (files : List ClassFile) (x : Found) → main_from first main files ≡ Some x → IsWithin first files x
within first main [] x e = absurd cc
within first main (f ∷ files) x e =
    one_of first f files x (declares_main main f) (main_from (first + 1) main files) e (within (first + 1) main files x)

behind : (xs ys : List ClassFile) (i : ℕ) → slice_get (xs ++ ys) (length xs + i) ≡ slice_get ys i
behind [] ys i = let n : length {A = ClassFile} [] + i ≡ i = omega arith in ap (slice_get ys) n
behind (x ∷ xs) ys i =
    let n : length (x ∷ xs) + i ≡ suc (length xs + i) = omega arith in
    ap (slice_get ((x ∷ xs) ++ ys)) n ∙ behind xs ys i

-- the method has a place in its class
pub main_within : (files : List ClassFile) (main : List ℕ) (x : Found) → main_found files main ≡ Some x → x.place < length (methods_at (boot_files ++ files) x.class)
main_within files main x e =
    let w = within 34 main files x e in
    let count = boot_count in
    let n : x.class ≡ length boot_files + w.number = let c = w.class in omega arith in
    let at : slice_get (boot_files ++ files) x.class ≡ Some w.file = ap (slice_get (boot_files ++ files)) n ∙ behind boot_files files w.number ∙ w.declares in
    subst (λ o. x.place < length (from [] (λ (f : ClassFile). f.methods) o)) (sym at) w.place
