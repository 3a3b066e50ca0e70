-- What lies directly above the boot classes, found by computing.
use Rattle.std.proofs.Common.{◌≡◌, ◌∙◌, ap, subst, refl, ℕ, zero, suc, ◌<◌, ◌==◌, Bool, true, false, not, List, [], ◌∷◌, ◌++◌, length, map, slice_get, position, Option, Some, arith}
use Rattle.std.specs.Prelude.{◌&&◌, ◌||◌, option_map}
use Rattle.std.specs.List.{list_all}
use Rattle.std.specs.Option.{is_some}
use Rattle.std.proofs.lemmas.Bool.Decides.{nat_tests}
use Rattle.std.proofs.lemmas.List.{map-append}
use Rattle.jvm_base.specs.Words.{from}
use Rattle.jvm_base.proofs.Options.{and_parts}
use Rattle.boot_table.specs.Files.{boot_files}
use Rattle.boot_table.specs.Table.{boot_rows, first_rows, exceptions}
use Rattle.class_format.specs.Flags.{is_interface, is_final}
use Rattle.class_format.specs.declared.class.ClassFile.{ClassFile}
use Rattle.class_names.specs.Classes.{this_name, super_text, interface_texts}
use Rattle.class_names.specs.Known.{is_name}
use Rattle.class_names.specs.Texts.{object_name}
use Rattle.link_rules.specs.Numbers.{number_of, flags_at, flags_of}
use Rattle.typed_classes.specs.Tables.{is_closed}
use Rattle.linked_classes.proofs.Positions.{position_front}

-- a superclass among the boot classes: it is there, no interface and not final
abbrev pub is_open : List ℕ → Bool
is_open text =
    is_some (number_of boot_files text)
    && (not (is_interface (flags_of boot_files text)) && not (is_final (flags_of boot_files text)))

-- an interface among them
abbrev pub is_listed : List ℕ → Bool
is_listed text = is_some (number_of boot_files text) && is_interface (flags_of boot_files text)

-- what a boot class names above itself: Object alone is above an interface
abbrev pub is_right : ClassFile → Bool
is_right f =
    from true (λ text. is_open text && (not (is_interface f.flags) || is_name object_name text)) (super_text f)
    && list_all is_listed (interface_texts f)

pub boot_right : list_all is_right boot_files ≡ true
unfolding boot_files boot_rows first_rows exceptions
boot_right = refl

pub boot_count : length boot_files ≡ 34
unfolding boot_files boot_rows first_rows exceptions
boot_count = refl

-- Object is the first
pub boot_object : number_of boot_files object_name ≡ Some 0
unfolding boot_files boot_rows first_rows exceptions
boot_object = refl

-- it is no interface, and may have subclasses
pub boot_root : (is_interface (flags_at boot_files 0) ≡ false) × (is_final (flags_at boot_files 0) ≡ false)
unfolding boot_files boot_rows first_rows exceptions
boot_root = (refl, refl)

-- Class, String and StringBuffer are final, and right below it
abbrev IsSealed : ℕ → Type 0
IsSealed c = (is_final (flags_at boot_files c) ≡ true) × (option_map super_text (slice_get boot_files c) ≡ Some (Some object_name))

sealed_class : IsSealed 1
unfolding boot_files boot_rows first_rows exceptions
sealed_class = (refl, refl)

sealed_string : IsSealed 2
unfolding boot_files boot_rows first_rows exceptions
sealed_string = (refl, refl)

sealed_buffer : IsSealed 3
unfolding boot_files boot_rows first_rows exceptions
sealed_buffer = (refl, refl)

pub boot_sealed : (c : ℕ) → is_closed c ≡ true → IsSealed c
boot_sealed c e = by_tests (c == 1) refl (c == 3) refl (c == 2) refl e
  where
    by_tests : (x : Bool) → (c == 1) ≡ x → (y : Bool) → (c == 3) ≡ y → (z : Bool) → (c == 2) ≡ z → (x || (y || z)) ≡ true → IsSealed c
    by_tests true p y q z r h = let s : 1 ≡ c = grind (arith, nat_tests) in subst IsSealed s sealed_class
    by_tests false p true q z r h = let s : 3 ≡ c = grind (arith, nat_tests) in subst IsSealed s sealed_buffer
    by_tests false p false q true r h = let s : 2 ≡ c = grind (arith, nat_tests) in subst IsSealed s sealed_string
    by_tests false p false q false r h = absurd cc

-- ---- the same among all classes

-- what lies in the front of a list
pub front_at : {A : Type 0} (xs ys : List A) (i : ℕ) → i < length xs → slice_get (xs ++ ys) i ≡ slice_get xs i
front_at [] ys i l = absurd (omega arith)
front_at (x ∷ xs) ys zero l = refl
front_at (x ∷ xs) ys (suc i) l = front_at xs ys i (omega arith)

pub number_front : (files : List ClassFile) (text : List ℕ) (k : ℕ) → number_of boot_files text ≡ Some k → number_of (boot_files ++ files) text ≡ Some k
number_front files text k e =
    ap (position (is_name text)) (map-append this_name boot_files files)
    ∙ position_front (is_name text) (map this_name boot_files) (map this_name files) k e

-- the flags of a boot class
pub flags_front : (files : List ClassFile) (k : ℕ) → k < 34 → flags_at (boot_files ++ files) k ≡ flags_at boot_files k
flags_front files k l = let n = boot_count in ap (λ (o : Option ClassFile). from 0 (λ f. f.flags) o) (front_at boot_files files k (omega arith))

-- a test that each passes
pub tested_at : {A : Type 0} (test : A → Bool) (xs : List A) → list_all test xs ≡ true → (i : ℕ) (x : A) → slice_get xs i ≡ Some x → test x ≡ true
tested_at test [] h i x e = absurd cc
tested_at test (y ∷ ys) h zero x e = let s : y ≡ x = cc in subst (λ z. test z ≡ true) s (and_parts (test y) (list_all test ys) h).0
tested_at test (y ∷ ys) h (suc i) x e = tested_at test ys (and_parts (test y) (list_all test ys) h).1 i x e
