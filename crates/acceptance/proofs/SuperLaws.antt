-- Where linking refuses nothing, each class but Object has a superclass that is there.
use Rattle.std.proofs.Common.{◌≡◌, ◌∙◌, sym, ap, subst, refl, ℕ, zero, suc, ◌+◌, ◌-◌, ◌<◌, true, false, not, Bool, List, [], ◌∷◌, ◌++◌, length, map, slice_get, Option, Some, None, is_some, inl, inr, cond, arith, if◌then◌else◌}
use Rattle.std.specs.Prelude.{option_and_then, option_map, ◌||◌, ◌&&◌, drop}
use Rattle.std.specs.List.{flat_map, list_all, list_any, position_or_len}
use Rattle.std.specs.Option.{option_to_list}
use Rattle.std.proofs.lemmas.Bool.{or_left}
use Rattle.std.proofs.lemmas.List.Folds.{list_any-append}
use Rattle.std.proofs.lemmas.List.{map-append}
use Rattle.std.proofs.lemmas.Grind.{flat_map-append}
use Rattle.jvm_base.specs.Descriptors.{desc_of}
use Rattle.jvm_base.proofs.Options.{and_parts}
use Rattle.class_format.specs.Flags.{is_interface}
use Rattle.jvm_base.specs.Words.{from}
use Rattle.boot_table.specs.Files.{boot_files}
use Rattle.boot_table.specs.Table.{boot_rows, first_rows, exceptions}
use Rattle.class_format.specs.declared.class.ClassFile.{ClassFile}
use Rattle.class_names.specs.Classes.{this_name, super_text}
use Rattle.class_names.specs.Known.{is_name, is_known}
use Rattle.class_names.specs.Named.{named_by, class_names, desc_names}
use Rattle.class_names.specs.Texts.{is_array, object_name}
use Rattle.link_rules.specs.Answers.{refused_if}
use Rattle.link_rules.specs.Classes.{missing, no_class, wrong_super, wrong_above}
use Rattle.link_rules.specs.declared.error.LinkWhy.TheVariants.{NoClass, WrongKind}
use Rattle.link_rules.specs.Numbers.{number_of, flags_of}
use Rattle.link_members.proofs.LoopLaws.{parts_none}
use Rattle.numbering.proofs.Places.{at_position}
use Rattle.link_image.specs.Classes.{super_number}
use Rattle.class_link.specs.Mains.{first_number}
use Rattle.class_link.specs.Refusals.{name_refusals, above_refusals, rule_refusals, link_refusals}
use Rattle.acceptance.proofs.TreeLaws.{front_at, back_at}
use Rattle.flow_types.proofs.TreeLaws.{cases_lt}

-- what one item passes is passed first by one of them
passes_within : {A : Type 0} (p : A → Bool) (xs : List A) → list_any p xs ≡ true → position_or_len p xs < length xs
passes_within p [] e = absurd cc
passes_within p (x ∷ xs) e = by (p x) e (passes_within p xs)
  where
    by : (b : Bool) → (b || list_any p xs) ≡ true → (list_any p xs ≡ true → position_or_len p xs < length xs) → cond (not b) (1 + position_or_len p xs) 0 < suc (length xs)
    by true h later = omega arith
    by false h later = let l = later h in omega arith

-- a name among those of some classes has a number
known_number : (all : List ClassFile) (name : List ℕ) → is_known (map this_name all) name ≡ true → is_some (number_of all name) ≡ true
known_number all name e =
    let names : List (List ℕ) = map this_name all in
    ap is_some (at_position (is_name name) names (position_or_len (is_name name) names) refl (passes_within (is_name name) names e))

-- a number that is there
number_there : (o : Option ℕ) → is_some o ≡ true → (k : ℕ) × (o ≡ Some k)
number_there None e = absurd cc
number_there (Some k) e = (k, refl)

-- the superclass of a class whose superclass's name is known
super_there : (all : List ClassFile) (f : ClassFile) (text : List ℕ) → super_text f ≡ Some text → is_known (map this_name all) text ≡ true → (k : ℕ) × (super_number all f ≡ Some k)
super_there all f text e known =
    let n = number_there (number_of all text) (known_number all text known) in
    (n.0, ap (option_and_then (number_of all)) e ∙ n.1)

-- nothing in the whole is nothing in each part
flat_none : {A B : Type 0} (g : A → List B) (xs : List A) → flat_map g xs ≡ [] → (i : ℕ) (x : A) → slice_get xs i ≡ Some x → g x ≡ []
flat_none g [] none i x e = absurd cc
flat_none g (y ∷ ys) none zero x e = let s : y ≡ x = cc in subst (λ z. g z ≡ []) s (parts_none (g y) (flat_map g ys) none).0
flat_none g (y ∷ ys) none (suc i) x e = flat_none g ys (parts_none (g y) (flat_map g ys) none).1 i x e

-- ---- files

-- a refusal isn't made where the test fails
not_refused : (b : Bool) (f : ClassFile) (name : List ℕ) → refused_if b WrongKind f name ≡ [] → b ≡ false
not_refused true f name e = absurd cc
not_refused false f name e = refl

not_missing : (names : List (List ℕ)) (f : ClassFile) (name : List ℕ) → missing names f name ≡ [] → is_known names name ≡ true
not_missing names f name e = by (is_known names name) refl e
  where
    by : (b : Bool) → is_known names name ≡ b → refused_if (not b) NoClass f name ≡ [] → is_known names name ≡ true
    by true q h = q
    by false q h = absurd cc

no_array : (a b c : Bool) → (a || (b || c)) ≡ false → a ≡ false
no_array true b c e = absurd cc
no_array false b c e = refl

-- the superclass that a file names is no array and is there
super_named : (all : List ClassFile) (names : List (List ℕ)) (f : ClassFile) → wrong_above all f ≡ [] → no_class names f ≡ [] → (text : List ℕ) × (super_text f ≡ Some text) × (is_known names text ≡ true)
unfolding class_names
super_named all names f wrong missed = by (super_text f) refl
  where
    above : wrong_super all f (super_text f) ≡ []
    above = (parts_none (wrong_super all f (super_text f)) _ wrong).0

    -- what the file names at first
    first : flat_map (missing names f) (flat_map named_by (option_to_list (super_text f))) ≡ []
    first = (parts_none (flat_map (missing names f) (flat_map named_by (option_to_list (super_text f)))) _ (sym (flat_map-append (missing names f) (flat_map named_by (option_to_list (super_text f))) _) ∙ missed)).0

    by : (o : Option (List ℕ)) → super_text f ≡ o → (text : List ℕ) × (super_text f ≡ Some text) × (is_known names text ≡ true)
    by None q = absurd (let h : wrong_super all f None ≡ [] = sym (ap (wrong_super all f) q) ∙ above in cc)
    by (Some text) q =
        let test : (is_array text || (is_interface (flags_of all text) || is_interface f.flags && not (is_name object_name text))) ≡ false = not_refused _ f text (sym (ap (wrong_super all f) q) ∙ above) in
        let plain : is_array text ≡ false = no_array (is_array text) (is_interface (flags_of all text)) (is_interface f.flags && not (is_name object_name text)) test in
        let named : flat_map (missing names f) (flat_map named_by (text ∷ [])) ≡ [] = sym (ap (λ o. flat_map (missing names f) (flat_map named_by (option_to_list o))) q) ∙ first in
        let one : flat_map (missing names f) ((if is_array text then from [] desc_names (desc_of text) else text ∷ []) ++ []) ≡ [] = named in
        let alone : flat_map (missing names f) ((text ∷ []) ++ []) ≡ [] = subst (λ b. flat_map (missing names f) ((if b then from [] desc_names (desc_of text) else text ∷ []) ++ []) ≡ []) plain one in
        (text, q, not_missing names f text (parts_none (missing names f text) _ alone).0)

-- ---- boot classes

-- each boot class but the first names one of them as its superclass
boot_supers : list_all (λ f. from false (is_known (map this_name boot_files)) (super_text f)) (drop 1 boot_files) ≡ true
unfolding boot_files boot_rows first_rows exceptions
boot_supers = refl

-- the first names none
boot_root : option_map super_text (slice_get boot_files 0) ≡ Some None
unfolding boot_files boot_rows first_rows exceptions
boot_root = refl

pub boot_count : length boot_files ≡ 34
unfolding boot_files boot_rows first_rows exceptions
boot_count = refl

-- what a test of all says of one
tested_at : {A : Type 0} (test : A → Bool) (xs : List A) → list_all test xs ≡ true → (i : ℕ) (x : A) → slice_get xs i ≡ Some x → test x ≡ true
tested_at test [] h i x e = absurd cc
tested_at test (y ∷ ys) h zero x e = let s : y ≡ x = cc in subst (λ z. test z ≡ true) s (and_parts (test y) (list_all test ys) h).0
tested_at test (y ∷ ys) h (suc i) x e = tested_at test ys (and_parts (test y) (list_all test ys) h).1 i x e

known_text : (names : List (List ℕ)) (o : Option (List ℕ)) → from false (is_known names) o ≡ true → (text : List ℕ) × (o ≡ Some text) × (is_known names text ≡ true)
known_text names None e = absurd cc
known_text names (Some text) e = (text, refl, e)

later_at : {A : Type 0} (xs : List A) (i : ℕ) (x : A) → slice_get xs (suc i) ≡ Some x → slice_get (drop 1 xs) i ≡ Some x
later_at [] i x e = absurd cc
later_at (y ∷ ys) i x e = e

-- ---- all classes

module _ (files : List ClassFile) (main : List ℕ) (none : link_refusals files main ≡ []) where
  rules : rule_refusals files main ≡ []
  unfolding link_refusals
  rules = (parts_none _ (rule_refusals files main) none).1

  -- no file names a class that isn't there
  missed : flat_map (no_class (map this_name (boot_files ++ files))) files ≡ []
  unfolding rule_refusals name_refusals
  missed = (parts_none _ (flat_map (no_class (map this_name (boot_files ++ files))) files) (parts_none (name_refusals boot_files files) _ rules).0).1

  -- no superclass is of another kind
  wrong : flat_map (wrong_above (boot_files ++ files)) files ≡ []
  unfolding rule_refusals above_refusals
  wrong = (parts_none (flat_map (wrong_above (boot_files ++ files)) files) _ (parts_none (above_refusals (boot_files ++ files) first_number files) _ (parts_none (name_refusals boot_files files) _ rules).1).0).0

  -- a name among the boot classes' is one among all
  boot_known : (text : List ℕ) → is_known (map this_name boot_files) text ≡ true → is_known (map this_name (boot_files ++ files)) text ≡ true
  boot_known text e = ap (λ names. is_known names text) (map-append this_name boot_files files) ∙ list_any-append (is_name text) (map this_name boot_files) (map this_name files) ∙ or_left (is_known (map this_name boot_files) text) (is_known (map this_name files) text) e

  boot_super : (c : ℕ) (f : ClassFile) → slice_get boot_files (suc c) ≡ Some f → (k : ℕ) × (super_number (boot_files ++ files) f ≡ Some k)
  boot_super c f e =
      let t = known_text (map this_name boot_files) (super_text f) (tested_at (λ f. from false (is_known (map this_name boot_files)) (super_text f)) (drop 1 boot_files) boot_supers c f (later_at boot_files c f e)) in
      super_there (boot_files ++ files) f t.0 t.1 (boot_known t.0 t.2)

  file_super : (i : ℕ) (f : ClassFile) → slice_get files i ≡ Some f → (k : ℕ) × (super_number (boot_files ++ files) f ≡ Some k)
  file_super i f e =
      let t = super_named (boot_files ++ files) (map this_name (boot_files ++ files)) f (flat_none (wrong_above (boot_files ++ files)) files wrong i f e) (flat_none (no_class (map this_name (boot_files ++ files))) files missed i f e) in
      super_there (boot_files ++ files) f t.0 t.1 t.2

  -- Object has no superclass
  pub no_super : (f : ClassFile) → slice_get (boot_files ++ files) 0 ≡ Some f → super_number (boot_files ++ files) f ≡ None
  no_super f e =
      let n = boot_count in
      let front : slice_get boot_files 0 ≡ Some f = sym (front_at boot_files files 0 (omega arith)) ∙ e in
      let root : Some (super_text f) ≡ Some None = sym (ap (option_map super_text) front) ∙ boot_root in
      let text : super_text f ≡ None = cc in
      ap (option_and_then (number_of (boot_files ++ files))) text

  -- each other class has one
  pub has_super : (c : ℕ) (f : ClassFile) → 0 < c → slice_get (boot_files ++ files) c ≡ Some f → (k : ℕ) × (super_number (boot_files ++ files) f ≡ Some k)
  has_super zero f h e = absurd (omega arith)
  has_super (suc c) f h e = elim (cases_lt (suc c) (length boot_files)) [
    | inl l ↦ boot_super c f (sym (front_at boot_files files (suc c) l) ∙ e)
    | inr g ↦
        let i : ℕ = suc c - length boot_files in
        let at : suc c ≡ length boot_files + i = omega arith in
        file_super i f (sym (ap (slice_get (boot_files ++ files)) at ∙ back_at boot_files files i) ∙ e)
  ]
