-- The members that code uses, as they are declared.
use Rattle.std.proofs.Common.{◌≡◌, ◌∙◌, sym, ap, refl, ℕ, suc, ◌+◌, ◌<◌, Bool, true, false, not, List, [], ◌∷◌, ◌++◌, length, position, slice_get, Option, Some, None, ◌⊎◌, inl, inr, arith}
use Rattle.std.specs.Prelude.{◌&&◌, if◌then◌else◌, option_map}
use Rattle.jvm_base.specs.Words.{from}
use Rattle.jvm_base.proofs.Options.{and_parts, map_some, not_true}
use Rattle.boot_table.specs.Files.{boot_files}
use Rattle.class_format.specs.Flags.{is_interface, is_static}
use Rattle.class_format.specs.declared.class.ClassFile.{ClassFile}
use Rattle.class_format.specs.declared.class.FieldItem.{FieldItem}
use Rattle.class_format.specs.declared.class.MethodItem.{MethodItem}
use Rattle.class_names.specs.Texts.{Member, is_array}
use Rattle.hierarchy.specs.Walks.{walk, all_from, first_some, or_else}
use Rattle.link_rules.specs.Numbers.{number_of, holder_of, flags_at, field_rows, interface_rows, super_rows, lineage, interfaces_of}
use Rattle.link_arrays.proofs.ArrayLaws.{number_within}
use Rattle.link_uses.specs.Lookups.{is_field_of, is_method_of, own_field, own_method, class_method, interface_method, found_field, found_method, field_flags, method_flags}
use Rattle.link_uses.specs.Uses.{wrong_name, wrong_method_flags}
use Rattle.link_uses.specs.declared.lookup.Found.{Found}
use Rattle.linked_classes.proofs.BootAbove.{front_at, number_front}
use Rattle.linked_classes.proofs.Positions.{position_at}

-- ---- answers along a list

first_at : {A : Type 0} (f : ℕ → Option A) (xs : List ℕ) (x : A) → first_some f xs ≡ Some x → (k : ℕ) × (f k ≡ Some x)
first_at f [] x e = absurd cc
first_at f (k ∷ ks) x e = by_answer (f k) refl e (first_at f ks x)
  where
    by_answer : (o : Option _) → f k ≡ o → or_else o (first_some f ks) ≡ Some x → (first_some f ks ≡ Some x → (j : ℕ) × (f j ≡ Some x)) → (j : ℕ) × (f j ≡ Some x)
    by_answer None q h again = again h
    by_answer (Some y) q h again = (k, q ∙ h)

either_some : {A : Type 0} (a b : Option A) (x : A) → or_else a b ≡ Some x → (a ≡ Some x) ⊎ (b ≡ Some x)
either_some None b x e = inr e
either_some (Some y) b x e = inl e

-- a walk begins with its number
first_here : {A : Type 0} (f : ℕ → Option A) (rows : List (List ℕ)) (k : ℕ) (x : A) → f k ≡ Some x → first_some f (all_from rows k) ≡ Some x
unfolding all_from walk
first_here f rows k x e =
    let q : length rows + 2 ≡ suc (suc (length rows)) = omega arith in
    ap (λ (n : ℕ). first_some f (walk n rows k)) q ∙ rw e refl

-- ---- fields

-- what a look-up of a field finds
pub record FindsField (all : List ClassFile) (m : Member) (fixed : Bool) : Type 0 where
  pub found : Found
  pub is_found : found_field all m ≡ Some found
  pub file : ClassFile
  pub is_file : slice_get all found.class ≡ Some file
  pub item : FieldItem
  pub is_item : slice_get file.fields found.place ≡ Some item
  pub same : is_field_of file m item ≡ true
  pub is_fixed : is_static item.flags ≡ fixed

found_own_field : (all : List ClassFile) (m : Member) (x : Found) → found_field all m ≡ Some x → (k : ℕ) × (own_field all m k ≡ Some x)
found_own_field all m x e = first_at (own_field all m) (all_from (field_rows all) (holder_of all m.class)) x e

-- a field that a class declares itself
declared_field : (all : List ClassFile) (m : Member) (k : ℕ) (x : Found) → own_field all m k ≡ Some x → (g : ClassFile) × (y : FieldItem) × (slice_get all x.class ≡ Some g) × (slice_get g.fields x.place ≡ Some y) × (is_field_of g m y ≡ true)
unfolding own_field
declared_field all m k x e = by_file (slice_get all k) refl e
  where
    by_file : (o : Option ClassFile) → slice_get all k ≡ o → from None (λ g. option_map (λ i. record { class = k; place = i }) (position (is_field_of g m) g.fields)) o ≡ Some x → (g : ClassFile) × (y : FieldItem) × (slice_get all x.class ≡ Some g) × (slice_get g.fields x.place ≡ Some y) × (is_field_of g m y ≡ true)
    by_file None q h = absurd cc
    by_file (Some g) q h =
        let make : ℕ → Found = λ i. record { class = k; place = i } in
        let (i, r, s) = map_some make (position (is_field_of g m) g.fields) x h in
        let (y, t, u) = position_at (is_field_of g m) g.fields i r in
        (g, y, ap (λ (z : Found). slice_get all z.class) (sym s) ∙ q, ap (λ (z : Found). slice_get g.fields z.place) (sym s) ∙ t, u)

-- a field that is found, and is static or not, as its flags tell
pub finds_field : (all : List ClassFile) (m : Member) (fixed : Bool) (x : Found) → found_field all m ≡ Some x → is_static (field_flags all x) ≡ fixed → FindsField all m fixed
finds_field all m fixed x e s =
    let (k, q) = found_own_field all m x e in
    let (g, y, a, b, c) = declared_field all m k x q in
    let flags : field_flags all x ≡ y.flags = ap (λ (o : Option ClassFile). from 0 (λ f. f.flags) (slice_get (from [] (λ f. f.fields) o) x.place)) a ∙ ap (λ (o : Option FieldItem). from 0 (λ f. f.flags) o) b in
    record { found = x; is_found = e; file = g; is_file = a; item = y; is_item = b; same = c; is_fixed = ap is_static (sym flags) ∙ s }

-- ---- methods

-- what a look-up of a method finds
pub record FindsMethod (all : List ClassFile) (m : Member) (op : ℕ) : Type 0 where
  pub found : Found
  pub is_found : found_method all m ≡ Some found
  pub file : ClassFile
  pub is_file : slice_get all found.class ≡ Some file
  pub item : MethodItem
  pub is_item : slice_get file.methods found.place ≡ Some item
  pub same : is_method_of file m item ≡ true
  pub suits : wrong_method_flags op item.flags ≡ false
  pub named : wrong_name op m.name ≡ false

found_own_method : (all : List ClassFile) (m : Member) (x : Found) → found_method all m ≡ Some x → (k : ℕ) × (own_method all m k ≡ Some x)
found_own_method all m x e = by_kind (is_interface (flags_at all (holder_of all m.class))) e
  where
    by_kind : (b : Bool) → (if b then interface_method all m (holder_of all m.class) else class_method all m (holder_of all m.class)) ≡ Some x → (k : ℕ) × (own_method all m k ≡ Some x)
    by_kind true h =
        elim (either_some (first_some (own_method all m) (all_from (interface_rows all) (holder_of all m.class))) (own_method all m 0) x h) [
          | inl a ↦ first_at (own_method all m) (all_from (interface_rows all) (holder_of all m.class)) x a
          | inr b ↦ (0, b)
        ]
    by_kind false h =
        elim (either_some (first_some (own_method all m) (lineage all (holder_of all m.class))) (first_some (own_method all m) (interfaces_of all (holder_of all m.class))) x h) [
          | inl a ↦ first_at (own_method all m) (lineage all (holder_of all m.class)) x a
          | inr b ↦ first_at (own_method all m) (interfaces_of all (holder_of all m.class)) x b
        ]

-- a method that a class declares itself
declared_method : (all : List ClassFile) (m : Member) (k : ℕ) (x : Found) → own_method all m k ≡ Some x → (g : ClassFile) × (y : MethodItem) × (slice_get all x.class ≡ Some g) × (slice_get g.methods x.place ≡ Some y) × (is_method_of g m y ≡ true)
unfolding own_method
declared_method all m k x e = by_file (slice_get all k) refl e
  where
    by_file : (o : Option ClassFile) → slice_get all k ≡ o → from None (λ g. option_map (λ i. record { class = k; place = i }) (position (is_method_of g m) g.methods)) o ≡ Some x → (g : ClassFile) × (y : MethodItem) × (slice_get all x.class ≡ Some g) × (slice_get g.methods x.place ≡ Some y) × (is_method_of g m y ≡ true)
    by_file None q h = absurd cc
    by_file (Some g) q h =
        let make : ℕ → Found = λ i. record { class = k; place = i } in
        let (i, r, s) = map_some make (position (is_method_of g m) g.methods) x h in
        let (y, t, u) = position_at (is_method_of g m) g.methods i r in
        (g, y, ap (λ (z : Found). slice_get all z.class) (sym s) ∙ q, ap (λ (z : Found). slice_get g.methods z.place) (sym s) ∙ t, u)

-- a method that is found, with flags and a name that suit the call
pub finds_method : (all : List ClassFile) (m : Member) (op : ℕ) (x : Found) → found_method all m ≡ Some x → wrong_method_flags op (method_flags all x) ≡ false → wrong_name op m.name ≡ false → FindsMethod all m op
finds_method all m op x e s n =
    let (k, q) = found_own_method all m x e in
    let (g, y, a, b, c) = declared_method all m k x q in
    let flags : method_flags all x ≡ y.flags = ap (λ (o : Option ClassFile). from 0 (λ f. f.flags) (slice_get (from [] (λ f. f.methods) o) x.place)) a ∙ ap (λ (o : Option MethodItem). from 0 (λ f. f.flags) o) b in
    record { found = x; is_found = e; file = g; is_file = a; item = y; is_item = b; same = c; suits = ap (wrong_method_flags op) (sym flags) ∙ s; named = n }

-- ---- boot classes: what their code uses is declared by the class that is named

-- the class of the member has such a field, or such a method
abbrev pub has_own_field : Member → Bool
has_own_field m =
    not (is_array m.class)
    && from false
    (λ k. from false (λ x. not (is_static (field_flags boot_files x))) (own_field boot_files m k))
    (number_of boot_files m.class)

abbrev pub has_own_method : ℕ → Member → Bool
has_own_method op m =
    (not (is_array m.class) && not (wrong_name op m.name))
    && from false
    (λ k. from false (λ x. not (wrong_method_flags op (method_flags boot_files x))) (own_method boot_files m k))
    (number_of boot_files m.class)

-- a value that passes is there
from_test : {A : Type 0} (t : A → Bool) (o : Option A) → from false t o ≡ true → (x : A) × (o ≡ Some x) × (t x ≡ true)
from_test t None h = absurd cc
from_test t (Some x) h = (x, refl, h)

module _ (files : List ClassFile) where
  -- the class that a boot class's code names
  holder_front : (text : List ℕ) (k : ℕ) → is_array text ≡ false → number_of boot_files text ≡ Some k → holder_of (boot_files ++ files) text ≡ k
  holder_front text k a e = rw a (ap (λ (o : Option ℕ). from 0 (λ k. k) o) (number_front files text k e))

  file_front : (k : ℕ) → k < length boot_files → slice_get (boot_files ++ files) k ≡ slice_get boot_files k
  file_front k l = front_at boot_files files k l

  field_front : (m : Member) (k : ℕ) (x : Found) → k < length boot_files → own_field boot_files m k ≡ Some x → own_field (boot_files ++ files) m k ≡ Some x
  unfolding own_field
  field_front m k x l e = ap (λ (o : Option ClassFile). from None (λ g. option_map (λ i. record { class = k; place = i }) (position (is_field_of g m) g.fields)) o) (file_front k l) ∙ e

  method_front : (m : Member) (k : ℕ) (x : Found) → k < length boot_files → own_method boot_files m k ≡ Some x → own_method (boot_files ++ files) m k ≡ Some x
  unfolding own_method
  method_front m k x l e = ap (λ (o : Option ClassFile). from None (λ g. option_map (λ i. record { class = k; place = i }) (position (is_method_of g m) g.methods)) o) (file_front k l) ∙ e

  -- the class of what a class declares itself is that class
  own_class : (m : Member) (k : ℕ) (x : Found) → own_field boot_files m k ≡ Some x → x.class ≡ k
  unfolding own_field
  own_class m k x e = by_file (slice_get boot_files k) e
    where
      by_file : (o : Option ClassFile) → from None (λ g. option_map (λ i. record { class = k; place = i }) (position (is_field_of g m) g.fields)) o ≡ Some x → x.class ≡ k
      by_file None h = absurd cc
      by_file (Some g) h =
          let make : ℕ → Found = λ i. record { class = k; place = i } in
          let (i, r, s) = map_some make (position (is_field_of g m) g.fields) x h in
          ap (λ (z : Found). z.class) (sym s)

  own_class_method : (m : Member) (k : ℕ) (x : Found) → own_method boot_files m k ≡ Some x → x.class ≡ k
  unfolding own_method
  own_class_method m k x e = by_file (slice_get boot_files k) e
    where
      by_file : (o : Option ClassFile) → from None (λ g. option_map (λ i. record { class = k; place = i }) (position (is_method_of g m) g.methods)) o ≡ Some x → x.class ≡ k
      by_file None h = absurd cc
      by_file (Some g) h =
          let make : ℕ → Found = λ i. record { class = k; place = i } in
          let (i, r, s) = map_some make (position (is_method_of g m) g.methods) x h in
          ap (λ (z : Found). z.class) (sym s)

  pub boot_field : (m : Member) → has_own_field m ≡ true → FindsField (boot_files ++ files) m false
  boot_field m h =
      let (a, b) = and_parts (not (is_array m.class)) _ h in
      let (k, e, c) = from_test (λ k. from false (λ x. not (is_static (field_flags boot_files x))) (own_field boot_files m k)) (number_of boot_files m.class) b in
      let (x, q, d) = from_test (λ x. not (is_static (field_flags boot_files x))) (own_field boot_files m k) c in
      let l : k < length boot_files = number_within boot_files m.class k e in
      let n : holder_of (boot_files ++ files) m.class ≡ k = holder_front m.class k (not_true (is_array m.class) a) e in
      let found : found_field (boot_files ++ files) m ≡ Some x = ap (λ (j : ℕ). first_some (own_field (boot_files ++ files) m) (all_from (field_rows (boot_files ++ files)) j)) n ∙ first_here (own_field (boot_files ++ files) m) (field_rows (boot_files ++ files)) k x (field_front m k x l q) in
      let s : x.class ≡ k = own_class m k x q in
      let flags : field_flags (boot_files ++ files) x ≡ field_flags boot_files x = ap (λ (o : Option ClassFile). from 0 (λ (f : FieldItem). f.flags) (slice_get (from [] (λ f. f.fields) o) x.place)) (file_front x.class (omega arith)) in
      finds_field (boot_files ++ files) m false x found (ap is_static flags ∙ not_true (is_static (field_flags boot_files x)) d)

  pub boot_method : (op : ℕ) (m : Member) → has_own_method op m ≡ true → FindsMethod (boot_files ++ files) m op
  boot_method op m h =
      let (a0, b) = and_parts (not (is_array m.class) && not (wrong_name op m.name)) _ h in
      let (a, named) = and_parts (not (is_array m.class)) (not (wrong_name op m.name)) a0 in
      let (k, e, c) = from_test (λ k. from false (λ x. not (wrong_method_flags op (method_flags boot_files x))) (own_method boot_files m k)) (number_of boot_files m.class) b in
      let (x, q, d) = from_test (λ x. not (wrong_method_flags op (method_flags boot_files x))) (own_method boot_files m k) c in
      let l : k < length boot_files = number_within boot_files m.class k e in
      let n : holder_of (boot_files ++ files) m.class ≡ k = holder_front m.class k (not_true (is_array m.class) a) e in
      let own : own_method (boot_files ++ files) m k ≡ Some x = method_front m k x l q in
      let found : found_method (boot_files ++ files) m ≡ Some x =
      ap (λ (j : ℕ). if is_interface (flags_at (boot_files ++ files) j) then interface_method (boot_files ++ files) m j else class_method (boot_files ++ files) m j) n
      ∙ by_kind k x own (is_interface (flags_at (boot_files ++ files) k)) in
      let s : x.class ≡ k = own_class_method m k x q in
      let flags : method_flags (boot_files ++ files) x ≡ method_flags boot_files x = ap (λ (o : Option ClassFile). from 0 (λ (f : MethodItem). f.flags) (slice_get (from [] (λ f. f.methods) o) x.place)) (file_front x.class (omega arith)) in
      finds_method (boot_files ++ files) m op x found (ap (wrong_method_flags op) flags ∙ not_true (wrong_method_flags op (method_flags boot_files x)) d) (not_true (wrong_name op m.name) named)
    where
      by_kind : (k : ℕ) (x : Found) → own_method (boot_files ++ files) m k ≡ Some x → (b : Bool) → (if b then interface_method (boot_files ++ files) m k else class_method (boot_files ++ files) m k) ≡ Some x
      by_kind k x own true = ap (λ (o : Option Found). or_else o (own_method (boot_files ++ files) m 0)) (first_here (own_method (boot_files ++ files) m) (interface_rows (boot_files ++ files)) k x own)
      by_kind k x own false = ap (λ (o : Option Found). or_else o (first_some (own_method (boot_files ++ files) m) (interfaces_of (boot_files ++ files) k))) (first_here (own_method (boot_files ++ files) m) (super_rows (boot_files ++ files)) k x own)
