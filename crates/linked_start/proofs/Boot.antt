-- The boot classes in an image, found by computing.
use Rattle.std.proofs.Common.{◌≡◌, ◌∙◌, sym, ap, subst, refl, ℕ, zero, suc, ◌<◌, ◌==◌, Bool, true, false, not, List, [], ◌∷◌, ◌++◌, map, slice_get, Option, Some, None, inl, inr, arith}
use Rattle.std.specs.Prelude.{◌&&◌, nat_lt, option_map, option_and_then, is_none}
use Rattle.std.specs.List.{list_all}
use Rattle.std.proofs.lemmas.Bool.{ltb-true}
use Rattle.std.proofs.lemmas.Bool.Decides.{eqb_tells}
use Rattle.std.proofs.lemmas.Option.{slice_get-map, slice_get_within}
use Rattle.jvm_base.specs.Words.{from}
use Rattle.jvm_base.specs.declared.desc.Desc.{Desc}
use Rattle.jvm_base.proofs.Options.{and_parts, not_true, then_some}
use Rattle.boot_table.specs.Files.{boot_files}
use Rattle.boot_table.specs.Table.{boot_rows, first_rows, exceptions}
use Rattle.class_format.specs.Flags.{is_interface}
use Rattle.class_format.specs.declared.class.ClassFile.{ClassFile}
use Rattle.class_names.specs.Classes.{super_text}
use Rattle.hierarchy.specs.Walks.{has}
use Rattle.hierarchy.proofs.Tests.{or_split, equal_from}
use Rattle.link_rules.specs.Numbers.{number_of, flags_at}
use Rattle.link_uses.specs.declared.lookup.Found.{Found}
use Rattle.link_image.specs.Classes.{super_number}
use Rattle.link_image.specs.Image.{image_of}
use Rattle.program_image.specs.Buffers.{string_buffer}
use Rattle.program_image.specs.Program.{Program}
use Rattle.program_image.specs.declared.info.ArrayInfo.{ArrayInfo}
use Rattle.program_image.specs.declared.info.ClassInfo.{ClassInfo}
use Rattle.flow_types.specs.Tree.{superclasses, superclass, flat, above, Up}
use Rattle.flow_types.specs.Types.{type_fits}
use Rattle.flow_types.specs.declared.flow_type.FlowType.{FlowType}
use Rattle.flow_types.specs.declared.flow_type.FlowType.TheVariants as flow
use Rattle.flow_types.proofs.TreeLaws.{below-from}
use Rattle.instruction_table.specs.ClassTypes.{array_at, class_type}
use Rattle.instruction_table.specs.Rows.{throwable}
use Rattle.machine_state.specs.BootClasses.{class_class, string, print_stream, thread}
use Rattle.frame_soundness.specs.AcceptedProgram.{IsFault, IsPlainClass, faults}
use Rattle.frame_soundness.specs.Holding.{is_text, has_fields}
use Rattle.typed_classes.proofs.Steps.{class_typed, plain_class}
use Rattle.linked_classes.specs.Linking.{AreRight}
use Rattle.linked_classes.proofs.Above.{item_at, declared, interface_declared, array_declared}
use Rattle.linked_classes.proofs.BootAbove.{boot_count, front_at, number_front}
use Rattle.linked_start.specs.Linking.{BootLaw}

-- ---- tests of the boot classes

-- a test that each number of a list passes
passed : (test : ℕ → Bool) (xs : List ℕ) → list_all test xs ≡ true → (c : ℕ) → has xs c ≡ true → test c ≡ true
passed test [] h c e = absurd cc
passed test (x ∷ xs) h c e =
    let (a, b) = and_parts (test x) (list_all test xs) h in
    elim (or_split (x == c) (has xs c) e) [
      | inl q ↦ subst (λ y. test y ≡ true) (equal_from x c q) a
      | inr q ↦ passed test xs b c q
    ]

-- the superclasses of the boot classes
boot_supers : List (Option ℕ)
boot_supers = map (super_number boot_files) boot_files

-- a boot class that is no interface, and none of those that hold texts or statics
abbrev pub is_plain_boot : ℕ → Bool
is_plain_boot c = nat_lt c 34 && (not (is_interface (flags_at boot_files c)) && not (is_text c))

-- such a one below Throwable
abbrev is_thrown : ℕ → Bool
is_thrown c = is_plain_boot c && (not (c == class_class) && above 34 boot_supers c throwable)

-- the exceptions that the machine makes are such
faults_thrown : list_all is_thrown faults ≡ true
unfolding boot_supers boot_files boot_rows first_rows exceptions
faults_thrown = refl

-- String and StringBuffer are no interfaces
boot_bare : (is_interface (flags_at boot_files string) ≡ false) × (is_interface (flags_at boot_files string_buffer) ≡ false)
unfolding boot_files boot_rows first_rows exceptions
boot_bare = (refl, refl)

-- PrintStream and Thread have fields
boot_plain : (is_plain_boot print_stream ≡ true) × (is_plain_boot thread ≡ true)
unfolding boot_files boot_rows first_rows exceptions
boot_plain = (refl, refl)

-- ---- steps up

-- a class whose superclass is below another
next_to : (supers : List (Option ℕ)) (n a b : ℕ) → ((d : ℕ) → above n supers d b ≡ true → (k : ℕ) × Up supers k d b) → (s : Option ℕ) → superclass supers a ≡ s → (elim s as (λ _. Bool) [ None ↦ false | Some up ↦ above n supers up b ]) ≡ true → (k : ℕ) × Up supers k a b
next_to supers n a b again None e h = absurd cc
next_to supers n a b again (Some d) e h = let (k, u) = again d h in (suc k, (d, e, u))

-- what is found in some steps is so many steps up
above_to : (supers : List (Option ℕ)) (n a b : ℕ) → above n supers a b ≡ true → (k : ℕ) × Up supers k a b
above_to supers zero a b h = absurd cc
above_to supers (suc n) a b h =
    elim (eqb_tells a b) [
      | inl q ↦ (zero, q.1)
      | inr q ↦ next_to supers n a b (λ d. above_to supers n d b) (superclass supers a) refl (rw (q.0) at h)
    ]

-- steps that both hierarchies have
more_up : (xs ys : List (Option ℕ)) → ((a d : ℕ) → superclass xs a ≡ Some d → superclass ys a ≡ Some d) → (n a b : ℕ) → Up xs n a b → Up ys n a b
more_up xs ys h zero a b u = u
more_up xs ys h (suc n) a b (d, e, u) = (d, h a d e, more_up xs ys h n d b u)

-- an option inside another
flat_some : {A : Type 0} (g : A → Option ℕ) (o : Option A) (d : ℕ) → flat (option_map g o) ≡ Some d → (x : A) × (o ≡ Some x) × (g x ≡ Some d)
flat_some g None d e = absurd cc
flat_some g (Some x) d e = (x, refl, e)

-- ---- in an image

module _ (files : List ClassFile) (arrays : List Desc) (literals : List (List ℕ)) (main : Found) (right : AreRight files arrays literals main) where
  abbrev p : Program
  p = image_of (boot_files ++ files) arrays literals main

  -- a boot class is a declared one, at its number
  pub boot_at : (c : ℕ) → c < 34 → (f : ClassFile) × (slice_get boot_files c ≡ Some f) × (slice_get (boot_files ++ files) c ≡ Some f)
  boot_at c l =
      let n = boot_count in
      let (f, q) = item_at boot_files c (omega arith) in
      (f, q, front_at boot_files files c (omega arith) ∙ q)

  -- no boot class is of arrays
  pub no_array : (c : ℕ) → c < 34 → array_at p c ≡ None
  no_array c l = let (f, q, r) = boot_at c l in array_declared files arrays literals main right c f r

  -- its type
  pub boot_type : (c : ℕ) → c < 34 → is_interface (flags_at boot_files c) ≡ false → class_type p c ≡ flow.Class c
  boot_type c l i =
      let (f, q, r) = boot_at c l in
      let s : is_interface f.flags ≡ false = ap (λ (o : Option ClassFile). is_interface (from 0 (λ f. f.flags) o)) (sym q) ∙ i in
      class_typed p c (no_array c l) ∙ ap flow.Class (plain_class p c (interface_declared files arrays literals main right c f r ∙ s))

  -- it has fields, but for those that hold texts
  has_some : (c : ℕ) → c < 34 → is_text c ≡ false → has_fields p c ≡ true
  has_some c l t = ap (λ (o : Option ArrayInfo). is_none o && not (is_text c)) (no_array c l) ∙ ap not t

  -- one that is no interface and holds no text
  pub plain_boot : (c : ℕ) → is_plain_boot c ≡ true → IsPlainClass p c
  plain_boot c h =
      let (a, b) = and_parts (nat_lt c 34) (not (is_interface (flags_at boot_files c)) && not (is_text c)) h in
      let (i, t) = and_parts (not (is_interface (flags_at boot_files c))) (not (is_text c)) b in
      let l : c < 34 = ltb-true c 34 a in
      record { kind = has_some c l (not_true (is_text c) t); type = boot_type c l (not_true (is_interface (flags_at boot_files c)) i) }

  -- steps up from a boot class
  super_more : (a d : ℕ) → superclass boot_supers a ≡ Some d → superclass (superclasses p) a ≡ Some d
  unfolding boot_supers
  super_more a d e =
      let (f, q, s) = flat_some (super_number boot_files) (slice_get boot_files a) d (sym (ap flat (slice_get-map (super_number boot_files) boot_files a)) ∙ e) in
      let (text, t, n) = then_some (number_of boot_files) (super_text f) d s in
      let r : slice_get (boot_files ++ files) a ≡ Some f = front_at boot_files files a (slice_get_within boot_files a f q) ∙ q in
      ap flat (slice_get-map (λ (k : ClassInfo). k.super_class) p.classes a ∙ ap (option_map (λ (k : ClassInfo). k.super_class)) (declared files arrays literals main right a f r))
      ∙ ap (option_and_then (number_of (boot_files ++ files))) t
      ∙ number_front files text d n

  -- the exceptions that the machine makes
  fault : (c : ℕ) → has faults c ≡ true → IsFault p c
  fault c e =
      let (a, b) = and_parts (is_plain_boot c) (not (c == class_class) && above 34 boot_supers c throwable) (passed is_thrown faults faults_thrown c e) in
      let (x, y) = and_parts (not (c == class_class)) (above 34 boot_supers c throwable) b in
      let (k, u) = above_to boot_supers 34 c throwable y in
      let plain : IsPlainClass p c = plain_boot c a in
      record {
        thrown = subst (λ (t : FlowType). type_fits (superclasses p) t (flow.Class throwable) ≡ true) (sym plain.type) (below-from (superclasses p) right.tree k c throwable (more_up boot_supers (superclasses p) super_more k c throwable u));
        kind = plain.kind;
        no_holder = not_true (c == class_class) x;
      }

  -- the boot classes that the start and the machine name
  pub stream_class : IsPlainClass p print_stream
  stream_class = plain_boot print_stream boot_plain.0

  pub thread_class : IsPlainClass p thread
  thread_class = plain_boot thread boot_plain.1

  pub string_class : (array_at p string ≡ None) × (class_type p string ≡ flow.Class string)
  string_class = (no_array string (omega arith), boot_type string (omega arith) boot_bare.0)

  buffer_class : (array_at p string_buffer ≡ None) × (class_type p string_buffer ≡ flow.Class string_buffer)
  buffer_class = (no_array string_buffer (omega arith), boot_type string_buffer (omega arith) boot_bare.1)

  holders : has_fields p class_class ≡ true
  holders = has_some class_class (omega arith) refl

-- the boot classes of an image are right
pub boot_law : BootLaw
boot_law files arrays literals main right = record {
  fault = fault files arrays literals main right;
  holders = holders files arrays literals main right;
  string_class = string_class files arrays literals main right;
  buffer_class = buffer_class files arrays literals main right;
}
