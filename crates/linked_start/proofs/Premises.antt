-- What linking gives where it refuses nothing.
use Rattle.std.proofs.Common.{◌≡◌, ◌∙◌, sym, ap, refl, ℕ, Bool, true, false, List, [], ◌∷◌, ◌++◌, slice_get, Option, Some, None}
use Rattle.std.specs.Prelude.{if◌then◌else◌}
use Rattle.std.specs.List.{flat_map}
use Rattle.jvm_base.specs.Words.{from}
use Rattle.boot_table.specs.Files.{boot_files}
use Rattle.class_format.specs.declared.class.ClassFile.{ClassFile}
use Rattle.class_link.specs.Linked.{no_start, start_of}
use Rattle.class_link.specs.Mains.{first_number, main_found, main_name, no_main}
use Rattle.class_link.specs.Refusals.{classes_of, name_refusals, above_refusals, member_refusals, rule_refusals, link_refusals, too_many_classes}
use Rattle.class_link.proofs.MainLaws.{no_main_found}
use Rattle.numbering.specs.Seen.{is_seen}
use Rattle.link_members.proofs.LoopLaws.{parts_none}
use Rattle.link_arrays.specs.Arrays.{array_types, file_types, strings}
use Rattle.link_arrays.specs.Seen.{with_items}
use Rattle.link_rules.specs.Decoding.{undecoded_file}
use Rattle.link_rules.specs.Numbers.{numbered}
use Rattle.link_rules.specs.declared.error.LinkErr.TheVariants.{Bad}
use Rattle.link_rules.specs.declared.error.LinkWhy.TheVariants.{NoMain}
use Rattle.link_uses.specs.declared.lookup.Found.{Found}
use Rattle.program_image.specs.Signatures.{same_desc}
use Rattle.linked_start.specs.Linking.{HaveStrings, IsMain}
use Rattle.linked_start.specs.Premises.{PremisesLaw}

-- what is seen first stays first
first_stays : {A : Type 0} (same : A → A → Bool) (y : A) (items xs : List A) → slice_get (with_items same (y ∷ items) xs) 0 ≡ Some y
first_stays same y items [] = refl
first_stays same y items (x ∷ xs) = by_test (is_seen same (y ∷ items) x) (first_stays same y items xs) (first_stays same y (items ++ x ∷ []) xs)
  where
    by_test : (b : Bool) → slice_get (with_items same (y ∷ items) xs) 0 ≡ Some y → slice_get (with_items same (y ∷ items ++ x ∷ []) xs) 0 ≡ Some y → slice_get (with_items same (if b then y ∷ items else y ∷ items ++ x ∷ []) xs) 0 ≡ Some y
    by_test true p q = p
    by_test false p q = q

-- the type of what main is given is named first
have_strings : (files : List ClassFile) → HaveStrings (array_types files)
unfolding array_types
have_strings files = record { place = 0; is_there = first_stays same_desc strings [] (flat_map file_types files) }

module _ (files : List ClassFile) (main : List ℕ) (none : link_refusals files main ≡ []) where
  -- code is decoded, and no rule refuses
  rules : (numbered undecoded_file 0 files ≡ []) × (rule_refusals files main ≡ [])
  unfolding link_refusals
  rules = parts_none (numbered undecoded_file 0 files) (rule_refusals files main) none

  -- a file declares main
  has_main : no_main files main ≡ []
  unfolding rule_refusals
  has_main =
      let names = (parts_none (name_refusals boot_files files) _ rules.1).1 in
      let above = (parts_none (above_refusals (classes_of files) first_number files) _ names).1 in
      let members = (parts_none (member_refusals (classes_of files) first_number files) _ above).1 in
      (parts_none (no_main files main) (too_many_classes files main) members).0

  -- so the start is one that was found
  begins : IsMain files (start_of files main)
  begins = by_found (main_found files main) refl
    where
      by_found : (o : Option Found) → main_found files main ≡ o → IsMain files (start_of files main)
      by_found None q = let z : Bad NoMain main main_name ∷ [] ≡ [] = sym (no_main_found files main q) ∙ has_main in absurd cc
      by_found (Some x) q = (main, q ∙ ap Some (sym (ap (from no_start (λ x. x)) q)))

-- all of it
pub premises_law : PremisesLaw
premises_law files main none = record {
  strings = have_strings files;
  begins = begins files main none;
  decoding = (rules files main none).0;
}
