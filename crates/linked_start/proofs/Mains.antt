-- Where the main method is.
use Rattle.std.proofs.Common.{◌≡◌, ◌∙◌, sym, ap, refl, ℕ, suc, ◌+◌, Bool, true, false, List, [], ◌∷◌, ◌++◌, length, slice_get, position, Some, arith}
use Rattle.std.specs.Prelude.{◌&&◌, if◌then◌else◌}
use Rattle.jvm_base.specs.declared.desc.Desc.{Desc}
use Rattle.jvm_base.proofs.Options.{and_parts, map_some}
use Rattle.boot_table.specs.Files.{boot_files}
use Rattle.class_format.specs.Flags.{is_public, is_static}
use Rattle.class_format.specs.declared.class.ClassFile.{ClassFile}
use Rattle.class_format.specs.declared.class.MethodItem.{MethodItem}
use Rattle.class_names.specs.Known.{is_name}
use Rattle.class_link.specs.Mains.{is_main, declares_main, main_in, main_from, main_name, main_desc}
use Rattle.link_rules.specs.Members.{method_name, method_desc}
use Rattle.link_uses.specs.declared.lookup.Found.{Found}
use Rattle.link_image.specs.Image.{image_of}
use Rattle.link_image.specs.Methods.{method_info}
use Rattle.program_image.specs.declared.info.MethodInfo.{MethodInfo}
use Rattle.instruction_table.specs.ClassTypes.{method_at}
use Rattle.linked_classes.proofs.Above.{back_at, same_name}
use Rattle.linked_classes.proofs.BootAbove.{boot_count}
use Rattle.linked_classes.proofs.Positions.{position_at}
use Rattle.linked_methods.proofs.Numbered.{before, method_there}
use Rattle.linked_start.specs.Linking.{IsMain}

-- the method and the file that declares it
pub record IsMainAt (first : ℕ) (files : List ClassFile) (main : Found) : Type 0 where
  pub number : ℕ
  pub file : ClassFile
  pub item : MethodItem
  pub class : main.class ≡ first + number
  pub is_file : slice_get files number ≡ Some file
  pub is_item : slice_get file.methods main.place ≡ Some item
  pub passes : is_main file item ≡ true

-- in the first of some files
main_here : (first : ℕ) (f : ClassFile) (files : List ClassFile) (main : Found) → main_in first f ≡ Some main → IsMainAt first (f ∷ files) main
main_here first f files main e =
    let (i, q, s) = map_some (λ (i : ℕ). record { class = first; place = i }) (position (is_main f) f.methods) main e in
    let (m, r, t) = position_at (is_main f) f.methods i q in
    let c : first ≡ main.class = ap (λ (x : Found). x.class) s in
    let at : i ≡ main.place = ap (λ (x : Found). x.place) s in
    record { number = 0; file = f; item = m; class = omega arith; is_file = refl; is_item = ap (slice_get f.methods) (sym at) ∙ r; passes = t }

-- in one of them
main_at : (first : ℕ) (name : List ℕ) (files : List ClassFile) (main : Found) → main_from first name files ≡ Some main → IsMainAt first files main
main_at first name [] main e = absurd cc
main_at first name (f ∷ files) main e = by_test (declares_main name f) e (main_at (first + 1) name files main)
  where
    by_test : (b : Bool) → (if b then main_in first f else main_from (first + 1) name files) ≡ Some main → (main_from (first + 1) name files ≡ Some main → IsMainAt (first + 1) files main) → IsMainAt first (f ∷ files) main
    by_test true h again = main_here first f files main h
    by_test false h again =
        let x = again h in
        record { number = suc x.number; file = x.file; item = x.item; class = let c = x.class in omega arith; is_file = x.is_file; is_item = x.is_item; passes = x.passes }

module _ (files : List ClassFile) (main : Found) (is : IsMain files main) where
  -- behind the boot classes
  pub main_in_files : IsMainAt 34 files main
  main_in_files = main_at 34 is.0 files main is.1

  abbrev at : IsMainAt 34 files main
  at = main_in_files

  -- its class by number
  pub file_there : slice_get (boot_files ++ files) main.class ≡ Some at.file
  file_there =
      let n = boot_count in
      let c : main.class ≡ length boot_files + at.number = let k = at.class in omega arith in
      ap (slice_get (boot_files ++ files)) c ∙ back_at boot_files files at.number ∙ at.is_file

  -- the method as an image has it
  unfoldable pub info : MethodInfo
  info = method_info at.file (0 + main.class) (before (boot_files ++ files) main.class main.place at.file) at.item

  -- the method has its number
  pub info_there : (arrays : List Desc) (literals : List (List ℕ)) → method_at (image_of (boot_files ++ files) arrays literals main) (image_of (boot_files ++ files) arrays literals main).main ≡ Some info
  unfolding image_of info
  info_there arrays literals = method_there (boot_files ++ files) main.class at.file main.place at.item file_there at.is_item

  -- what passes is static, and of the descriptor
  parts : (is_static at.item.flags ≡ true) × (is_name main_desc (method_desc at.file at.item) ≡ true)
  parts =
      let (a, b) = and_parts (is_public at.item.flags) (is_static at.item.flags && (is_name main_name (method_name at.file at.item) && is_name main_desc (method_desc at.file at.item))) at.passes in
      let (c, d) = and_parts (is_static at.item.flags) (is_name main_name (method_name at.file at.item) && is_name main_desc (method_desc at.file at.item)) b in
      (c, (and_parts (is_name main_name (method_name at.file at.item)) (is_name main_desc (method_desc at.file at.item)) d).1)

  -- it is static, and of main's descriptor
  pub is_fixed : is_static at.item.flags ≡ true
  is_fixed = parts.0

  pub is_desc : method_desc at.file at.item ≡ main_desc
  is_desc = sym (same_name main_desc (method_desc at.file at.item) parts.1)
