-- A linked program may be verified.
use Rattle.std.proofs.Common.{◌≡◌, refl, ℕ, ◌<◌, ◌≤◌, List, ◌++◌, length, slice_get, Option, Some, None, arith}
use Rattle.std.specs.List.{AllByRecursion}
use Rattle.std.proofs.lemmas.List.{length-append}
use Rattle.std.proofs.lemmas.Option.{slice_get_within}
use Rattle.jvm_base.specs.Words.{from}
use Rattle.jvm_base.proofs.Options.{then_some}
use Rattle.class_format.specs.declared.class.ClassFile.{ClassFile}
use Rattle.class_format.specs.Meaning.{IsClass}
use Rattle.class_format.proofs.Recursion.{by_recursion}
use Rattle.code_table.specs.declared.code.Code.{Code}
use Rattle.boot_table.specs.Files.{boot_files}
use Rattle.boot_table.proofs.BootLaws.{boot_formed}
use Rattle.program_image.specs.Handlers.{code_of, body_code}
use Rattle.program_image.specs.declared.info.MethodInfo.{MethodInfo}
use Rattle.link_arrays.specs.Arrays.{array_types}
use Rattle.link_arrays.specs.Literals.{literals}
use Rattle.link_image.specs.Classes.{class_infos}
use Rattle.link_image.specs.Image.{image_of}
use Rattle.link_image.specs.Methods.{method_infos}
use Rattle.link_image.proofs.ClassLaws.{count_infos}
use Rattle.link_image.proofs.ListLaws.{all_append, all_at, all_more}
use Rattle.link_image.proofs.Within.{owners_in}
use Rattle.class_link.specs.Linked.{linked, start_of}
use Rattle.link_members.proofs.RowLaws.{ranked_by}
use Rattle.link_members.specs.declared.row_table.Step.TheVariants.{Super}
use Rattle.instruction_table.specs.ClassTypes.{owner_of}
use Rattle.acceptance.specs.Accepted.{AreVerifiable}
use Rattle.acceptance.specs.Linked.{AreLinked, LinkedLaw}
use Rattle.acceptance.proofs.FilledLaws.{filled_code}
use Rattle.acceptance.proofs.LevelLaws.{types_level}
use Rattle.acceptance.proofs.LinkedLaws.{HasFilledCode, linked_typed, linked_decoded}
use Rattle.acceptance.proofs.MethodLaws.{is_verifiable}
use Rattle.acceptance.proofs.Typed.{IsTyped}
use Rattle.flow_types.specs.Tree.{superclasses, IsTree}
use Rattle.acceptance.proofs.SuperLaws.{boot_count, no_super, has_super}
use Rattle.acceptance.proofs.TreeLaws.{is_tree}
use Rattle.acceptance.proofs.RankLaws.{has_ranks}

module _ (files : List ClassFile) (main : List ℕ) (are : AreLinked files main) where
  -- all classes have filled code
  all_filled : AllByRecursion HasFilledCode (boot_files ++ files)
  all_filled = all_append HasFilledCode boot_files files
      (all_more IsClass HasFilledCode boot_files filled_code (by_recursion IsClass boot_files boot_formed))
      (all_more IsClass HasFilledCode files filled_code (by_recursion IsClass files are.formed))

  -- there are the boot classes at least
  many : 34 ≤ length (boot_files ++ files)
  many = let n = boot_count in let both = length-append boot_files files in omega arith

  -- a method is declared by a class
  owner_in : (n : ℕ) → owner_of (linked files main) n < length (linked files main).classes
  unfolding image_of
  owner_in n = by (slice_get (method_infos (boot_files ++ files)) n) refl
    where
      by : (o : Option MethodInfo) → slice_get (method_infos (boot_files ++ files)) n ≡ o → from 0 (λ i. i.owner) o < length (class_infos (boot_files ++ files) (array_types files) (literals files))
      by None e = let count = count_infos (boot_files ++ files) (array_types files) (literals files) in let m = many in omega arith
      by (Some i) e =
          let count = count_infos (boot_files ++ files) (array_types files) (literals files) in
          let l : i.owner < length (boot_files ++ files) = all_at (λ m. m.owner < length (boot_files ++ files)) (method_infos (boot_files ++ files)) n i (owners_in (boot_files ++ files)) e in
          omega arith

  -- a method with code is one of the program
  there : (n : ℕ) (c : Code) → code_of (linked files main) n ≡ Some c → n < length (linked files main).methods
  there n c e =
      let i = then_some (λ info. body_code info.body) (slice_get (linked files main).methods n) c e in
      slice_get_within (linked files main).methods n i.0 i.1

  -- the class of all that is thrown is there
  throws : 8 < length (linked files main).classes
  unfolding image_of
  throws = let count = count_infos (boot_files ++ files) (array_types files) (literals files) in let m = many in omega arith

  typed : IsTyped (linked files main)
  typed = linked_typed (boot_files ++ files) (array_types files) (literals files) (start_of files main) (let m = many in omega arith) (types_level files) all_filled

  -- each method with code may be verified
  pub verifiable : AreVerifiable (linked files main)
  verifiable n has =
      is_verifiable (linked files main) typed n has.0 has.1
      (linked_decoded (boot_files ++ files) (array_types files) (literals files) (start_of files main) (let m = many in omega arith) (types_level files) all_filled n has.0 has.1)
      throws (owner_in n) (there n has.0 has.1)

  -- the classes form one tree
  pub one_tree : IsTree (superclasses (linked files main))
  one_tree =
      is_tree (boot_files ++ files) (array_types files) (literals files) (start_of files main) (has_ranks files main are.none).0 (ranked_by Super (boot_files ++ files) (has_ranks files main are.none).0 (has_ranks files main are.none).1) (let m = many in omega arith)
      (no_super files main are.none) (has_super files main are.none)

-- linking owes both
pub linked_law : LinkedLaw
linked_law files main are = (one_tree files main are, verifiable files main are)
