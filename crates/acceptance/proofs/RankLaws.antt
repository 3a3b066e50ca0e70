-- Where linking refuses nothing, no class lies above itself.
use Rattle.std.proofs.Common.{◌≡◌, ℕ, ◌+◌, List, [], length, arith}
use Rattle.std.specs.List.{flat_map}
use Rattle.std.proofs.lemmas.List.{length-append, length-map}
use Rattle.boot_table.specs.Files.{boot_files}
use Rattle.class_format.specs.declared.class.ClassFile.{ClassFile}
use Rattle.class_link.specs.Mains.{first_number}
use Rattle.class_link.specs.Refusals.{classes_of, name_refusals, above_refusals, rule_refusals, link_refusals}
use Rattle.class_link.proofs.BootLaws.{boot_falls}
use Rattle.hierarchy.proofs.LoopLaws.{there_are_ranks}
use Rattle.link_members.specs.Rows.{row_by}
use Rattle.link_members.specs.declared.row_table.Step.TheVariants.{Above}
use Rattle.link_members.proofs.LoopLaws.{parts_none, none_above_itself}
use Rattle.link_members.proofs.RowLaws.{rows_within}
use Rattle.link_rules.specs.Classes.{wrong_above, final_super, super_loop}
use Rattle.link_rules.specs.Numbers.{numbered, above_rows}
use Rattle.link_uses.specs.Tables.{HasRanks}
use Rattle.acceptance.proofs.SuperLaws.{boot_count}

module _ (files : List ClassFile) (main : List ℕ) (none : link_refusals files main ≡ []) where
  -- no file's class is on a loop
  no_loop : numbered (super_loop (above_rows (classes_of files))) first_number files ≡ []
  unfolding link_refusals rule_refusals above_refusals
  no_loop =
      let rules = (parts_none _ (rule_refusals files main) none).1 in
      let above = (parts_none (above_refusals (classes_of files) first_number files) _ (parts_none (name_refusals boot_files files) _ rules).1).0 in
      (parts_none (flat_map (final_super (classes_of files)) files) _ (parts_none (flat_map (wrong_above (classes_of files)) files) _ above).1).1

  -- so each class has a rank
  pub has_ranks : HasRanks (above_rows (classes_of files))
  has_ranks =
      let all : List ClassFile = classes_of files in
      let rows : List (List ℕ) = above_rows all in
      let within = rows_within Above all in
      let count : 34 + length files ≡ length rows = let m = length-map all (row_by Above all) in let n = length-append boot_files files in let b = boot_count in omega arith in
      (_, there_are_ranks rows within (λ x u. none_above_itself rows x 34 files within (boot_falls files) count u no_loop))
