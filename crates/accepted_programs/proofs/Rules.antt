-- What linking's rules on classes and code say where they refuse nothing.
use Rattle.std.proofs.Common.{◌≡◌, ℕ, List, [], ◌++◌, map}
use Rattle.std.specs.List.{flat_map}
use Rattle.boot_table.specs.Files.{boot_files}
use Rattle.class_format.specs.declared.class.ClassFile.{ClassFile}
use Rattle.class_names.specs.Classes.{this_name}
use Rattle.link_rules.specs.Classes.{same_class, no_class, wrong_above, final_super}
use Rattle.link_members.proofs.LoopLaws.{parts_none}
use Rattle.class_link.specs.Mains.{first_number}
use Rattle.class_link.specs.Refusals.{classes_of, name_refusals, above_refusals, declared_refusals, use_refusals, member_refusals, rule_refusals, link_refusals}
use Rattle.link_rules.specs.Descriptors.{left_out_desc}
use Rattle.link_rules.specs.Members.{wrong_members, bad_overrides}
use Rattle.link_rules.specs.Numbers.{numbered}
use Rattle.link_uses.specs.Uses.{no_members, wrong_uses, no_access}

module _ (files : List ClassFile) (main : List ℕ) (none : link_refusals files main ≡ []) where
  above : above_refusals (classes_of files) first_number files ≡ []
  unfolding link_refusals rule_refusals
  above =
      let rules = (parts_none _ (rule_refusals files main) none).1 in
      (parts_none (above_refusals (classes_of files) first_number files) _ (parts_none (name_refusals boot_files files) _ rules).1).0

  -- superclasses and interfaces are of their kinds
  pub right_above : flat_map (wrong_above (boot_files ++ files)) files ≡ []
  unfolding above_refusals
  right_above = (parts_none (flat_map (wrong_above (boot_files ++ files)) files) _ above).0

  -- no superclass is final
  pub no_final : flat_map (final_super (boot_files ++ files)) files ≡ []
  unfolding above_refusals
  no_final = (parts_none (flat_map (final_super (boot_files ++ files)) files) _ (parts_none (flat_map (wrong_above (boot_files ++ files)) files) _ above).1).0

  members : member_refusals (classes_of files) first_number files ≡ []
  unfolding link_refusals rule_refusals
  members =
      let rules = (parts_none _ (rule_refusals files main) none).1 in
      (parts_none (member_refusals (classes_of files) first_number files) _ (parts_none (above_refusals (classes_of files) first_number files) _ (parts_none (name_refusals boot_files files) _ rules).1).1).0

  -- no declared member is of a wrong kind
  pub no_wrong : flat_map wrong_members files ≡ []
  unfolding member_refusals declared_refusals
  no_wrong =
      let declared = (parts_none (declared_refusals (classes_of files) first_number files) (use_refusals (classes_of files) first_number files) members).0 in
      (parts_none (flat_map wrong_members files) (numbered (bad_overrides (classes_of files)) first_number files) (parts_none (flat_map left_out_desc files) (flat_map wrong_members files ++ numbered (bad_overrides (classes_of files)) first_number files) declared).1).0

  -- each class that is named is there
  pub no_missing : flat_map (no_class (map this_name (boot_files ++ files))) files ≡ []
  unfolding link_refusals rule_refusals name_refusals
  no_missing =
      let rules = (parts_none _ (rule_refusals files main) none).1 in
      (parts_none (same_class (map this_name boot_files) files) (flat_map (no_class (map this_name (boot_files ++ files))) files) (parts_none (name_refusals boot_files files) _ rules).0).1

  used : use_refusals (classes_of files) first_number files ≡ []
  unfolding member_refusals
  used = (parts_none (declared_refusals (classes_of files) first_number files) (use_refusals (classes_of files) first_number files) members).1

  -- each member that is used is found
  pub no_lacking : flat_map (no_members (boot_files ++ files)) files ≡ []
  unfolding use_refusals
  no_lacking = (parts_none (flat_map (no_members (boot_files ++ files)) files) _ used).0

  -- and is of its kind
  pub no_wrong_use : flat_map (wrong_uses (boot_files ++ files)) files ≡ []
  unfolding use_refusals
  no_wrong_use = (parts_none (flat_map (wrong_uses (boot_files ++ files)) files) (numbered (no_access (boot_files ++ files)) first_number files) (parts_none (flat_map (no_members (boot_files ++ files)) files) _ used).1).0
