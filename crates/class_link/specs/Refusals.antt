-- What linking refuses: one list in order, of which the first is answered. For one rule the refusals
-- come file by file, and within a file in the order of its bytes. `all` are the boot classes with the
-- files' classes behind them, and `first` is the number of the first file's class.
use Rattle.std.specs.Prelude.{ℕ, ◌+◌, List, [], ◌∷◌, ◌++◌, length, map, if◌then◌else◌}
use Rattle.std.specs.List.{flat_map}
use Rattle.boot_table.specs.Files.{boot_files}
use Rattle.class_format.specs.declared.class.ClassFile.{ClassFile}
use Rattle.class_names.specs.Classes.{this_name}
use Rattle.link_arrays.specs.ArrayClasses.{too_many}
use Rattle.link_rules.specs.declared.error.LinkErr.{LinkErr}
use Rattle.link_rules.specs.declared.error.LinkErr.TheVariants.{Bad}
use Rattle.link_rules.specs.declared.error.LinkWhy.TheVariants.{TooMany}
use Rattle.link_rules.specs.Classes.{same_class, no_class, wrong_above, final_super, super_loop}
use Rattle.link_rules.specs.Decoding.{undecoded_file}
use Rattle.link_rules.specs.Descriptors.{left_out_desc}
use Rattle.link_rules.specs.Members.{wrong_members, bad_overrides}
use Rattle.link_rules.specs.Numbers.{numbered, above_rows}
use Rattle.link_uses.specs.Uses.{no_members, wrong_uses, no_access}
use Rattle.class_link.specs.Mains.{first_number, no_main}

-- the classes of a program by number
abbrev pub classes_of : List ClassFile → List ClassFile
classes_of files = boot_files ++ files

-- same-class, no-class
unfoldable pub name_refusals : List ClassFile → List ClassFile → List LinkErr
name_refusals boot files =
    same_class (map this_name boot) files
    ++ flat_map (no_class (map this_name (boot ++ files))) files

-- wrong-kind of superclasses and interfaces, final-super, super-loop
unfoldable pub above_refusals : List ClassFile → ℕ → List ClassFile → List LinkErr
above_refusals all first files =
    flat_map (wrong_above all) files
    ++ (flat_map (final_super all) files
    ++ numbered (super_loop (above_rows all)) first files)

-- left-out-desc, wrong-kind of declared members, bad-override
unfoldable pub declared_refusals : List ClassFile → ℕ → List ClassFile → List LinkErr
declared_refusals all first files =
    flat_map left_out_desc files
    ++ (flat_map wrong_members files
    ++ numbered (bad_overrides all) first files)

-- no-field and no-method, wrong-kind of uses, no-access
unfoldable pub use_refusals : List ClassFile → ℕ → List ClassFile → List LinkErr
use_refusals all first files =
    flat_map (no_members all) files
    ++ (flat_map (wrong_uses all) files
    ++ numbered (no_access all) first files)

-- of members: those that are declared, then those that code uses
unfoldable pub member_refusals : List ClassFile → ℕ → List ClassFile → List LinkErr
member_refusals all first files = declared_refusals all first files ++ use_refusals all first files

-- too-many: the declared classes and the array classes are more than there may be
abbrev pub too_many_classes : List ClassFile → List ℕ → List LinkErr
too_many_classes files main =
    if too_many (first_number + length files) files then Bad TooMany main [] ∷ [] else []

-- the rules from same-class to too-many
unfoldable pub rule_refusals : List ClassFile → List ℕ → List LinkErr
rule_refusals files main =
    name_refusals boot_files files
    ++ (above_refusals (classes_of files) first_number files
    ++ (member_refusals (classes_of files) first_number files
    ++ (no_main files main
    ++ too_many_classes files main)))

-- all refusals of linking: code that isn't decoded, then those rules
unfoldable pub link_refusals : List ClassFile → List ℕ → List LinkErr
link_refusals files main = numbered undecoded_file 0 files ++ rule_refusals files main
