-- Linking refuses too many classes.
use Rattle.std.proofs.Common.{◌≡◌, ℕ, ◌+◌, false, List, [], ◌++◌, length, refl, arith}
use Rattle.std.proofs.lemmas.Bool.{ltb-false}
use Rattle.boot_table.specs.Files.{boot_files}
use Rattle.class_format.specs.declared.class.ClassFile.{ClassFile}
use Rattle.link_arrays.specs.Arrays.{array_types}
use Rattle.link_arrays.specs.ArrayClasses.{too_many}
use Rattle.link_arrays.specs.Literals.{literals}
use Rattle.link_image.specs.Image.{image_of}
use Rattle.link_image.proofs.ClassLaws.{count_infos}
use Rattle.link_members.proofs.LoopLaws.{parts_none}
use Rattle.link_rules.specs.Decoding.{undecoded_file}
use Rattle.link_rules.specs.Numbers.{numbered}
use Rattle.link_rules.specs.declared.error.LinkErr.TheVariants.{Bad}
use Rattle.link_rules.specs.declared.error.LinkWhy.TheVariants.{TooMany}
use Rattle.class_link.specs.Linked.{linked}
use Rattle.class_link.specs.Mains.{first_number, no_main}
use Rattle.class_link.specs.Refusals.{classes_of, name_refusals, above_refusals, member_refusals, too_many_classes, rule_refusals, link_refusals}
use Rattle.class_link.proofs.BootLaws.{class_count}
use Rattle.class_link.proofs.Fits.{not_refused}
use Rattle.written_orders.specs.Written.{FewLaw}

-- it refuses nothing, so it doesn't refuse this
not_too_many : (files : List ClassFile) (main : List ℕ) → link_refusals files main ≡ [] → too_many (first_number + length files) files ≡ false
unfolding link_refusals rule_refusals
not_too_many files main none =
    let rules = (parts_none (numbered undecoded_file 0 files) (rule_refusals files main) none).1 in
    let above = (parts_none (name_refusals boot_files files) _ rules).1 in
    let members = (parts_none (above_refusals (classes_of files) first_number files) _ above).1 in
    let start = (parts_none (member_refusals (classes_of files) first_number files) _ members).1 in
    let count = (parts_none (no_main files main) (too_many_classes files main) start).1 in
    not_refused (too_many (first_number + length files) files) (Bad TooMany main []) count

-- the image has the declared classes and the array classes
counted : (files : List ClassFile) (main : List ℕ) → length (linked files main).classes ≡ length (boot_files ++ files) + length (array_types files)
unfolding image_of
counted files main = count_infos (boot_files ++ files) (array_types files) (literals files)

pub few_law : FewLaw
few_law files main accepted =
    let all = class_count (boot_files ++ files) files refl in
    let most = ltb-false 16777216 (34 + length files + length (array_types files)) (not_too_many files main accepted.links) in
    let both = counted files main in
    omega (arith, all, most, both)
