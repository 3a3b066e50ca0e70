-- What the rules need of the boot classes, found by computing.
use Rattle.std.proofs.Common.{◌≡◌, true, List, [], ◌++◌, length, refl, ap, arith, ◌+◌}
use Rattle.std.proofs.lemmas.List.{length-append}
use Rattle.boot_table.specs.Files.{boot_files}
use Rattle.boot_table.specs.Intrinsics.{intrinsics}
use Rattle.boot_table.specs.Table.{boot_rows, first_rows, exceptions}
use Rattle.class_format.specs.declared.class.ClassFile.{ClassFile}
use Rattle.link_members.specs.Rows.{IsFalling}
use Rattle.link_rules.specs.Classes.{same_class}
use Rattle.link_rules.specs.Numbers.{above_rows}
use Rattle.class_link.specs.Natives.{natives}
use Rattle.class_link.proofs.Falling.{are_falling, rows_fall}

pub boot_count : length boot_files ≡ 34
unfolding boot_files boot_rows first_rows exceptions
boot_count = refl

-- no two have one name
pub boot_apart : same_class [] boot_files ≡ []
unfolding boot_files boot_rows first_rows exceptions
boot_apart = refl

-- the native ones are the intrinsics, in their order
pub boot_natives : natives boot_files ≡ intrinsics
unfolding boot_files boot_rows first_rows exceptions intrinsics
boot_natives = refl

boot_falling : are_falling [] boot_files ≡ true
unfolding boot_files boot_rows first_rows exceptions
boot_falling = refl

-- each has only lower numbers above it, whatever files there are
pub boot_falls : (files : List ClassFile) → IsFalling (above_rows (boot_files ++ files)) 34
boot_falls files = λ c k lt w.
    let count = boot_count in
    let low = rows_fall (boot_files ++ files) [] boot_files files c k refl boot_falling (omega arith) w in omega arith

-- how many classes there are
pub class_count : (all files : List ClassFile) → all ≡ boot_files ++ files → length all ≡ 34 + length files
class_count all files e =
    let count = boot_count in let both = length-append boot_files files in let same = ap length e in omega arith
