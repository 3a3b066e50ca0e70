use Rattle.std.proofs.Common.{ap, sym, subst, arith, length}
use Rattle.std.specs.Prelude.{All}
use Rattle.boot_table.proofs.BootLaws.{boot_formed}
use Rattle.link_rules.specs.Sizes.{HasFewMethods}
use Rattle.class_link.proofs.BootLaws.{boot_count}
use Rattle.class_link.proofs.Small.{methods_short}
use Rattle.class_link.proofs.making.boot_codes.Goals as goal

pub decode_files-requires-clause-files : goal.decode_files-requires-clause-files
decode_files-requires-clause-files c = let same = ap length c.requires in let count = boot_count in omega arith

pub decode_files-requires-clause-methods : goal.decode_files-requires-clause-methods
decode_files-requires-clause-methods c = subst (All HasFewMethods) (sym c.requires) (methods_short _ boot_formed)
