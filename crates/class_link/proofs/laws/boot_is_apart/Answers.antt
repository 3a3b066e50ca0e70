use Rattle.class_link.proofs.BootLaws.{boot_count, boot_apart, boot_falls}
use Rattle.class_link.proofs.laws.boot_is_apart.Goals as goal

pub returns-clause-count : goal.returns-clause-count
returns-clause-count c = boot_count

pub returns-clause-names : goal.returns-clause-names
returns-clause-names c = boot_apart

pub returns-clause-falls : goal.returns-clause-falls
returns-clause-falls c = boot_falls
