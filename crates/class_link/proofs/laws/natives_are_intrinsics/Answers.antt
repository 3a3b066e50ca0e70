use Rattle.class_link.proofs.BootLaws.{boot_natives}
use Rattle.class_link.proofs.laws.natives_are_intrinsics.Goals as goal

pub returns : goal.returns
returns c = boot_natives
