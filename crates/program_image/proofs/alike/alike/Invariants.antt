use Rattle.std.proofs.Common.{take}
use Rattle.program_image.specs.Built.Alike.{AreAlike}
use Rattle.program_image.proofs.alike.alike.Given as goal

abbrev pub invariant-loop-class : goal.invariant-loop-class
invariant-loop-class l = AreAlike l.by l.classes (take l.class l.classes) l.alike.entries
