use Rattle.std.proofs.Common.{◌≡◌, map, take}
use Rattle.program_image.specs.Subclass.{above}
use Rattle.program_image.proofs.ancestry.above_rows.Given as goal

abbrev pub invariant-loop-class : goal.invariant-loop-class
invariant-loop-class l = l.rows ≡ map above (take l.class-index l.classes)
