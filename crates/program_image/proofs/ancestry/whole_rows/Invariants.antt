use Rattle.std.proofs.Common.{◌≡◌, map, take}
use Rattle.program_image.specs.Subclass.{all_above}
use Rattle.program_image.proofs.ancestry.whole_rows.Given as goal

abbrev pub invariant-loop-class : goal.invariant-loop-class
invariant-loop-class l = l.rows ≡ map all_above (take l.class-index l.classes)
