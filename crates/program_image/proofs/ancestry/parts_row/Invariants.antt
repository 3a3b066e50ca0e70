use Rattle.std.proofs.Common.{◌≡◌, ◌++◌, drop}
use Rattle.program_image.specs.Built.Ancestry.{parts_in}
use Rattle.program_image.proofs.ancestry.parts_row.Given as goal

abbrev pub invariant-loop-class : goal.invariant-loop-class
invariant-loop-class l = parts_in l.classes l.row ≡ l.parts ++ parts_in l.classes (drop l.class-index l.row)
