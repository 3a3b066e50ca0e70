use Rattle.std.proofs.Common.{◌≡◌, map, take}
use Rattle.program_image.specs.Built.Ancestry.{parts_in}
use Rattle.program_image.proofs.ancestry.parts_rows.Given as goal

abbrev pub invariant-loop-row : goal.invariant-loop-row
invariant-loop-row l = l.parts ≡ map (parts_in l.classes) (take l.row-index l.rows)
