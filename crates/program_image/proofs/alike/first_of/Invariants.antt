use Rattle.std.proofs.Common.{◌≡◌, take, None}
use Rattle.hierarchy.specs.Walks.{first_some}
use Rattle.program_image.specs.Built.Alike.{with_text}
use Rattle.program_image.proofs.alike.first_of.Given as goal

abbrev pub invariant-loop-class : goal.invariant-loop-class
invariant-loop-class l = first_some (with_text l.by l.classes l.text) (take l.class-index l.some) ≡ None
