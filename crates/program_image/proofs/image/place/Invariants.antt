use Rattle.std.proofs.Common.{◌≡◌, [], drop}
use Rattle.program_image.specs.Places.{placed}
use Rattle.program_image.proofs.image.place.Given as goal

abbrev pub invariant-loop-method : goal.invariant-loop-method
invariant-loop-method l = placed [] l.targets ≡ placed l.map.entries (drop l.method-index l.targets)
