use Rattle.program_image.proofs.Signatures.{Signed}
use Rattle.program_image.proofs.signs.signs.Given as goal

abbrev pub invariant-loop-method : goal.invariant-loop-method
invariant-loop-method l = Signed l.methods l.names l.descs l.signs l.method-index
