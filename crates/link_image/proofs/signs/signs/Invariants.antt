use Rattle.program_image.proofs.Signatures.{Signed}
use Rattle.link_image.proofs.signs.signs.Given as goal

abbrev pub invariant-loop-place : goal.invariant-loop-place
invariant-loop-place l = Signed l.methods l.names l.descs l.signs l.place
