use Rattle.typed_code.proofs.Kept.{framing_law}
use Rattle.typed_code.proofs.laws.typings_are_kept.Goals as goal

pub returns : goal.returns
returns c = framing_law
