use Rattle.machine_soundness.proofs.BlockLaws.{refused}
use Rattle.machine_soundness.proofs.laws.refused_waits.Goals as goal

pub returns : goal.returns
returns c = refused
