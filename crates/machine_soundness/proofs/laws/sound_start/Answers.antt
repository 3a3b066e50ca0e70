use Rattle.machine_soundness.proofs.StartLaws.{sound-start}
use Rattle.machine_soundness.proofs.laws.sound_start.Goals as goal

pub returns : goal.returns
returns c = sound-start
