use Rattle.machine_state.proofs.LikenessLaws.{one_next}
use Rattle.machine_state.proofs.laws.one_next.Goals as goal

pub returns : goal.returns
returns c = one_next
