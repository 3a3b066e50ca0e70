use Rattle.machine_state.proofs.LegalRuns.{legal_locks}
use Rattle.machine_state.proofs.laws.legal_locks.Goals as goal

pub returns : goal.returns
returns c = legal_locks
