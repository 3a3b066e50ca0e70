use Rattle.std.proofs.Common.{refl}
use Rattle.flow_verifier.proofs.Visits.{mark-less}
use Rattle.flow_verifier.proofs.rising.Rising.pop.Goals as goal

pub returns-clause-marked : goal.returns-clause-marked
returns-clause-marked c = mark-less c.args.self.now _ c.in_ok-at.at c.requires.marked refl c.clear.ensures c.in_ok-at.ensures
