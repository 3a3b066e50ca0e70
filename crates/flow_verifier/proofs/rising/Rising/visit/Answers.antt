use Rattle.std.proofs.Common.{arith}
use Rattle.flow_verifier.proofs.Leads.{ways_are}
use Rattle.flow_verifier.proofs.rising.Rising.visit.Goals as goal

pub returns-in_err-catch-clause-cost : goal.returns-in_err-catch-clause-cost
returns-in_err-catch-clause-cost g c =
    omega (arith, ways_are c.args.image.now c.args.m.now c.args.at, c.catch.ensures.cost)

pub returns-clause-cost : goal.returns-clause-cost
returns-clause-cost g c =
    omega (arith, ways_are c.args.image.now c.args.m.now c.args.at, c.catch.ensures.cost, c.go_on.ensures.cost)
