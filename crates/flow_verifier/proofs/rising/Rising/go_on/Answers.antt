use Rattle.flow_verifier.proofs.Visits.{visit-end}
use Rattle.flow_verifier.proofs.rising.Rising.go_on.Goals as goal
use Rattle.std.proofs.Common.{arith}

pub returns-clause-going : goal.returns-clause-going
returns-clause-going g c =
    visit-end c.args.image.now c.requires.tree c.args.m.now c.requires.fine c.in-Some.visit c.loop-k.k c.loop-k.self c.loop-k.invariant.visiting
    (omega (arith, c.len-k-end.ensures, c.loop-k-test.false))
