use Rattle.std.proofs.Common.{sym}
use Rattle.flow_verifier.specs.Worklist.Leading.{ways_caught}
use Rattle.flow_verifier.proofs.Worklist.{skip}
use Rattle.flow_verifier.proofs.Visits.{visit-start}
use Rattle.flow_verifier.proofs.rising.Rising.visit_of.Goals as goal

pub returns-in_ok-flowing-in-Some-clause-visiting :
    goal.returns-in_ok-flowing-in-Some-clause-visiting
returns-in_ok-flowing-in-Some-clause-visiting c =
    visit-start c.args.image.now c.requires.tree c.args.m.now c.requires.fine c.args.at c.in-Some.f.now c.in_ok-flowing-in-Some.field-0 c.args.self.now c.in_ok-flowing-in-Some.ensures.at c.in_ok-flowing-in-Some.ensures.flowing (sym c.in-Some.ensures) c.requires.marked c.requires.catching c.requires.off

pub returns-in-None-clause-visiting : goal.returns-in-None-clause-visiting
returns-in-None-clause-visiting c =
    skip c.args.image.now c.requires.tree c.args.m.now c.requires.fine c.args.at (ways_caught c.args.image.now c.args.m.now c.args.at) c.args.self.now.frames c.args.self.now.todo c.requires.off (sym c.in-None.ensures)
