use Rattle.std.proofs.Common.{refl}
use Rattle.flow_verifier.proofs.Verdict.{typing, refused}
use Rattle.flow_verifier.proofs.verifying.judge.Goals as goal

pub returns-in-Ok-Some-clause-verdict : goal.returns-in-Ok-Some-clause-verdict
returns-in-Ok-Some-clause-verdict g c =
    let r = refused c.args.image.now c.requires.tree c.args.m.now c.requires.fine c.in-Ok.frames c.in-Ok-Some.breach.rule c.in-Ok-Some.breach.place c.address_of.result c.in-Ok.ensures.least (rw c.in-Ok-Some.field-0-is at c.in-Ok-Some.ensures) c.address_of.ensures in
    (refl, r.0, r.1)

pub returns-in-Ok-None-clause-verdict : goal.returns-in-Ok-None-clause-verdict
returns-in-Ok-None-clause-verdict g c =
    typing c.args.image.now c.requires.tree c.args.m.now c.requires.fine c.in-Ok.frames c.in-Ok.ensures.least (rw c.in-Ok-None.field-0-is at c.in-Ok-None.ensures)
