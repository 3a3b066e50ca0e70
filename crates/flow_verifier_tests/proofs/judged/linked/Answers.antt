use Rattle.std.proofs.Common.{sym, subst}
use Rattle.flow_types.specs.Tree.{superclasses, IsTree}
use Rattle.program_image.specs.Program.{Program}
use Rattle.acceptance.specs.Accepted.{AreVerifiable}
use Rattle.acceptance.proofs.Verifiable.{linked_law}
use Rattle.flow_verifier_tests.proofs.judged.linked.Goals as goal

pub returns-clause-tree : goal.returns-clause-tree
returns-clause-tree c =
    let law = linked_law c.args.files.now c.args.main.now (record { formed = c.requires.formed; none = c.in_ok-image.ensures.answer }) in
    subst (λ (p : Program). IsTree (superclasses p)) (sym c.in_ok-image.ensures.image) law.0

pub returns-clause-fine : goal.returns-clause-fine
returns-clause-fine c =
    let law = linked_law c.args.files.now c.args.main.now (record { formed = c.requires.formed; none = c.in_ok-image.ensures.answer }) in
    subst AreVerifiable (sym c.in_ok-image.ensures.image) law.1
