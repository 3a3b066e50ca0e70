use Rattle.std.proofs.Common.{sym, subst}
use Rattle.std.specs.Prelude.{length}
use Rattle.flow_types.specs.Tree.{superclasses, IsTree}
use Rattle.program_image.specs.Program.{Program}
use Rattle.acceptance.specs.Accepted.{AreTyped, AreVerifiable}
use Rattle.acceptance.proofs.Verifiable.{linked_law}
use Rattle.acceptance.proofs.accepting.accept.Goals as goal

pub verify_all-requires-clause-tree : goal.verify_all-requires-clause-tree
verify_all-requires-clause-tree c =
    let law = linked_law c.args.files.now c.args.main.now (record { formed = c.requires.formed; none = c.in-Ok.ensures.answer }) in
    subst (λ (p : Program). IsTree (superclasses p)) (sym c.in-Ok.ensures.image) law.0

pub verify_all-requires-clause-fine : goal.verify_all-requires-clause-fine
verify_all-requires-clause-fine c =
    let law = linked_law c.args.files.now c.args.main.now (record { formed = c.requires.formed; none = c.in-Ok.ensures.answer }) in
    subst AreVerifiable (sym c.in-Ok.ensures.image) law.1

pub returns-in-Ok-verify_all : goal.returns-in-Ok-verify_all
returns-in-Ok-verify_all c = (
  c.in-Ok.ensures.image,
  record {
    links = c.in-Ok.ensures.answer;
    typed = subst (λ (p : Program). AreTyped p (length p.methods)) c.in-Ok.ensures.image c.in-Ok-verify_all.ensures;
  },
)
