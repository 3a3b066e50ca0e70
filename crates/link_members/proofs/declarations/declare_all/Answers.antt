use Rattle.link_members.proofs.SignLaws.{declared_signed}
use Rattle.link_members.proofs.declarations.declare_all.Goals as goal

pub returns : goal.returns
returns c = declared_signed c.args.program.now c.in_ok-names.names c.in_ok-methods.methods.entries c.in_ok-names.ensures c.in_ok-methods.ensures
