use Rattle.class_names.specs.Texts.{member_in}
use Rattle.link_rules.specs.Classes.{names_interface}
use Rattle.link_rules.proofs.MarkLaws.{told_tested}
use Rattle.link_uses.proofs.told.is_of_interface.Goals as goal

pub returns-in-Some : goal.returns-in-Some
returns-in-Some c = told_tested (names_interface c.args.program.now) c.args.pool.now c.args.told.now (member_in c.args.pool.now c.args.item).class c.in-Some.is_interface c.requires c.in-Some.ensures
