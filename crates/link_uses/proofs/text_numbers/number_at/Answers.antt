use Rattle.link_members.specs.Signs.{name_number}
use Rattle.link_uses.proofs.TextLaws.{of_there}
use Rattle.link_uses.proofs.text_numbers.number_at.Goals as goal

pub returns-in-Some : goal.returns-in-Some
returns-in-Some c = of_there (name_number c.args.names.now) c.args.pool.now c.args.told.now c.args.index c.in-Some.number.now c.requires c.in-Some.ensures.lookup.0 c.in-Some.ensures.lookup.1
