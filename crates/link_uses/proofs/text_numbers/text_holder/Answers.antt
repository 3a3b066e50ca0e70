use Rattle.link_rules.specs.Numbers.{holder_of}
use Rattle.link_uses.proofs.TextLaws.{of_there}
use Rattle.link_uses.proofs.text_numbers.text_holder.Goals as goal

pub returns-in-Some : goal.returns-in-Some
returns-in-Some c = of_there (holder_of c.args.program.now) c.args.pool.now c.args.told.now c.args.index c.in-Some.number.now c.requires.told c.in-Some.ensures.lookup.0 c.in-Some.ensures.lookup.1
