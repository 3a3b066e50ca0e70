use Rattle.class_names.specs.Texts.{text_in}
use Rattle.link_arrays.specs.Literals.{literal_number}
use Rattle.link_uses.proofs.TextLaws.{of_there}
use Rattle.link_image.proofs.ItemLaws.{literal_within}
use Rattle.link_image.proofs.constants.number_at.Goals as goal

pub returns-in-Some-clause-at : goal.returns-in-Some-clause-at
returns-in-Some-clause-at c =
    of_there (literal_number c.args.literals.now) c.args.pool.now c.args.told.now c.args.index c.in-Some.number.now c.requires c.in-Some.ensures.lookup.0 c.in-Some.ensures.lookup.1

pub returns-in-Some-clause-within : goal.returns-in-Some-clause-within
returns-in-Some-clause-within c =
    literal_within c.args.literals.now (text_in c.args.pool.now c.args.index) c.in-Some.number.now (of_there (literal_number c.args.literals.now) c.args.pool.now c.args.told.now c.args.index c.in-Some.number.now c.requires c.in-Some.ensures.lookup.0 c.in-Some.ensures.lookup.1)
