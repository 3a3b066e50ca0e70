use Rattle.link_arrays.specs.ArrayClasses.{class_number}
use Rattle.link_uses.proofs.TextLaws.{of_there}
use Rattle.link_image.proofs.items.text_class.Goals as goal

pub returns-in-Some : goal.returns-in-Some
returns-in-Some c =
    of_there (class_number c.args.lookup.now.resolver.now c.args.lookup.now.arrays.now) c.args.pool.now c.args.told.now c.args.index c.in-Some.number.now c.requires.told c.in-Some.ensures.lookup.0 c.in-Some.ensures.lookup.1
