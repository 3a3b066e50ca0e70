use Rattle.std.proofs.Common.{◌∙◌, slice_get}
use Rattle.class_names.specs.Texts.{member_of_pair}
use Rattle.link_uses.proofs.SignLaws.{method_signed}
use Rattle.link_uses.proofs.lookup.method_of_pair.Goals as goal

pub returns : goal.returns
returns c =
    c.signed_method.ensures
    ∙ method_signed c.args.program.now c.args.owned.now c.args.supers.now c.args.interfaces.now c.args.met.now (member_of_pair c.args.pool.now c.args.class (slice_get c.args.pool.now c.args.pair)) c.pair_sought-sought.result.sign c.pair_sought-sought.result.holder c.requires.owned c.requires.supers c.requires.interfaces c.requires.met c.requires.ranked c.requires.some c.pair_sought-sought.ensures.sign c.pair_sought-sought.ensures.holder
