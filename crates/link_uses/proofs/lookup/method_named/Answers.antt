use Rattle.std.proofs.Common.{◌∙◌}
use Rattle.class_names.specs.Seen.{seen_member}
use Rattle.link_uses.proofs.SignLaws.{method_signed}
use Rattle.link_uses.proofs.lookup.method_named.Goals as goal

pub returns : goal.returns
returns c =
    c.signed_method.ensures
    ∙ method_signed c.args.program.now c.args.owned.now c.args.supers.now c.args.interfaces.now c.args.met.now (seen_member c.args.m.now) c.sign-sign.result c.holder-number.result c.requires.owned c.requires.supers c.requires.interfaces c.requires.met c.requires.ranked c.requires.some c.sign-sign.ensures c.holder-number.ensures.value
