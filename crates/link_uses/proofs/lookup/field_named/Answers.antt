use Rattle.std.proofs.Common.{◌∙◌}
use Rattle.class_names.specs.Seen.{seen_member}
use Rattle.link_uses.proofs.SignLaws.{field_signed}
use Rattle.link_uses.proofs.lookup.field_named.Goals as goal

pub returns : goal.returns
returns c =
    c.signed_field.ensures
    ∙ field_signed c.args.program.now c.args.owned.now c.args.fields.now (seen_member c.args.m.now) c.sign.result c.holder-number.result c.requires.owned c.requires.walked c.requires.some c.sign.ensures c.holder-number.ensures.value
