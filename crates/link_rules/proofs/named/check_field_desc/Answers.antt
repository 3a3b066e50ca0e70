use Rattle.class_names.specs.Texts.{member_in}
use Rattle.link_rules.proofs.KnownLaws.{field_told}
use Rattle.link_rules.proofs.MarkLaws.{told_there}
use Rattle.link_rules.proofs.named.check_field_desc.Goals as goal

pub returns-in-Some-true : goal.returns-in-Some-true
returns-in-Some-true c =
    let pool = c.args.file.now.pool in
    let told = told_there (λ p. (member_in p c.args.item).desc) c.args.known.now.fields c.as_slice.result.now pool c.as_slice-pool.result.now c.in-Some-true.field-0 _ c.as_slice.ensures c.as_slice-pool.ensures c.in-Some-true.field-0-test c.in-Some-true.ensures in
    field_told c.args.names.now c.args.file.now pool c.args.known.now.fields c.args.item c.args.desc.now c.requires.known.fields c.requires.spelled told
