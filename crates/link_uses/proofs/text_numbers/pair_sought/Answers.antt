use Rattle.std.proofs.Common.{ap, sym, ◌∙◌, slice_get}
use Rattle.class_names.specs.Texts.{Member}
use Rattle.link_rules.specs.Numbers.{holder_of}
use Rattle.link_uses.specs.Owned.{sign_of}
use Rattle.link_uses.proofs.TextLaws.{pair_some, pair_none}
use Rattle.link_uses.proofs.text_numbers.pair_sought.Goals as goal

pub returns-in-Some-clause-holder : goal.returns-in-Some-clause-holder
returns-in-Some-clause-holder c =
    let e = pair_some c.args.pool.now c.args.class (slice_get c.args.pool.now c.args.pair) c.in-Some.texts (sym c.pair_at.ensures ∙ c.in-Some.is) in
    c.text_sought.ensures.holder ∙ ap (λ (m : Member). holder_of c.args.program.now m.class) (sym e)

pub returns-in-Some-clause-sign : goal.returns-in-Some-clause-sign
returns-in-Some-clause-sign c =
    let e = pair_some c.args.pool.now c.args.class (slice_get c.args.pool.now c.args.pair) c.in-Some.texts (sym c.pair_at.ensures ∙ c.in-Some.is) in
    c.text_sought.ensures.sign ∙ ap (sign_of c.args.names.now) (sym e)

pub returns-in-None-clause-holder : goal.returns-in-None-clause-holder
returns-in-None-clause-holder c =
    let e = pair_none c.args.pool.now c.args.class (slice_get c.args.pool.now c.args.pair) (sym c.pair_at.ensures ∙ c.in-None.is) in
    c.empty_sought.ensures.holder ∙ ap (λ (m : Member). holder_of c.args.program.now m.class) (sym e)

pub returns-in-None-clause-sign : goal.returns-in-None-clause-sign
returns-in-None-clause-sign c =
    let e = pair_none c.args.pool.now c.args.class (slice_get c.args.pool.now c.args.pair) (sym c.pair_at.ensures ∙ c.in-None.is) in
    c.empty_sought.ensures.sign ∙ ap (sign_of c.args.names.now) (sym e)
