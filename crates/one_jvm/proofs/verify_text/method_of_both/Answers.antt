use Rattle.one_jvm.specs.Outcomes.{whole_text}
use Rattle.one_jvm.proofs.TextLemmas.{text_first, text_behind}
use Rattle.one_jvm.proofs.verify_text.method_of_both.Goals as goal

pub returns-in-Ok : goal.returns-in-Ok
returns-in-Ok c = text_first c.args.first.now c.args.second.now c.args.number _ c.in-Ok.ensures

pub returns-in-Err : goal.returns-in-Err
returns-in-Err c =
    text_behind c.args.first.now c.args.second.now c.args.number c.in-Err.rest (λ r. whole_text r.0.now r.1.now) c.method_of-in-Err.result c.in-Err.ensures c.method_of-in-Err.ensures
