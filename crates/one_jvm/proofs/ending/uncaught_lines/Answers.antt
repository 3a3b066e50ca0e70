use Rattle.std.proofs.Common.{ℕ, ◌<◌, ◌++◌, List, length, get_or, sym, ap, ◌∙◌, arith}
use Rattle.jvm_base.specs.declared.value.Uncaught.{Uncaught}
use Rattle.one_jvm.specs.Outcomes.{uncaught_text}
use Rattle.one_jvm.proofs.TextLemmas.{map_more_at}
use Rattle.one_jvm.proofs.ending.uncaught_lines.Goals as goal

pub loop-one-preserved : goal.loop-one-preserved
loop-one-preserved c =
    let uncaught : List Uncaught = c.args.uncaught.now in
    let lt : c.loop-one.one-index < length uncaught = omega arith in
    let none : Uncaught = record { thread = 0; class = 0 } in
    let one : Uncaught = get_or uncaught c.loop-one.one-index none in
    c.in_ok-push_uncaught.ensures
    ∙ ap (λ (z : List ℕ). z ++ uncaught_text c.args.image.now one) c.loop-one.invariant
    ∙ sym (map_more_at (uncaught_text c.args.image.now) uncaught c.loop-one.one-index none lt)
