use Rattle.std.proofs.Common.{◌∙◌, arith}
use Rattle.std.proofs.lemmas.Option.{slice_get-get_or}
use Rattle.flow_verifier.proofs.Fitting.{none_fitted, set_fitted}
use Rattle.flow_verifier.proofs.method.fitted.Goals as goal

pub loop-i-init : goal.loop-i-init
loop-i-init c = c.unusable-locals.ensures ∙ none_fitted c.args.count c.args.types.now

pub loop-i-preserved : goal.loop-i-preserved
loop-i-preserved c =
    set_fitted c.set.new.self c.loop-i.locals c.args.types.now c.loop-i.i c.args.count _ c.in_ok-set.ensures.ok c.loop-i.invariant
    (slice_get-get_or c.args.types.now c.loop-i.i _ (omega (arith, c.min-i-end.ensures, c.loop-i-test.true)))
    (omega (arith, c.min-i-end.ensures, c.loop-i-test.true))
