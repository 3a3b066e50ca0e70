use Rattle.std.proofs.Common.{◌∙◌, Some, None, sym, ap, subst}
use Rattle.std.specs.Option.{option_copied}
use Rattle.step_plan.specs.Depth.{who_at}
use Rattle.step_plan.specs.Shown.{frame_in}
use Rattle.step_plan.specs.Ways.{GoesBy}
use Rattle.step_plan.proofs.Going.{init_goes}
use Rattle.step_plan.proofs.top.running_plan.Goals as goal

pub returns-in-Some-Init-clause-goes : goal.returns-in-Some-Init-clause-goes
returns-in-Some-Init-clause-goes g c =
    let p = c.args.site.now.image.now in
    let x = c.initialises.result in
    let at = sym c.top.ensures ∙ ap option_copied c.in-Some-Init.is ∙ ap Some c.in-Some-Init.field-0-is in
    subst (λ o. GoesBy p (frame_in o) x.next) (sym at) (init_goes p (who_at c.args.site.now (λ n. None)) _ _ x (c.initialises.ensures (λ n. None)))
