use Rattle.std.proofs.Common.{◌∙◌, ◌+◌, false, drop, ap, sym}
use Rattle.std.proofs.lemmas.List.{at_drop_more}
use Rattle.program_image.specs.declared.info.Target.TheVariants.{Field}
use Rattle.program_image.specs.Places.{Placing, placed}
use Rattle.program_image.proofs.image.place.Goals as goal

pub loop-method-preserved : goal.loop-method-preserved
loop-method-preserved c =
    let items = c.args.targets.now in
    let i = c.loop-method.method-index in
    let d : Placing = (0, 0, Field 0 0 false) in
    c.loop-method.invariant ∙ at_drop_more (placed c.loop-method.map.entries) items i d c.loop-method-test.true ∙ ap (λ z. placed z (drop (i + 1) items)) (sym c.in_ok-insert.ensures.entries)
