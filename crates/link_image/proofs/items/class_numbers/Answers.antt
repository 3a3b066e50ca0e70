use Rattle.std.proofs.Common.{ap, ◌∙◌}
use Rattle.link_arrays.specs.ArrayClasses.{class_number}
use Rattle.link_uses.proofs.TextLaws.{of_more}
use Rattle.link_image.proofs.items.class_numbers.Goals as goal

pub loop-index-preserved : goal.loop-index-preserved
loop-index-preserved c =
    let f = class_number c.args.lookup.now.resolver.now c.args.lookup.now.arrays.now in
    of_more f c.args.pool.now c.loop-index.told c.push.new.self c.in_ok-number.field-0 c.loop-index.index c.loop-index.invariant.0 c.loop-index.invariant.1 (c.in_ok-number.ensures ∙ ap f c.text.ensures) c.in_ok-push.ensures.ok
