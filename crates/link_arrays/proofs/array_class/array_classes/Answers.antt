use Rattle.std.proofs.Common.{◌∙◌}
use Rattle.link_arrays.specs.ArrayClasses.{array_class}
use Rattle.link_arrays.proofs.SetLaws.{classes_more}
use Rattle.link_arrays.proofs.array_class.array_classes.Goals as goal

pub loop-array-preserved : goal.loop-array-preserved
loop-array-preserved c =
    classes_more (array_class c.args.program.now c.args.arrays.now) c.args.arrays.now c.as_slice-array-items.result.now c.loop-array.array-index c.loop-array.classes c.push.new.self c.array-item.result c.in_ok-array_class.field-0
    (c.as_slice-array-items.ensures ∙ c.in_ok-types.ensures) c.loop-array-test.true c.array-item.is c.loop-array.invariant c.in_ok-array_class.ensures c.in_ok-push.ensures.ok
