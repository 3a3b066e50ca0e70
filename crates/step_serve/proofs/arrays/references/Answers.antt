use Rattle.std.proofs.Common.{List, ◌+◌, ◌-◌, ◌++◌, ap, ◌∙◌}
use Rattle.jvm_base.specs.declared.value.Value.{Value}
use Rattle.machine_state.specs.Making.{references}
use Rattle.step_serve.proofs.Rows.{references-next}
use Rattle.step_serve.proofs.arrays.references.Goals as goal

pub loop-index-preserved : goal.loop-index-preserved
loop-index-preserved c =
    let end = c.args.first + c.from.result in
    ap (λ (vs : List Value). vs ++ references c.args.below.node c.args.below.class (c.loop-index.index + 1) (end - (c.loop-index.index + 1)))
    c.in_ok-push.ensures.items
    ∙ references-next c.args.below.node c.args.below.class c.loop-index.index end c.loop-index.elements.items c.loop-index-test.true
    ∙ c.loop-index.invariant
