use Rattle.std.proofs.Common.{◌∙◌, ap}
use Rattle.machine_state.specs.Classes.{array_class_over}
use Rattle.step_plan.proofs.fields.array_over_named.Goals as goal

pub returns : goal.returns
returns c =
    let p = c.args.site.now.image.now in
    let f = c.args.frame.now in
    c.array_over.ensures p c.requires.kept (rw c.class_named.ensures (c.requires.kept.whole.classes_in f.method f.at)) ∙ ap (array_class_over p) c.class_named.ensures
