use Rattle.one_jvm.specs.Steps.Parts.{asked_by}
use Rattle.one_jvm.proofs.LoadLemmas.{set}
use Rattle.one_jvm.proofs.loading.accepted_task.Goals as goal

pub returns : goal.returns
returns c = set (asked_by c.args.request.now) c.args.text.items c.args.classes.now c.in_ok-image.image c.task_of.result c.in_ok-image.ensures c.task_of.ensures
