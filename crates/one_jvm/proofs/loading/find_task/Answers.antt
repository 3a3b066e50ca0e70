use Rattle.one_jvm.specs.Steps.Parts.{asked_by}
use Rattle.one_jvm.proofs.LoadLemmas.{few_classes, all_formed, has_task, told_program}
use Rattle.one_jvm.proofs.loading.find_task.Goals as goal

pub accepted_task-requires-clause-few : goal.accepted_task-requires-clause-few
accepted_task-requires-clause-few g c = few_classes (g.S.Shelf.files c.args.shelf.now) (asked_by c.args.request.now) c.in-Ok.loaded.text.items c.in-Ok.loaded.classes c.in-Ok.ensures.answer c.requires.counted

pub accepted_task-requires-clause-formed : goal.accepted_task-requires-clause-formed
accepted_task-requires-clause-formed g c = all_formed (g.S.Shelf.files c.args.shelf.now) (asked_by c.args.request.now) c.in-Ok.loaded.text.items c.in-Ok.loaded.classes c.in-Ok.ensures.answer

pub returns-in-Ok-accepted_task-clause-answer : goal.returns-in-Ok-accepted_task-clause-answer
returns-in-Ok-accepted_task-clause-answer g c = has_task (g.S.Shelf.files c.args.shelf.now) (asked_by c.args.request.now) c.in-Ok.loaded.text.items c.in-Ok.loaded.classes c.in-Ok.ensures.answer c.in-Ok-accepted_task.task c.in-Ok-accepted_task.ensures

pub returns-clause-answer : goal.returns-clause-answer
returns-clause-answer g c =
    told_program (g.S.Shelf.files c.args.shelf.now) (asked_by c.args.request.now) c.in-Ok.loaded.text.items c.in-Ok.loaded.classes (g.S.Shelf.faults c.args.shelf.now) (g.S.Shelf.faults c.load.new.shelf) c.in-Ok.ensures.answer c.in-Err-accepted_task.refusal c.tell.result c.in-Err-accepted_task.ensures (rw c.as_slice.ensures at c.tell.ensures)
