use Rattle.step_plan.proofs.top.thread_run.Goals as goal

pub returns-clause-value : goal.returns-clause-value
returns-clause-value c = c.run.ensures c.args.site.now.image.now c.requires

pub returns-clause-within : goal.returns-clause-within
returns-clause-within c = rw (c.run.ensures c.args.site.now.image.now c.requires) c.requires.whole.run_in
