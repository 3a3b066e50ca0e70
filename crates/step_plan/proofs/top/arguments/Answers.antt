use Rattle.step_plan.proofs.top.arguments.Goals as goal

pub returns : goal.returns
returns c = c.arguments.ensures c.args.site.now.image.now c.requires
