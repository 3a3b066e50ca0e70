use Rattle.step_serve.proofs.Rows.{told_made, told_unfit}
use Rattle.step_serve.proofs.arrays.arrays.Goals as goal
use Rattle.step_serve.proofs.arrays.arrays.Goals.{in-Some, in-None}

pub returns : goal.returns
returns g c =
    let heap = g.N.Names.heap c.args.server.now.names.now in
    let image = c.args.server.now.image.now in
    let choice = c.making_choice-choice.result in
    elim c.match-branch-2.branch [
      | in-Some w ↦ told_made heap c.args.server.now.wish image choice c.args.class c.args.sizes.now c.match-branch-2.name_fits c.in_ok-list.field-0 w.in-Some.list c.requires c.making_choice-choice.ensures w.name_fits-is w.in-Some.is c.in_ok-list.ensures
      | in-None w ↦ told_unfit heap c.args.server.now.wish image choice c.args.class c.args.sizes.now c.match-branch-2.name_fits c.in_ok-list.field-0 c.requires c.making_choice-choice.ensures w.name_fits-is w.in-None.is c.in_ok-list.ensures
    ]
