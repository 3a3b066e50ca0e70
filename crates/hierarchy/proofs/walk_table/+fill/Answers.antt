use Rattle.std.proofs.Common.{◌<◌, length, arith}
use Rattle.hierarchy.proofs.Filling.{put_here, walk_some}
use Rattle.hierarchy.proofs.walk_table.+fill.Goals as goal

pub returns-clause-filled : goal.returns-clause-filled
returns-clause-filled t c =
    let inside : c.args.c < length c.loop-k.table = (let a = c.requires.lens in let b = c.requires.inside in omega arith) in
    put_here c.args.c c.loop-k.table c.in_ok-walk.walk inside (walk_some c.args.rows.now c.args.ranks.now c.args.c c.in_ok-walk.walk c.requires.ranked c.in_ok-walk.ensures.walk)
