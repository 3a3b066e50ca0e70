use Rattle.step_serve.proofs.Rows.{new-then, new-else}
use Rattle.step_serve.proofs.arrays.+are_new.Goals as goal

pub returns-then-level_is_new : goal.returns-then-level_is_new
returns-then-level_is_new g t c =
    new-then (g.N.Names.heap c.args.names.now) c.args.image.now c.args.level c.next_level.result c.args.sizes.now
    c.level_is_new.result c.are_new.result c.in-len1-up.len_at_least c.level_is_new.ensures c.if-level_is_new.true
    c.next_level.ensures c.are_new.ensures

pub returns-else-level_is_new : goal.returns-else-level_is_new
returns-else-level_is_new g t c =
    new-else (g.N.Names.heap c.args.names.now) c.args.image.now c.args.level c.args.sizes.now
    c.level_is_new.result c.in-len1-up.len_at_least c.level_is_new.ensures c.if-level_is_new.false
