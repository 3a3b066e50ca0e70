use Rattle.std.proofs.Common.{arith, length, ◌&&◌}
use Rattle.shared_types.specs.Trees.{types, is_sized}
use Rattle.shared_types.proofs.Laws.{get_right, counted}
use Rattle.shared_types.proofs.tree.Tree.+get.Goals as goal

pub returns-else-at-count-2 : goal.returns-else-at-count-2
returns-else-at-count-2 t c =
    let e = counted c.in-Pair.count (length (types c.in-Pair.first.value)) (is_sized c.in-Pair.first.value && is_sized c.in-Pair.second.value) (rw c.in-Pair.is at c.requires) in
    rw (c.in-Pair.is, get_right (types c.in-Pair.first.value) (types c.in-Pair.second.value) c.args.at (omega (arith, e, c.if-at-count-2.false))) (rw (e, c.deref-else-at-count-2.ensures) at c.get-else-at-count-2.ensures)
