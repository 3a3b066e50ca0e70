use Rattle.std.proofs.Common.{◌≡◌}
use Rattle.shared_types.proofs.Laws.{begun}
use Rattle.shared_types.proofs.types.Types.from_list.Given as goal

abbrev pub invariant-loop-i : goal.invariant-loop-i
invariant-loop-i l = l.types ≡ begun l.i l.list
