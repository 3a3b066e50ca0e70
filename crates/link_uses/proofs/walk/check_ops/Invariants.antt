use Rattle.std.proofs.Common.{◌≡◌, drop}
use Rattle.std.specs.List.{flat_map}
use Rattle.link_uses.specs.Walk.{broken_placed}
use Rattle.link_uses.proofs.walk.check_ops.Given as goal

abbrev pub invariant-loop-placed : goal.invariant-loop-placed
invariant-loop-placed l =
    flat_map (broken_placed l.rule l.resolver l.file) l.ops ≡ flat_map (broken_placed l.rule l.resolver l.file) (drop l.placed-index l.ops)
