use Rattle.std.proofs.Common.{rules}
use Rattle.std.specs.Prelude.{nat_lt}
use Rattle.std.proofs.lemmas.List.Sorted.{IsPartitionPoint-from_clause}
use Rattle.frame_ops.proofs.Places.{partitioned, found}
use Rattle.frame_ops.proofs.step.place_of.Goals as goal

pub returns : goal.returns
returns c =
    found c.args.ops.now c.args.at c.partition_point.result c.requires c.partition_point.ensures.bound
    (IsPartitionPoint-from_clause (λ o. nat_lt o.at c.args.at) c.args.ops.now c.partition_point.result c.partition_point.ensures.partitioned
    (partitioned c.args.ops.now c.args.at c.requires) (λ r q k. search rules))
