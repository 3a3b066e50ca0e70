use Rattle.std.proofs.Common.{rules, ℕ, ◌≡◌, ◌-◌, ◌∙◌, ap, arith}
use Rattle.std.specs.Prelude.{nat_le, slice_get}
use Rattle.std.proofs.lemmas.List.Sorted.{IsPartitionPoint-from_clause}
use Rattle.machine_state.specs.OrderRows.{spelled}
use Rattle.machine_state.proofs.OrderLaws.{partitioned, found}
use Rattle.machine_state.proofs.order.place_of.Goals as goal

pub returns : goal.returns
returns c =
    let same : c.args.at - 0 ≡ c.args.at = omega arith in
    found 0 c.args.at c.partition_point.result c.args.rows.now c.requires (omega arith) c.partition_point.ensures.bound
    (IsPartitionPoint-from_clause (λ r. nat_le r.until c.args.at) c.args.rows.now c.partition_point.result c.partition_point.ensures.partitioned
    (partitioned c.args.rows.now c.args.at c.requires) (λ r q k. search rules))
    ∙ ap (λ (k : ℕ). slice_get (spelled 0 c.args.rows.now) k) same
