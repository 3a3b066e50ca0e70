use Rattle.std.proofs.Common.{◌∙◌, arith}
use Rattle.link_arrays.specs.Arrays.{op_types}
use Rattle.link_arrays.proofs.ClosedNames.{closed_op}
use Rattle.link_arrays.proofs.Counted.{types_more, so_far_more}
use Rattle.link_arrays.proofs.arrays.Arrays.add_ops.Goals as goal

pub loop-placed-preserved : goal.loop-placed-preserved
loop-placed-preserved c = record {
  left = c.loop-placed.invariant.left ∙ types_more (λ p. op_types c.args.pool.now p.op) c.args.declared c.loop-placed.self c.add_op.new.self c.args.ops.now c.loop-placed.placed-index c.placed-item.result (omega arith) c.placed-item.is c.in_ok-add_op.ensures.types;
  so_far = so_far_more c.args.declared c.loop-placed.self (op_types c.args.pool.now c.placed-item.result.op) c.add_op.new.self c.loop-placed.invariant.so_far (closed_op c.args.pool.now c.placed-item.result.op) c.in_ok-add_op.ensures.types;
  added = c.in_ok-add_op.ensures.added;
}
