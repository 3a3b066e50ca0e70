use Rattle.std.proofs.Common.{◌∙◌, arith}
use Rattle.link_arrays.specs.Arrays.{code_types}
use Rattle.link_arrays.proofs.ClosedNames.{closed_code}
use Rattle.link_arrays.proofs.Counted.{types_more, so_far_more}
use Rattle.link_arrays.proofs.arrays.Arrays.add_codes.Goals as goal

pub loop-code-preserved : goal.loop-code-preserved
loop-code-preserved c = record {
  left = c.loop-code.invariant.left ∙ types_more (code_types c.args.pool.now) c.args.declared c.loop-code.self c.add_code.new.self c.args.codes.now c.loop-code.code-index c.code-item.result (omega arith) c.code-item.is c.in_ok-add_code.ensures.types;
  so_far = so_far_more c.args.declared c.loop-code.self (code_types c.args.pool.now c.code-item.result) c.add_code.new.self c.loop-code.invariant.so_far (closed_code c.args.pool.now c.code-item.result) c.in_ok-add_code.ensures.types;
  added = c.in_ok-add_code.ensures.added;
}
