use Rattle.std.proofs.Common.{◌∙◌, arith}
use Rattle.link_arrays.specs.Arrays.{file_types}
use Rattle.link_arrays.proofs.ClosedNames.{closed_file}
use Rattle.link_arrays.proofs.Counted.{types_more, so_far_more}
use Rattle.link_arrays.proofs.arrays.Arrays.add_files.Goals as goal

pub loop-i-preserved : goal.loop-i-preserved
loop-i-preserved c = record {
  left = c.loop-i.invariant.left ∙ types_more (file_types) c.args.declared c.loop-i.self c.add_file.new.self c.args.files.now c.loop-i.i c.index-files-i.result (omega arith) c.index-files-i.is c.in_ok-add_file.ensures.types;
  so_far = so_far_more c.args.declared c.loop-i.self (file_types c.index-files-i.result) c.add_file.new.self c.loop-i.invariant.so_far (closed_file c.index-files-i.result) c.in_ok-add_file.ensures.types;
}
