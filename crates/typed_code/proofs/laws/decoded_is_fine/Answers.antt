use Rattle.std.proofs.Common.{length}
use Rattle.code_table.proofs.Sequencing.{rises}
use Rattle.typed_code.proofs.Allowing.{fine_ops}
use Rattle.typed_code.proofs.laws.decoded_is_fine.Goals as goal

pub returns : goal.returns
returns c item pool code bytes is = record {
  rising = rises item.code pool code.ops 0 (length item.code) is.covers;
  ops = fine_ops pool item.code bytes 0 code.ops (length item.code) is.covers;
}
