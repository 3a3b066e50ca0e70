use Rattle.std.proofs.Common.{arith}
use Rattle.class_format.proofs.Lengths.{code-length}
use Rattle.class_write.proofs.member.code_len.Goals as goal

pub returns : goal.returns
returns c = omega (arith, code-length c.args.code.now, c.len.ensures, c.len-2.ensures)
