use Rattle.std.proofs.Common.{arith}
use Rattle.program_reads.proofs.KindLaws.{kinds_are}
use Rattle.program_reads.proofs.arrays.kinds.Goals as goal

pub returns : goal.returns
returns c k = kinds_are c.args.image.now c.loop-kind.kinds (let a = c.loop-kind-test.false in let b = c.loop-kind.auto.kind-end in let d = c.loop-kind.invariant.count in omega arith) c.loop-kind.invariant.each k
