use Rattle.std.proofs.Common.{◌≡◌, length}
use Rattle.jvm_base.specs.Descriptors.{args_of}
use Rattle.jvm_base.specs.SeenDescs.{within, with_args}
use Rattle.jvm_base.proofs.desc_text.read_args.Given as goal

abbrev pub invariant-loop-args : goal.invariant-loop-args
invariant-loop-args l = with_args l.args (within l.room (args_of l.rest)) ≡ within 255 (args_of l.units)

abbrev pub decreases-loop-args : goal.decreases-loop-args
decreases-loop-args l = length l.rest
