use Rattle.std.proofs.Common.{◌≡◌, length}
use Rattle.std.specs.Prelude.{option_map}
use Rattle.jvm_base.specs.Descriptors.{args_of}
use Rattle.jvm_base.specs.SeenDescs.{within}
use Rattle.jvm_base.proofs.desc_text.skip_args.Given as goal

abbrev pub invariant-loop-left : goal.invariant-loop-left
invariant-loop-left l = option_map (λ x. x.1) (within l.room (args_of l.rest)) ≡ option_map (λ x. x.1) (within l.most_slots (args_of l.units))

abbrev pub decreases-loop-left : goal.decreases-loop-left
decreases-loop-left l = length l.rest
