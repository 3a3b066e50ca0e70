use Rattle.std.proofs.Common.{length}
use Rattle.step_serve.proofs.arrays.+array_count.Given as goal

abbrev pub decreases-array_count : goal.decreases-array_count
decreases-array_count l = length l.sizes.now
