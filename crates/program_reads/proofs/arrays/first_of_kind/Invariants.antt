use Rattle.std.proofs.Common.{◌≡◌}
use Rattle.program_reads.specs.Finding.{first_from, is_of_kind}
use Rattle.program_reads.proofs.arrays.first_of_kind.Given as goal

abbrev pub invariant-loop-class : goal.invariant-loop-class
invariant-loop-class l = first_from (is_of_kind l.kind) l.class l.image.classes ≡ first_from (is_of_kind l.kind) 0 l.image.classes
