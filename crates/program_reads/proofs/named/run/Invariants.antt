use Rattle.std.proofs.Common.{◌≡◌, drop}
use Rattle.std.specs.Prelude.{find, codes}
use Rattle.program_image.specs.Signatures.{same_text}
use Rattle.instruction_table.specs.ClassTypes.{name_of}
use Rattle.program_reads.proofs.named.run.Given as goal

abbrev pub invariant-loop-method : goal.invariant-loop-method
invariant-loop-method l = find (λ m. same_text (name_of l.image m) (codes "run")) (drop l.method-index l.methods) ≡ find (λ m. same_text (name_of l.image m) (codes "run")) l.methods
