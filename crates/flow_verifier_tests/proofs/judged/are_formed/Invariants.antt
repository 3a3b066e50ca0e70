use Rattle.std.proofs.Common.{ℕ, ◌<◌, get_or}
use Rattle.class_format.specs.declared.class.ClassFile.{ClassFile}
use Rattle.class_format.specs.Meaning.{IsClass}
use Rattle.flow_verifier_tests.proofs.judged.are_formed.Given as goal

abbrev pub invariant-loop-class : goal.invariant-loop-class
invariant-loop-class l = (k : ℕ) (d : ClassFile) → k < l.class-index → IsClass (get_or l.files k d)
