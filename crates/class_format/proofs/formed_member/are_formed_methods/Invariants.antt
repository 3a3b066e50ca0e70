use Rattle.std.proofs.Common.{ℕ, ◌<◌, get_or}
use Rattle.class_format.specs.declared.class.MethodItem.{MethodItem}
use Rattle.class_format.specs.Judging.Formed.{FormedMethod}
use Rattle.class_format.proofs.formed_member.are_formed_methods.Given as goal

abbrev pub invariant-loop-method : goal.invariant-loop-method
invariant-loop-method l = (k : ℕ) (d : MethodItem) → k < l.method-index → FormedMethod l.texts (get_or l.methods k d)
