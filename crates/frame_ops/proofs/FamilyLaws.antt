-- What an instruction comes to depends on what its family looks at, and on nothing else.
use Rattle.std.proofs.Common.{◌≡◌, ◌≢◌, List, [], refl}
use Rattle.jvm_base.specs.declared.value.Value.{Value}
use Rattle.code_table.specs.declared.op.Op.{Op}
use Rattle.code_table.specs.declared.op.Op.TheVariants as op
use Rattle.frame_ops.specs.declared.answer.Given.{Given}
use Rattle.frame_ops.specs.declared.answer.Given.TheVariants.{Nothing}
use Rattle.frame_ops.specs.declared.families.Family.{Family}
use Rattle.frame_ops.specs.declared.families.Family.TheVariants.{Told, Locals}
use Rattle.frame_ops.specs.Running.Families.{family_of, move_on, IsOnOperands}
use Rattle.frame_ops.specs.Table.{move_of}

-- operands alone
pub on_operands_alone : (o : Op) (given : Given) (locals vs : List Value) → IsOnOperands (family_of o) → move_of o given locals vs ≡ move_on o vs
on_operands_alone (op.Ldc i) given locals vs h = absurd h
on_operands_alone (op.Ldc2 i) given locals vs h = absurd h
on_operands_alone (op.Cast o i) given locals vs h = absurd h
on_operands_alone (op.Load o i) given locals vs h = absurd h
on_operands_alone (op.Store o i) given locals vs h = absurd h
on_operands_alone (op.Iinc i by) given locals vs h = absurd h
on_operands_alone _ given locals vs h = refl

-- no local
pub told_alone : (o : Op) (given : Given) (locals vs : List Value) → family_of o ≡ Told → move_of o given locals vs ≡ move_of o given [] vs
told_alone (op.Load o i) given locals vs h = absurd cc
told_alone (op.Iinc i by) given locals vs h = absurd cc
told_alone _ given locals vs h = refl

-- nothing of the program
pub locals_alone : (o : Op) (given : Given) (locals vs : List Value) → family_of o ≡ Locals → move_of o given locals vs ≡ move_of o Nothing locals vs
locals_alone (op.Ldc i) given locals vs h = absurd cc
locals_alone (op.Ldc2 i) given locals vs h = absurd cc
locals_alone (op.Cast o i) given locals vs h = absurd cc
locals_alone _ given locals vs h = refl

-- it is what is left
pub alone_otherwise : (f : Family) → f ≢ Told → f ≢ Locals → IsOnOperands f
alone_otherwise Told h k = h refl
alone_otherwise Locals h k = k refl
alone_otherwise _ h k = tt
