-- What a thread owes to what plans its steps. A thread of a sound machine has it.
use Rattle.std.specs.Prelude.{◌≡◌, ◌≤◌, List, length, slice_get, Option, Some}
use Rattle.jvm_base.specs.declared.value.Value.{Value}
use Rattle.jvm_base.specs.declared.frame.Phase.TheVariants as phase
use Rattle.jvm_base.specs.declared.frame.Frame.{Frame}
use Rattle.jvm_base.specs.declared.frame.Level.{Level}
use Rattle.jvm_base.specs.declared.frame.Level.TheVariants.{Code}
use Rattle.code_table.specs.declared.code.Placed.{Placed}
use Rattle.code_table.specs.declared.op.Op.{Op}
use Rattle.code_table.specs.declared.op.Op.TheVariants as op
use Rattle.program_image.specs.Program.{Program, target_of}
use Rattle.program_image.specs.Words.{instruction_at}
use Rattle.frame_ops.specs.Stepping.{CanRun, operand_count}
use Rattle.machine_state.specs.Instructions.{given_to}

-- the operands of a call or of a new array, which the instruction counts, are there
abbrev pub HasOperands : Op → List Value → Type 0
HasOperands (op.Invoke o i d) vs = operand_count (op.Invoke o i d) ≤ length vs
HasOperands (op.NewArray k) vs = 1 ≤ length vs
HasOperands (op.AnewArray i) vs = 1 ≤ length vs
HasOperands (op.MultiNewArray i n) vs = n ≤ length vs
HasOperands _ vs = Unit {0}

-- a frame can run an instruction with what the program gives it, and its operands are there
pub record CanPlanAt (p : Program) (f : Frame) (i : Placed) : Type 0 where
  pub runs : CanRun i (given_to p i.op (target_of p f.method f.at) f.stack.values) f
  pub enough : HasOperands i.op f.stack.values

-- a frame that runs its code can run the instruction where it is
pub record CanPlanIn (p : Program) (f : Frame) : Type 0 where
  pub here : (i : Placed) →
      f.phase ≡ phase.Body → instruction_at p f.method f.at ≡ Some i → CanPlanAt p f i

-- so it is with a level
abbrev pub CanPlanOn : Program → Option Level → Type 0
CanPlanOn p (Some (Code f)) = CanPlanIn p f
CanPlanOn p _ = Unit {0}

-- so it is with the top level
abbrev pub CanPlan : Program → List Level → Type 0
CanPlan p ls = CanPlanOn p (slice_get ls 0)
