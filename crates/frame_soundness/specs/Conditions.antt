-- That a frame which fits the typing can take its step, and can be answered.
use Rattle.std.specs.Prelude.{◌≡◌, ◌≤◌, Bool, length, Option, Some}
use Rattle.std.specs.Option.{option_to_list}
use Rattle.jvm_base.specs.declared.frame.Frame.{Frame}
use Rattle.jvm_base.specs.declared.name.Name.{Name}
use Rattle.jvm_base.specs.declared.value.Value.{Value}
use Rattle.code_table.specs.declared.code.Placed.{Placed}
use Rattle.code_table.specs.declared.op.Op.{Op}
use Rattle.code_table.specs.declared.op.Op.TheVariants as op
use Rattle.program_image.specs.Program.{Program, target_of}
use Rattle.program_image.specs.Words.{instruction_at}
use Rattle.frame_ops.specs.Stepping.{CanRun, CanTake}
use Rattle.machine_state.specs.Instructions.{given_to}
use Rattle.frame_soundness.specs.AcceptedProgram.{Types, Accepted}
use Rattle.frame_soundness.specs.Frames.{FrameFits}

-- an instruction that is answered from outside may be answered so: a call gives a value where its
-- method has a result
abbrev pub MayTake : Op → Option Value → Type 0
MayTake (op.Invoke o i d) answer =
    length (option_to_list answer) ≤ length (option_to_list d.ret)
MayTake (op.ArrayLoad o) answer = Unit {0}
MayTake (op.ArrayStore o) answer = Unit {0}
MayTake (op.Static o i d) answer = Unit {0}
MayTake (op.Field o i d) answer = Unit {0}
MayTake (op.New i) answer = Unit {0}
MayTake (op.NewArray k) answer = Unit {0}
MayTake (op.AnewArray i) answer = Unit {0}
MayTake (op.MultiNewArray i n) answer = Unit {0}
MayTake op.ArrayLength answer = Unit {0}
MayTake (op.Monitor o) answer = Unit {0}
MayTake _ answer = ⊥

-- the frame stands at an instruction, has what that takes, and room for what it puts
pub record MeetsCondition (p : Program) (f : Frame) : Type 0 where
  pub placed : Placed
  pub is_placed : instruction_at p f.method f.at ≡ Some placed
  pub runs : CanRun placed
      (given_to p placed.op (target_of p f.method f.at) f.stack.values) f
  pub takes : (answer : Option Value) → MayTake placed.op answer → CanTake placed answer f

-- each frame that fits does
abbrev pub ConditionLaw : Type 0
ConditionLaw =
    (p : Program) (types : Types) → Accepted p types → (there : Name → Bool)
    → (f : Frame) → FrameFits p types there f → MeetsCondition p f
