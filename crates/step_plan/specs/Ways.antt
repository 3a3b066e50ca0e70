-- How a thread's top frame comes to what is planned: where moves, answers and returns arise.
use Rattle.std.specs.Prelude.{◌≡◌, Option, Some, None}
use Rattle.jvm_base.specs.declared.frame.Frame.{Frame}
use Rattle.code_table.specs.declared.code.Placed.{Placed}
use Rattle.code_table.specs.declared.op.Op.{Op}
use Rattle.code_table.specs.declared.op.Op.TheVariants as op
use Rattle.program_image.specs.Program.{Program, target_of}
use Rattle.program_image.specs.Words.{instruction_at}
use Rattle.frame_ops.specs.declared.answer.Given.{Given}
use Rattle.machine_state.specs.Instructions.{given_to}
use Rattle.step_plan.specs.declared.plan.Next.{Next as Told}
use Rattle.step_plan.specs.declared.plan.Next.TheVariants as told

-- the frame stands at an instruction, which is told what the program tells it
abbrev pub IsGiven : Program → Given → Option Frame → Type 0
IsGiven p given (Some f) =
    (i : Placed) × (instruction_at p f.method f.at ≡ Some i)
    × (given ≡ given_to p i.op (target_of p f.method f.at) f.stack.values)
IsGiven p given None = ⊥

-- an instruction that calls a method
abbrev pub IsInvoke : Op → Type 0
IsInvoke (op.Invoke o k d) = Unit {0}
IsInvoke _ = ⊥

-- the frame stands at a call
abbrev pub IsCalling : Program → Option Frame → Type 0
IsCalling p (Some f) = (i : Placed) → instruction_at p f.method f.at ≡ Some i → IsInvoke i.op
IsCalling p None = ⊥

-- there is such a frame
abbrev pub IsThere : Option Frame → Type 0
IsThere (Some f) = Unit {0}
IsThere None = ⊥

-- a move, an answer without a request, a handler and a return come of the top frame so
abbrev pub GoesBy : Program → Option Frame → Told → Type 0
GoesBy p f (told.Moves given) = IsGiven p given f
GoesBy p f (told.Answered v) = IsCalling p f
GoesBy p f (told.Caught e at) = IsThere f
GoesBy p f (told.Leaves v) = IsThere f
GoesBy p f _ = Unit {0}

-- no move of the table
abbrev pub IsNoMove : Told → Type 0
IsNoMove (told.Moves given) = ⊥
IsNoMove _ = Unit {0}

-- what comes of an instruction where it is asked as a call: no move, and an answer only of a call
abbrev pub IsOfCall : Op → Told → Type 0
IsOfCall o (told.Moves given) = ⊥
IsOfCall o (told.Answered v) = IsInvoke o
IsOfCall o _ = Unit {0}
