-- How the top level changes, in the words of the machine.
use Rattle.std.specs.Prelude.{ℕ, List, [], ◌∷◌, None}
use Rattle.jvm_base.specs.Words.{from}
use Rattle.jvm_base.specs.Tops.{with_top}
use Rattle.jvm_base.specs.declared.name.Name.{Name}
use Rattle.jvm_base.specs.declared.value.Value.TheVariants.{Ref}
use Rattle.jvm_base.specs.declared.frame.Phase.TheVariants as phase
use Rattle.jvm_base.specs.declared.frame.Frame.{Frame}
use Rattle.jvm_base.specs.declared.frame.Level.{Level}
use Rattle.jvm_base.specs.declared.frame.Level.TheVariants.{Code}
use Rattle.program_image.specs.Program.{Program}
use Rattle.program_image.specs.Words.{instruction_at}
use Rattle.frame_ops.specs.declared.answer.Given.{Given}
use Rattle.frame_ops.specs.Moves.{frame_after, frame_moved}
use Rattle.frame_ops.specs.Stepping.{move_at}
use Rattle.machine_state.specs.Complete.{answer_top, phase_top, entered, left}
use Rattle.machine_state.specs.Frames.{noted}
use Rattle.step_complete.specs.declared.turns.Turn.{Turn}
use Rattle.step_complete.specs.declared.turns.Turn.TheVariants as turn

-- the frame after the move of its instruction
abbrev pub frame_stepped : Program → Given → Frame → Frame
frame_stepped p given f =
    from f (λ i. frame_after (move_at i given f) i.next f) (instruction_at p f.method f.at)

-- the frame at a handler, with the exception alone
abbrev pub frame_caught : Frame → Name → ℕ → Frame
frame_caught f e to = frame_moved f to (Ref e ∷ [])

-- what f makes of the top frame
abbrev pub top_frame_by : (Frame → Frame) → List Level → List Level
top_frame_by f (Code g ∷ ls) = with_top (f g) (Code g ∷ ls)
top_frame_by f ls = ls

-- the levels after a turn
abbrev pub turned : Program → Turn → List Level → List Level
turned p (turn.Answers v) ls = answer_top p v ls
turned p turn.Enters ls = entered p ls
turned p turn.Leaves ls = left p ls
turned p turn.Unlocks ls = phase_top (phase.Unlock None) ls
turned p turn.Notes ls = noted ls
turned p (turn.Moves given) ls = top_frame_by (frame_stepped p given) ls
turned p (turn.Catches e to) ls = top_frame_by (λ f. frame_caught f e to) ls
