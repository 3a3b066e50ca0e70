-- A step that touches nothing but its own frame.
use Rattle.std.specs.Prelude.{List, [], ◌∷◌, option_map, Option, Some, None}
use Rattle.jvm_base.specs.Words.{from}
use Rattle.jvm_base.specs.declared.frame.Frame.{Frame}
use Rattle.jvm_base.specs.declared.frame.Level.{Level}
use Rattle.jvm_base.specs.declared.frame.Level.TheVariants.{Code, Init}
use Rattle.jvm_base.specs.declared.frame.Phase.{Phase}
use Rattle.jvm_base.specs.declared.frame.Phase.TheVariants as phase
use Rattle.code_table.specs.declared.code.Placed.{Placed}
use Rattle.program_image.specs.Program.{Program, target_of}
use Rattle.program_image.specs.Words.{instruction_at}
use Rattle.frame_ops.specs.declared.answer.Given.{Given}
use Rattle.frame_ops.specs.declared.answer.Pure.{Pure}
use Rattle.frame_ops.specs.declared.answer.Pure.TheVariants as pure
use Rattle.frame_ops.specs.Moves.{frame_after, pure_answer}
use Rattle.frame_ops.specs.Stepping.{move_at}
use Rattle.machine_state.specs.declared.state.Mode.{Mode}
use Rattle.machine_state.specs.declared.state.Mode.TheVariants.{Running}
use Rattle.machine_state.specs.Instructions.{given_to}

-- ---- the frame

-- the frame, where its instruction moves it on and no more
abbrev pub if_next : Pure → Frame → Option Frame
if_next pure.Next f = Some f
if_next _ f = None

-- the frame behind an instruction that touches the frame alone
abbrev pub placed_next : Placed → Given → Frame → Option Frame
placed_next i given f =
    if_next (pure_answer (move_at i given f)) (frame_after (move_at i given f) i.next f)

-- the frame behind the instruction where it is
abbrev pub body_next : Program → Frame → Option Frame
body_next p f =
    from None
    (λ i. placed_next i (given_to p i.op (target_of p f.method f.at) f.stack.values) f)
    (instruction_at p f.method f.at)

-- it runs its code, and no lock is entered or left for it
abbrev pub frame_next : Program → Frame → Phase → Option Frame
frame_next p f phase.Body = body_next p f
frame_next p f _ = None

-- ---- its thread

-- the level with such a frame
abbrev pub level_next : Program → Level → Option Level
level_next p (Code f) = option_map (λ g. Code g) (frame_next p f f.phase)
level_next p (Init c begun) = None

-- the levels with it on top
abbrev pub levels_next : Program → List Level → Option (List Level)
levels_next p [] = None
levels_next p (l ∷ ls) = option_map (λ k. k ∷ ls) (level_next p l)

-- the levels of a thread that runs
abbrev pub running_next : Program → Mode → List Level → Option (List Level)
running_next p Running ls = levels_next p ls
running_next p _ ls = None
