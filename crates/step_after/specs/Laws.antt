-- That a thread of a sound machine can go on after its step.
use Rattle.std.specs.Prelude.{◌≡◌, ℕ, true, List, [], ◌∷◌, Option, Some, slice_get}
use Rattle.jvm_base.specs.declared.frame.Level.{Level}
use Rattle.jvm_base.specs.declared.frame.Level.TheVariants.{Code}
use Rattle.code_table.specs.declared.code.Placed.{Placed}
use Rattle.program_image.specs.Program.{Program, target_of}
use Rattle.program_image.specs.Words.{instruction_at}
use Rattle.frame_ops.specs.declared.answer.Given.{Given}
use Rattle.machine_state.specs.declared.request.Answer.{Answer}
use Rattle.machine_state.specs.declared.request.Request.{Request}
use Rattle.machine_state.specs.declared.state.Choice.{Choice}
use Rattle.machine_state.specs.declared.state.Mode.{Mode}
use Rattle.machine_state.specs.declared.state.Mode.TheVariants.{Entry}
use Rattle.machine_state.specs.declared.state.ThreadState.{ThreadState}
use Rattle.machine_state.specs.Instructions.{given_to}
use Rattle.machine_state.specs.Next.{Needs, Who}
use Rattle.machine_state.specs.Plan.{plan}
use Rattle.machine_state.specs.State.{State}
use Rattle.machine_state.specs.Step.{Taken, attempt, allowed}
use Rattle.frame_soundness.specs.AcceptedProgram.{Types, Accepted}
use Rattle.machine_soundness.specs.Sound.{Sound}
use Rattle.step_complete.specs.Asked.{asked_for}
use Rattle.step_complete.specs.declared.asked.Asked.{Asked}
use Rattle.step_complete.specs.declared.turns.Turn.{Turn}
use Rattle.step_complete.specs.declared.turns.Turn.TheVariants as turn
use Rattle.step_after.specs.Conditions.{LevelsAsk, TopAsks, RaisesFault}
use Rattle.step_after.specs.Going.{stand_of, CanGoOn}
use Rattle.step_after.specs.declared.after.After.{After}
use Rattle.step_after.specs.declared.after.After.TheVariants as after

-- what a plan asks for can be answered where it is asked
abbrev pub CanAskLaw : Type 0
CanAskLaw =
    (p : Program) (who : Who) (mode : Mode) (ls : List Level) (r : Request)
    → (mode ≡ Entry → ls ≡ []) → (plan p who mode ls).next ≡ Needs r → LevelsAsk p r ls

-- the top frame's instruction is told what the program tells it
abbrev pub IsGivenTop : Program → Given → List Level → Type 0
IsGivenTop p given (Code f ∷ ls) =
    (i : Placed) → instruction_at p f.method f.at ≡ Some i
    → given ≡ given_to p i.op (target_of p f.method f.at) f.stack.values
IsGivenTop p given _ = Unit {0}

-- the top level is a frame
abbrev pub IsFrameTop : List Level → Type 0
IsFrameTop (Code f ∷ ls) = Unit {0}
IsFrameTop _ = ⊥

-- a turn that a thread takes by itself: its call is answered, its instruction moves it, or it catches
abbrev pub TakesTurn : Program → Turn → List Level → Type 0
TakesTurn p (turn.Answers v) ls = TopAsks p ls
TakesTurn p (turn.Moves given) ls = IsGivenTop p given ls
TakesTurn p (turn.Catches e to) ls = Unit {0}
TakesTurn p _ ls = ⊥

-- what is completed is the answer of a request that may be answered there
pub record CompletesOne (p : Program) (a : Asked) (answer : Answer) (ls : List Level) : Type 0 where
  pub request : Request
  pub is_asked : a ≡ asked_for request
  pub asks : LevelsAsk p request ls
  pub raises : RaisesFault request answer

-- the thread goes on in one of the ways that its plan has
abbrev pub GoesSo : Program → After → Answer → List Level → Type 0
GoesSo p (after.Turns t) answer ls = TakesTurn p t ls
GoesSo p (after.Leaves v) answer ls = IsFrameTop ls
GoesSo p (after.Completes a) answer ls = CompletesOne p a answer ls
GoesSo p _ answer ls = Unit {0}

-- after a step that the choice may take, the thread can go on so
abbrev pub CanGoOnLaw : Type 0
CanGoOnLaw =
    (p : Program) (types : Types) → Accepted p types → (m : State) (c : Choice)
    → (th : ThreadState) (k : Taken) (a : After)
    → Sound p types m → slice_get m.threads c.thread ≡ Some th
    → attempt p m c th ≡ Some k → allowed m c k ≡ true
    → k.stand ≡ stand_of p a k.deed.answer th.mode th.levels
    → GoesSo p a k.deed.answer th.levels → CanGoOn p a k.deed.answer th.levels
