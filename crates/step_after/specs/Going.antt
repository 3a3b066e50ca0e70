-- How a thread goes on after its step, as the code tells it.
use Rattle.std.specs.Prelude.{◌≤◌, List, ◌∷◌, Option}
use Rattle.jvm_base.specs.Tops.{below}
use Rattle.jvm_base.specs.declared.frame.Level.{Level}
use Rattle.jvm_base.specs.declared.frame.Level.TheVariants.{Code}
use Rattle.program_image.specs.Program.{Program}
use Rattle.machine_state.specs.declared.request.Answer.{Answer}
use Rattle.machine_state.specs.declared.state.Mode.{Mode}
use Rattle.machine_state.specs.declared.state.Mode.TheVariants.{Running, Raising}
use Rattle.machine_state.specs.Complete.{Stand, answer_top, complete}
use Rattle.machine_state.specs.Frames.{noted}
use Rattle.step_complete.specs.Asked.{request_like}
use Rattle.step_complete.specs.Condition.{CanTurn, CanComplete}
use Rattle.step_complete.specs.Turns.{turned}
use Rattle.step_complete.specs.declared.turns.Turn.TheVariants as turn
use Rattle.step_after.specs.declared.after.After.{After}
use Rattle.step_after.specs.declared.after.After.TheVariants as after

-- the thread's mode and levels then, after an answer
unfoldable pub stand_of : Program → After → Answer → Mode → List Level → Stand
stand_of p (after.Turns t) a mode ls = (Running, turned p t ls)
stand_of p (after.Throws e) a mode ls = (Raising e, ls)
stand_of p (after.Calls f) a mode ls = (Running, Code f ∷ noted ls)
stand_of p (after.Leaves v) a mode ls = (mode, answer_top p v (below ls))
stand_of p after.Drops a mode ls = (mode, below ls)
stand_of p (after.Completes asked) a mode ls = complete p (request_like asked) a mode ls
stand_of p after.Retakes a mode ls = (Running, ls)

-- the levels can go on so
abbrev pub CanGoOn : Program → After → Answer → List Level → Type 0
CanGoOn p (after.Turns t) a ls = CanTurn p t ls
CanGoOn p (after.Leaves v) a ls = CanTurn p (turn.Answers v) (below ls)
CanGoOn p (after.Completes asked) a ls = CanComplete p asked a ls
CanGoOn p _ a ls = Unit {0}
