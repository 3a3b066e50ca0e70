-- A thread after its request was answered.
use Rattle.std.specs.Prelude.{ℕ, true, false, List, [], ◌∷◌, Option, Some, None}
use Rattle.jvm_base.specs.declared.name.Name.{Name}
use Rattle.jvm_base.specs.declared.value.Value.{Value}
use Rattle.jvm_base.specs.declared.frame.Phase.{Phase}
use Rattle.jvm_base.specs.declared.frame.Phase.TheVariants as phase
use Rattle.jvm_base.specs.declared.frame.Frame.{Frame}
use Rattle.jvm_base.specs.declared.frame.Level.{Level}
use Rattle.jvm_base.specs.declared.frame.Level.TheVariants.{Code, Init}
use Rattle.code_table.specs.declared.code.Placed.{Placed}
use Rattle.code_table.specs.declared.op.Op.{Op}
use Rattle.code_table.specs.declared.op.Op.TheVariants as op
use Rattle.program_image.specs.Program.{Program}
use Rattle.program_image.specs.Words.{instruction_at}
use Rattle.frame_ops.specs.Operands.{returned}
use Rattle.machine_state.specs.declared.state.Mode.{Mode}
use Rattle.machine_state.specs.declared.state.Mode.TheVariants.{Entry, Running, Raising, Waiting}
use Rattle.machine_state.specs.declared.request.Request.{Request}
use Rattle.machine_state.specs.declared.request.Request.TheVariants.{Enter, Exit, Wait, Begin, InitDone, InitFail, Finish}
use Rattle.machine_state.specs.declared.request.Answer.{Answer}
use Rattle.machine_state.specs.declared.request.Answer.TheVariants.{Gives, Raises, Slept}
use Rattle.machine_state.specs.Next.{answered}

-- a thread's mode and levels, the top one first
abbrev pub Stand : Type 0
Stand = Mode × List Level

-- the top frame goes on with the answer
abbrev pub answer_top : Program → Option Value → List Level → List Level
answer_top p v (Code f ∷ ls) = Code (answered p v f) ∷ ls
answer_top p v ls = ls

-- the top frame's phase is another
abbrev pub phase_top : Phase → List Level → List Level
phase_top phase (Code f ∷ ls) = Code (record f { phase = phase }) ∷ ls
phase_top phase ls = ls

-- an initialisation on top goes
abbrev pub below_init : List Level → List Level
below_init (Init c begun ∷ ls) = ls
below_init ls = ls

-- ---- locks

-- a lock is entered for the frame itself, or by an instruction
abbrev pub entered_by : Program → Frame → List Level → Phase → List Level
entered_by p f ls phase.Lock = Code (record f { phase = phase.Body }) ∷ ls
entered_by p f ls _ = Code (answered p None f) ∷ ls

-- so are the levels
abbrev pub entered : Program → List Level → List Level
entered p (Code f ∷ ls) = entered_by p f ls f.phase
entered p ls = ls

-- a lock is left by a return, which keeps its value, or by another instruction
abbrev pub left_by_op : Program → Frame → Op → Frame
left_by_op p f (op.Return o) = record f { phase = phase.Unlock (returned o f.stack.values) }
left_by_op p f _ = answered p None f

-- by the instruction in its place
abbrev pub left_by : Program → Frame → Option Placed → Frame
left_by p f None = f
left_by p f (Some i) = left_by_op p f i.op

-- so are the levels
abbrev pub left : Program → List Level → List Level
left p (Code f ∷ ls) = Code (left_by p f (instruction_at p f.method f.at)) ∷ ls
left p ls = ls

-- ---- by answer

-- where the last initialisation has gone, the thread is about to enter again
abbrev pub after_init : List Level → Mode
after_init [] = Entry
after_init (l ∷ ls) = Running

-- after a value or none; a wait is answered so once its lock is taken again
abbrev pub given : Program → Request → Option Value → Mode → List Level → Stand
given p (Enter n) v mode ls = (mode, entered p ls)
given p (Exit n true) v mode ls = (mode, phase_top (phase.Unlock None) ls)
given p (Exit n false) v mode ls = (mode, left p ls)
given p (Begin c) v mode ls = (Running, Init c false ∷ ls)
given p (InitDone c) v mode ls = (after_init (below_init ls), below_init ls)
given p (InitFail c made) v mode ls = (mode, below_init ls)
given p (Finish e) v mode ls = (mode, ls)
given p (Wait n) v mode ls = (Running, answer_top p v ls)
given p r v mode ls = (mode, answer_top p v ls)

-- after an exception; a failed initialisation drops its level then too
abbrev pub raised_by : Request → Name → List Level → Stand
raised_by (InitFail c made) e ls = (Raising e, below_init ls)
raised_by r e ls = (Raising e, ls)

-- the lock that a request waits on
abbrev pub waited_lock : Request → Option Name
waited_lock (Wait n) = Some n
waited_lock _ = None

-- a thread that falls asleep has its call completed
abbrev pub slept : Program → Option Name → ℕ → Mode → List Level → Stand
slept p (Some n) k mode ls = (Waiting n k, answer_top p None ls)
slept p None k mode ls = (mode, ls)

-- the thread after an answer
unfoldable pub complete : Program → Request → Answer → Mode → List Level → Stand
complete p r (Gives v) mode ls = given p r v mode ls
complete p r (Raises e) mode ls = raised_by r e ls
complete p r (Slept k) mode ls = slept p (waited_lock r) k mode ls
