-- What a thread does next, from the program and the thread alone.
use Rattle.std.specs.Prelude.{ℕ, not, Bool, true, false, if◌then◌else◌, List, [], ◌∷◌, Option, Some, None}
use Rattle.jvm_base.specs.Words.{from}
use Rattle.jvm_base.specs.declared.name.Name.{Name}
use Rattle.jvm_base.specs.declared.value.Value.TheVariants.{Ref}
use Rattle.jvm_base.specs.declared.frame.Phase.{Phase}
use Rattle.jvm_base.specs.declared.frame.Phase.TheVariants as phase
use Rattle.jvm_base.specs.declared.frame.Frame.{Frame}
use Rattle.jvm_base.specs.declared.frame.Level.{Level}
use Rattle.jvm_base.specs.declared.frame.Level.TheVariants.{Code, Init}
use Rattle.program_image.specs.declared.select.Selected.{Selected}
use Rattle.program_image.specs.declared.select.Selected.TheVariants.{Found, NoBody, NoInterface, NotPublic}
use Rattle.program_image.specs.Program.{Program, target_of}
use Rattle.program_image.specs.Handlers.{handler_of}
use Rattle.program_image.specs.Selection.{select_of}
use Rattle.program_image.specs.Subclass.{is_sub_of}
use Rattle.program_image.specs.Words.{super_of, instruction_at}
use Rattle.instruction_table.specs.ClassTypes.{owner_of}
use Rattle.frame_ops.specs.Moves.{frame_moved}
use Rattle.machine_state.specs.declared.state.Mode.{Mode}
use Rattle.machine_state.specs.declared.state.Mode.TheVariants.{Entry, Running, Raising}
use Rattle.machine_state.specs.BootClasses.{error, class_change, abstract_method, illegal_access}
use Rattle.machine_state.specs.Calls.{calls}
use Rattle.machine_state.specs.Classes.{clinit_of, thread_run}
use Rattle.machine_state.specs.Instructions.{instruction_plan}
use Rattle.machine_state.specs.Next.{Next, Alone, Leaves, Drops, Needs, Stuck, Plan, Who, plain, asking, fault}
use Rattle.machine_state.specs.PreMade.{arguments}
use Rattle.machine_state.specs.declared.request.Request.TheVariants.{Enter, Exit, InitDone, InitFail, Finish}

-- ---- a thread that runs

-- in the code of a method, the instruction
abbrev pub body_plan : Program → Who → Frame → Plan
body_plan p who f =
    from (plain Stuck) (λ i. instruction_plan p who f i (target_of p f.method f.at))
    (instruction_at p f.method f.at)

-- a synchronized method enters its lock first; one whose lock was left gives its value
abbrev pub frame_plan : Program → Who → Frame → Phase → Option Name → Plan
frame_plan p who f phase.Lock (Some lock) = plain (Needs (Enter lock))
frame_plan p who f phase.Lock None = plain Stuck
frame_plan p who f phase.Body lock = body_plan p who f
frame_plan p who f (phase.Unlock v) lock = plain (Leaves v)

-- a class asks for its superclass, calls its initialiser, where it has one, and is done (JVMS2
-- 2.17.5)
abbrev pub init_plan : Program → Who → ℕ → Bool → Plan
init_plan p who c true = plain (Needs (InitDone c))
init_plan p who c false =
    record
    { asks = super_of p c; next = from (Needs (InitDone c)) (λ m. calls who m []) (clinit_of p c) }

-- a thread without levels ends
abbrev pub running_plan : Program → Who → List Level → Plan
running_plan p who [] = plain (Needs (Finish None))
running_plan p who (Code f ∷ ls) = frame_plan p who f f.phase f.lock
running_plan p who (Init c begun ∷ ls) = init_plan p who c begun

-- ---- a thread that raises

-- a frame without a handler is dropped; one of a synchronized method leaves its lock first
abbrev pub unwinds : Phase → Option Name → Next
unwinds phase.Body (Some lock) = Needs (Exit lock true)
unwinds _ _ = Drops

-- a frame with a handler goes on there, with the exception alone
abbrev pub handled : Frame → Name → ℕ → Next
handled f e to = Alone (frame_moved f to (Ref e ∷ []))

-- the handlers are those of the code, not of its lock
abbrev pub is_body : Phase → Bool
is_body phase.Body = true
is_body _ = false

-- the handler that an exception meets in a frame
abbrev pub handler_for : Program → Frame → Name → Option ℕ
handler_for p f e = if is_body f.phase then handler_of p f.method f.at e.class else None

-- an initialisation fails; an exception that isn't an Error is replaced
abbrev pub raising_plan : Program → Name → List Level → Plan
raising_plan p e [] = plain (Needs (Finish (Some e)))
raising_plan p e (Code f ∷ ls) =
    plain (from (unwinds f.phase f.lock) (handled f e) (handler_for p f e))
raising_plan p e (Init c begun ∷ ls) =
    plain (Needs (InitFail c (not (is_sub_of p.classes e.class error))))

-- ---- a thread that has not begun

-- a call of the `run` that is selected for its Thread object
abbrev pub runs_thread : Program → Who → Selected → Next
runs_thread p who (Found m) = calls who m (Ref who.object ∷ [])
runs_thread p who NoBody = fault abstract_method
runs_thread p who NoInterface = fault class_change
runs_thread p who NotPublic = fault illegal_access

-- thread 0 asks for the main class and calls `main`
abbrev pub entry_plan : Program → Who → Plan
entry_plan p who =
    if who.first then asking (owner_of p p.main) (calls who p.main (Ref (arguments p) ∷ []))
    else plain
    (runs_thread p who (select_of p.classes p.methods who.object.class (thread_run p) false))

-- ---- by mode

-- of a thread that neither waits nor has ended
unfoldable pub plan : Program → Who → Mode → List Level → Plan
plan p who Entry ls = entry_plan p who
plan p who Running ls = running_plan p who ls
plan p who (Raising e) ls = raising_plan p e ls
plan p who mode ls = plain Stuck
