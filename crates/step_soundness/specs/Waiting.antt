-- What a thread of a sound machine waits for, where its next step isn't enabled.
use Rattle.std.specs.Prelude.{◌≡◌, ℕ, ◌==◌, true, false, None, Some, is_some, slice_get}
use Rattle.program_image.specs.Handlers.{code_of}
use Rattle.program_image.specs.Program.{Program}
use Rattle.program_image.specs.Selection.{select_of}
use Rattle.program_image.specs.declared.select.Selected.TheVariants.{Found}
use Rattle.machine_state.specs.declared.request.Request.{Request}
use Rattle.machine_state.specs.declared.state.Choice.{Choice}
use Rattle.machine_state.specs.declared.state.ClassState.TheVariants.{Running}
use Rattle.machine_state.specs.declared.state.ThreadState.{ThreadState}
use Rattle.machine_state.specs.Classes.{clinit_of, thread_run}
use Rattle.machine_state.specs.Next.{Needs, Plan}
use Rattle.machine_state.specs.Plan.{plan}
use Rattle.machine_state.specs.Requests.{key_of, cell}
use Rattle.machine_state.specs.Serve.{serve}
use Rattle.machine_state.specs.State.{State}
use Rattle.machine_state.specs.Step.{who, attempt}
use Rattle.frame_soundness.specs.AcceptedProgram.{Types, Accepted}
use Rattle.machine_soundness.specs.Laws.{MayWait}
use Rattle.machine_soundness.specs.Sound.{Sound}
use Rattle.step_soundness.specs.Laws.{IsAwake}

-- the methods that no instruction calls have code: initialisers of classes, `main`, and what may be
-- selected as the `run` of a thread
pub record HaveCode (p : Program) : Type 0 where
  pub clinits : (c m : ℕ) → clinit_of p c ≡ Some m → is_some (code_of p m) ≡ true
  pub main : is_some (code_of p p.main) ≡ true
  pub runs : (c m : ℕ) → select_of p.classes p.methods c (thread_run p) false ≡ Found m →
      is_some (code_of p m) ≡ true

-- what a plan waits for: the answer to a request that may have to wait, or a class whose
-- initialisation another thread has begun
pub data Waits (p : Program) (m : State) (c : Choice) (w : Plan) : Type 0 where
  for_answer : (r : Request) → w.next ≡ Needs r → MayWait r
      → serve p c.thread c r (cell m (key_of r)) ≡ None → Waits p m c w
  for_class : (k t : ℕ) → w.asks ≡ Some k → slice_get m.classes k ≡ Some (Running t)
      → (t == c.thread) ≡ false → Waits p m c w

-- a thread that neither waits nor has ended can take its step, whatever the choice's pick and name
-- are worth, or waits so
abbrev pub WaitsLaw : Type 0
WaitsLaw =
    (p : Program) (types : Types) → Accepted p types → HaveCode p
    → (m : State) (c : Choice) (th : ThreadState)
    → Sound p types m → slice_get m.threads c.thread ≡ Some th → IsAwake th.mode
    → attempt p m c th ≡ None → Waits p m c (plan p (who m.heap c.thread th) th.mode th.levels)
