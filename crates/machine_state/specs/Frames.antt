-- Frames for calls (JVMS2 3.6).
use Rattle.std.specs.Prelude.{ℕ, zero, suc, ◌+◌, pos, true, if◌then◌else◌, not, List, [], ◌∷◌, Option, Some, None}
use Rattle.std.specs.List.{flat_map}
use Rattle.jvm_base.specs.Words.{from}
use Rattle.jvm_base.specs.declared.name.Name.{Name}
use Rattle.jvm_base.specs.declared.value.Value.{Value}
use Rattle.jvm_base.specs.declared.value.Value.TheVariants.{Int, Ref}
use Rattle.jvm_base.specs.declared.frame.Phase.{Phase}
use Rattle.jvm_base.specs.declared.frame.Phase.TheVariants as phase
use Rattle.jvm_base.specs.declared.frame.Frame.{Frame}
use Rattle.jvm_base.specs.declared.frame.Level.{Level}
use Rattle.jvm_base.specs.declared.frame.Level.TheVariants.{Code, Init}
use Rattle.code_table.specs.declared.code.Code.{Code as MethodCode}
use Rattle.class_format.specs.Flags.{is_synchronized}
use Rattle.program_image.specs.Program.{Program}
use Rattle.program_image.specs.Handlers.{code_of}
use Rattle.instruction_table.specs.ClassTypes.{owner_of, flags_of}
use Rattle.frame_ops.specs.Operands.{local_slots}
use Rattle.machine_state.specs.declared.state.Mode.TheVariants.{Running}
use Rattle.machine_state.specs.Classes.{is_without_receiver}
use Rattle.machine_state.specs.Complete.{Stand}
use Rattle.machine_state.specs.PreMade.{holder}

-- how deep the calls are
abbrev pub frames : List Level → ℕ
frames [] = 0
frames (Code f ∷ ls) = 1 + frames ls
frames (Init c b ∷ ls) = frames ls

-- at least so many locals, where those behind hold Int(0)
abbrev pub padded : ℕ → List Value → List Value
padded zero vs = vs
padded (suc n) [] = Int (pos 0) ∷ padded n []
padded (suc n) (v ∷ vs) = v ∷ padded n vs

-- the locals of a call: its values, where a long takes two
abbrev pub call_locals : ℕ → List Value → List Value
call_locals n vs = padded n (flat_map local_slots vs)

-- the receiver of a call
abbrev pub receiver : List Value → Option Name
receiver (Ref n ∷ vs) = Some n
receiver _ = None

-- what a synchronized method locks: its receiver, or the holder of its class (JVMS2 2.10.3)
abbrev pub lock_for : Program → ℕ → List Value → Option Name
lock_for p m vs =
    if not (is_synchronized (flags_of p m)) then None
    else (if is_without_receiver p m then Some (holder (owner_of p m)) else receiver vs)

-- a frame begins with its lock, if it has one
abbrev pub first_phase : Option Name → Phase
first_phase None = phase.Body
first_phase (Some lock) = phase.Lock

-- the frame of a call with these values
abbrev pub new_frame : Program → ℕ → List Value → MethodCode → Frame
new_frame p m vs c = record {
  method = m;
  at = 0;
  phase = first_phase (lock_for p m vs);
  lock = lock_for p m vs;
  locals = call_locals c.max_locals vs;
  stack = record { values = []; room = c.max_stack };
}

-- an initialisation below notes that its initialiser was called
abbrev pub noted : List Level → List Level
noted (Init c b ∷ ls) = Init c true ∷ ls
noted ls = ls

-- a thread after a call, where the method has code
abbrev pub called : Program → ℕ → List Value → List Level → Option Stand
called p m vs ls =
    from None (λ c. Some (Running, Code (new_frame p m vs c) ∷ noted ls)) (code_of p m)
