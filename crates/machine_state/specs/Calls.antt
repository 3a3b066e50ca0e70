-- Calls: which method runs, and what a call of it does (JVMS2 6, invokevirtual and its like).
use Rattle.std.specs.Prelude.{ℕ, ◌==◌, ◌||◌, nat_lt, Bool, false, if◌then◌else◌, List, ◌∷◌}
use Rattle.jvm_base.specs.Words.{from}
use Rattle.jvm_base.specs.declared.name.Name.{Name}
use Rattle.jvm_base.specs.declared.value.Value.{Value}
use Rattle.jvm_base.specs.declared.value.Value.TheVariants.{Ref}
use Rattle.jvm_base.specs.declared.frame.Frame.{Frame}
use Rattle.code_table.specs.declared.opcode.TheConstants as code
use Rattle.program_image.specs.declared.info.Body.{Body}
use Rattle.program_image.specs.declared.info.Body.TheVariants as body
use Rattle.program_image.specs.declared.select.Selected.{Selected}
use Rattle.program_image.specs.declared.select.Selected.TheVariants.{Found, NoBody, NoInterface, NotPublic}
use Rattle.program_image.specs.Program.{Program}
use Rattle.program_image.specs.Selection.{select_of}
use Rattle.program_image.specs.Words.{super_of}
use Rattle.instruction_table.specs.ClassTypes.{owner_of, is_initialiser}
use Rattle.instruction_table.specs.Rows.{is_direct}
use Rattle.machine_state.specs.BootClasses.{class_change, abstract_method, illegal_access, stack_overflow}
use Rattle.machine_state.specs.Classes.{body_of}
use Rattle.machine_state.specs.IntrinsicCalls.{calls_intrinsic}
use Rattle.machine_state.specs.Next.{Next, Calls, Stuck, Plan, Who, plain, asking, fault}

-- at most 1,024 frames
abbrev pub max_depth : ℕ
max_depth = 1024

-- a call of a method with code, unless the stack is full
abbrev pub calls : Who → ℕ → List Value → Next
calls who m vs = if nat_lt who.depth max_depth then Calls m vs else fault stack_overflow

-- a call of a method, by what it does
abbrev pub runs : Program → Who → Frame → ℕ → List Value → Body → Next
runs p who f m vs (body.Code c) = calls who m vs
runs p who f m vs (body.Intrinsic k) = calls_intrinsic p who k f vs
runs p who f m vs body.Abstract = fault abstract_method

-- of the method of a number
abbrev pub runs_method : Program → Who → Frame → ℕ → List Value → Next
runs_method p who f m vs = runs p who f m vs (body_of p m)

-- a call of what was selected
abbrev pub runs_selected : Program → Who → Frame → List Value → Selected → Next
runs_selected p who f vs (Found m) = runs_method p who f m vs
runs_selected p who f vs NoBody = fault abstract_method
runs_selected p who f vs NoInterface = fault class_change
runs_selected p who f vs NotPublic = fault illegal_access

-- ---- by instruction

-- what runs for a receiver; the values begin with it
abbrev pub with_receiver : List Value → (Name → Next) → Next
with_receiver (Ref n ∷ vs) f = f n
with_receiver _ f = Stuck

-- `invokespecial` runs the method itself: an initialiser, a private method, or one that no
-- superclass of the current class declares
abbrev pub is_special_direct : Program → ℕ → ℕ → Bool
is_special_direct p current m = is_initialiser p m || is_direct p current m

-- else it searches from the direct superclass
abbrev pub special_call : Program → Who → Frame → ℕ → List Value → Next
special_call p who f m vs =
    if is_special_direct p (owner_of p f.method) m then runs_method p who f m vs
    else runs_selected p who f vs
    (from NoBody (λ c. select_of p.classes p.methods c m false) (super_of p (owner_of p f.method)))

-- the others search from the receiver's class
abbrev pub selected_call : Program → Who → Frame → ℕ → ℕ → List Value → Name → Next
selected_call p who f o m vs n =
    runs_selected p who f vs (select_of p.classes p.methods n.class m (o == code.INVOKEINTERFACE))

-- a call on a receiver
abbrev pub receiver_call : Program → Who → Frame → ℕ → ℕ → List Value → Next
receiver_call p who f o m vs =
    with_receiver vs (λ n. if o == code.INVOKESPECIAL then special_call p who f m vs
    else selected_call p who f o m vs n)

-- `invokestatic` asks for the class of its method
abbrev pub invokes : Program → Who → Frame → ℕ → ℕ → List Value → Plan
invokes p who f o m vs =
    if o == code.INVOKESTATIC then asking (owner_of p m) (runs_method p who f m vs)
    else plain (receiver_call p who f o m vs)
