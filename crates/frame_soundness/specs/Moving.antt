-- What the move of an instruction leaves: operands and locals that fit the frame after it.
use Rattle.std.specs.Prelude.{◌≡◌, ℕ, Bool, true, List, [], Option, Some}
use Rattle.jvm_base.specs.declared.name.Name.{Name}
use Rattle.jvm_base.specs.declared.value.Value.{Value}
use Rattle.code_table.specs.declared.op.Op.{Op}
use Rattle.code_table.specs.declared.op.Op.TheVariants as op
use Rattle.hierarchy.specs.Walks.{has}
use Rattle.program_image.specs.declared.info.Target.{Target}
use Rattle.program_image.specs.declared.info.Target.TheVariants.{Constant}
use Rattle.program_image.specs.Program.{Program, target_of}
use Rattle.flow_types.specs.Tree.{superclasses}
use Rattle.flow_types.specs.Types.{type_fits}
use Rattle.flow_types.specs.declared.flow_type.FlowType.TheVariants as flow
use Rattle.instruction_table.specs.ClassTypes.{class_type}
use Rattle.instruction_table.specs.Rows.{row, jumps, falls, throwable}
use Rattle.instruction_table.specs.Working.{site_of, row_rules}
use Rattle.instruction_table.specs.declared.work.Work.{Work}
use Rattle.frame_ops.specs.Moves.{Move, Goes, Jumps, Sets, Raises, Throws, Asks, Calls, Leaves, Stuck, locals_set}
use Rattle.frame_ops.specs.Table.{move_of}
use Rattle.machine_state.specs.Instructions.{given_to}
use Rattle.frame_soundness.specs.AcceptedProgram.{Subs, IsSwitch, next_at}
use Rattle.frame_soundness.specs.Fitting.{Fits}
use Rattle.frame_soundness.specs.Values.{is_there}

-- an object that is there and may be thrown
pub record IsThrown (p : Program) (there : Name → Bool) (e : Name) : Type 0 where
  pub is_here : there e ≡ true
  pub fits : type_fits (superclasses p) (class_type p e.class) (flow.Class throwable) ≡ true

-- the instructions that ask for something that threads share
abbrev pub MayAsk : Op → Type 0
MayAsk (op.ArrayLoad o) = Unit {0}
MayAsk (op.ArrayStore o) = Unit {0}
MayAsk (op.Static o i d) = Unit {0}
MayAsk (op.Field o i d) = Unit {0}
MayAsk (op.New i) = Unit {0}
MayAsk (op.NewArray k) = Unit {0}
MayAsk (op.AnewArray i) = Unit {0}
MayAsk (op.MultiNewArray i n) = Unit {0}
MayAsk op.ArrayLength = Unit {0}
MayAsk (op.Monitor o) = Unit {0}
MayAsk _ = ⊥

-- those that call
abbrev pub MayCall : Op → Type 0
MayCall (op.Invoke o i d) = Unit {0}
MayCall _ = ⊥

-- those that return
abbrev pub MayLeave : Op → Type 0
MayLeave (op.Return o) = Unit {0}
MayLeave _ = ⊥

-- the operands and locals that a move leaves fit the frame after it, it leads where the instruction
-- may lead, what is thrown may be thrown, only some instructions ask, call or return, and none is
-- stuck
abbrev pub Moves :
    Program → ℕ → (Name → Bool) → List Value → Op → Work → Move → Type 0
Moves p m there locals o after (Goes vs) = (falls o ≡ true) × Fits p m there locals vs after
Moves p m there locals o after (Jumps to vs) =
    (has (jumps o) to ≡ true) × Fits p m there locals vs after
Moves p m there locals o after (Sets i new vs) =
    (falls o ≡ true) × Fits p m there (locals_set i new locals) vs after
Moves p m there locals o after (Raises fault) = Unit {0}
Moves p m there locals o after (Throws e) = IsThrown p there e
Moves p m there locals o after Asks = MayAsk o
Moves p m there locals o after Calls = MayCall o
Moves p m there locals o after (Leaves v) = MayLeave o
Moves p m there locals o after Stuck = ⊥

-- a constant that is pushed is one, and its object is there
abbrev pub IsPushed : (Name → Bool) → Option Target → Type 0
IsPushed there t = (v : Value) × (t ≡ Some (Constant v)) × (is_there there v ≡ true)

-- so it is where an instruction pushes one
abbrev pub IsTold : (Name → Bool) → Op → Option Target → Type 0
IsTold there (op.Ldc i) t = IsPushed there t
IsTold there (op.Ldc2 i) t = IsPushed there t
IsTold there _ t = Unit {0}

-- of each instruction that breaks no rule in a frame, where values are of the frame's types
abbrev pub MovesLaw : Type 0
MovesLaw =
    (p : Program) → Subs p → (there : Name → Bool) (m at : ℕ) (o : Op)
    (locals vs : List Value) (w : Work)
    → IsSwitch o → IsTold there o (target_of p m at)
    → Fits p m there locals vs w → row_rules (site_of p m) (row p m at o) w ≡ []
    → Moves p m there locals o (next_at p m at o w)
    (move_of o (given_to p o (target_of p m at) vs) locals vs)
