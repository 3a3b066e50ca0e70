-- What the typings of methods owe to a machine.
use Rattle.std.specs.Prelude.{◌≡◌, ℕ, true, List, [], ◌∷◌, Option, Some}
use Rattle.jvm_base.specs.declared.code_item.CodeItem.{CodeItem}
use Rattle.jvm_base.specs.declared.pool.PoolItem.{PoolItem}
use Rattle.class_format.specs.Meaning.{AreBytes}
use Rattle.code_table.specs.Accepted.{IsCode}
use Rattle.code_table.specs.declared.code.Code.{Code}
use Rattle.program_image.specs.Handlers.{code_of, handler_of}
use Rattle.program_image.specs.Program.{Program}
use Rattle.flow_types.specs.Tree.{superclasses}
use Rattle.flow_types.specs.Types.{type_fits}
use Rattle.flow_types.specs.declared.flow_frame.FlowFrame.{FlowFrame}
use Rattle.flow_types.specs.declared.flow_type.FlowType.TheVariants as flow
use Rattle.instruction_table.specs.ClassTypes.{class_type}
use Rattle.instruction_table.specs.Rows.{throwable}
use Rattle.instruction_table.specs.Working.{with_stack}
use Rattle.instruction_table.specs.declared.work.Work.{Work}
use Rattle.flow_verifier.specs.Methods.{method_of}
use Rattle.flow_verifier.specs.Typing.{IsTyping}
use Rattle.frame_soundness.specs.AcceptedProgram.{Types, FlowsTo, Instruction, Enters, Subs}

-- ---- what is given

-- the bytes and the pool that some code was decoded from
pub record WasDecoded (c : Code) : Type 0 where
  pub item : CodeItem
  pub pool : List PoolItem
  pub bytes : AreBytes item.code
  pub is_code : IsCode item pool c

-- all code of a program was decoded
abbrev pub AreDecoded : Program → Type 0
AreDecoded p = (m : ℕ) (c : Code) → code_of p m ≡ Some c → WasDecoded c

-- each method with code has a typing
abbrev pub HaveTypings : Program → Type 0
HaveTypings p = (m : ℕ) (c : Code) → code_of p m ≡ Some c →
    (fs : List (Option FlowFrame)) × IsTyping p (method_of p m) fs

-- ---- what is owed

-- frames at work that instructions, calls and handlers keep to
pub record AreKept (p : Program) (types : Types) : Type 0 where
  pub instructions : (m at : ℕ) (w : Work) → types m at ≡ Some w → Instruction p types m at w
  pub entries : (m : ℕ) (c : Code) → code_of p m ≡ Some c → Enters p types m c
  pub handlers : (m at e to : ℕ) (w : Work) → types m at ≡ Some w →
      handler_of p m at e ≡ Some to →
      type_fits (superclasses p) (class_type p e) (flow.Class throwable) ≡ true →
      FlowsTo p (with_stack w (class_type p e ∷ [])) (types m to)

-- where subclasses are of the types of their classes, typings are such frames
abbrev pub FramingLaw : Type 0
FramingLaw = (p : Program) → Subs p → AreDecoded p → HaveTypings p →
    (types : Types) × AreKept p types
