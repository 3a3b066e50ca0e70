-- When values stand for the types of a frame at work.
use Rattle.std.specs.Prelude.{◌≡◌, ℕ, Bool, true, List}
use Rattle.jvm_base.specs.declared.name.Name.{Name}
use Rattle.jvm_base.specs.declared.value.Value.{Value}
use Rattle.program_image.specs.Program.{Program}
use Rattle.flow_types.specs.TypeLists.{AreOperands}
use Rattle.flow_types.specs.declared.flow_type.FlowType.{FlowType}
use Rattle.instruction_table.specs.declared.work.Work.{Work}
use Rattle.frame_soundness.specs.Values.{all_held}

-- operands are of types that operands may have
pub record Both (p : Program) (method : ℕ) (there : Name → Bool)
    (vs : List Value) (ts : List FlowType) : Type 0 where
  pub held : all_held p method there vs ts ≡ true
  pub operands : AreOperands ts

-- locals and operands are of the types of a frame at work
pub record Fits (p : Program) (method : ℕ) (there : Name → Bool)
    (locals vs : List Value) (w : Work) : Type 0 where
  pub locals_held : all_held p method there locals w.locals ≡ true
  pub stack : Both p method there vs w.stack
