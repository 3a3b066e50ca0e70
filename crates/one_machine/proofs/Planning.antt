-- A thread of a sound machine can be planned for.
use Rattle.std.proofs.Common.{◌≡◌, ℕ, ◌≤◌, Bool, List, [], ◌∷◌, length, Option, Some, None, refl, sym, ap, subst, ◌∙◌, arith}
use Rattle.std.specs.Prelude.{slice_get}
use Rattle.jvm_base.specs.declared.frame.Frame.{Frame}
use Rattle.jvm_base.specs.declared.frame.Level.{Level}
use Rattle.jvm_base.specs.declared.frame.Level.TheVariants.{Code, Init}
use Rattle.jvm_base.specs.declared.name.Name.{Name}
use Rattle.jvm_base.specs.declared.value.Value.{Value}
use Rattle.code_table.specs.declared.code.Placed.{Placed}
use Rattle.code_table.specs.declared.op.Op.{Op}
use Rattle.code_table.specs.declared.op.Op.TheVariants as op
use Rattle.program_image.specs.Program.{Program, target_of}
use Rattle.program_image.specs.Words.{instruction_at}
use Rattle.frame_ops.specs.Stepping.{CanRun, CanTake, operand_count}
use Rattle.machine_state.specs.Instructions.{given_to}
use Rattle.machine_state.specs.declared.state.Mode.{Mode}
use Rattle.machine_state.specs.declared.state.Mode.TheVariants.{Entry}
use Rattle.machine_state.specs.declared.state.ThreadState.{ThreadState}
use Rattle.machine_state.specs.State.{State}
use Rattle.frame_soundness.specs.AcceptedProgram.{Types, Accepted}
use Rattle.frame_soundness.specs.Conditions.{MayTake}
use Rattle.frame_soundness.specs.Frames.{FrameFits}
use Rattle.frame_soundness.proofs.ConditionLaws.{meets-condition}
use Rattle.machine_soundness.specs.Bodies.{there_in}
use Rattle.machine_soundness.specs.Levels.{ModeFits}
use Rattle.machine_soundness.specs.Sound.{Sound}
use Rattle.step_after.proofs.Going.{HasLevels, levels_of}
use Rattle.step_plan.specs.Condition.{HasOperands, CanPlanAt, CanPlanIn, CanPlan}

-- what an instruction takes that is answered is there
has_operands : (o : Op) (vs : List Value) → (MayTake o None → operand_count o ≤ length vs) → HasOperands o vs
has_operands (op.Invoke k i d) vs h = h (omega arith)
has_operands (op.NewArray k) vs h = h tt
has_operands (op.AnewArray i) vs h = h tt
has_operands (op.MultiNewArray i n) vs h = h tt
has_operands _ vs h = tt

-- a frame that fits
plans_in : (p : Program) (types : Types) → Accepted p types → (there : Name → Bool) (f : Frame) → FrameFits p types there f → CanPlanIn p f
plans_in p types a there f h = record { here = λ i body e. at i e }
  where
    at : (i : Placed) → instruction_at p f.method f.at ≡ Some i → CanPlanAt p f i
    at i e =
        let met = meets-condition p types a there f h in
        let same : Some i ≡ Some met.placed = sym e ∙ met.is_placed in
        let one : met.placed ≡ i = cc in
        record {
          runs = subst (λ (k : Placed). CanRun k (given_to p k.op (target_of p f.method f.at) f.stack.values) f) one met.runs;
          enough = has_operands i.op f.stack.values (subst (λ (k : Placed). MayTake k.op None → operand_count k.op ≤ length f.stack.values) one (λ may. (met.takes None may).enough));
        }

-- the top one of levels that fit
plans : (p : Program) (types : Types) → Accepted p types → (there : Name → Bool) (ls : List Level) → HasLevels p types there ls → CanPlan p ls
plans p types a there [] h = tt
plans p types a there (Init c b ∷ ls) h = tt
plans p types a there (Code f ∷ ls) h = plans_in p types a there f h.fit.0

-- each thread of a sound machine
pub can_plan : (p : Program) (types : Types) → Accepted p types → (m : State) (t : ℕ) (th : ThreadState) → Sound p types m → slice_get m.threads t ≡ Some th → CanPlan p th.levels
can_plan p types a m t th sound at =
    plans p types a (there_in m.heap) th.levels (levels_of p types (there_in m.heap) th.mode th.levels (sound.threads t th at).levels)

-- one that has not begun has no levels
pub no_levels : (p : Program) (types : Types) (m : State) (t : ℕ) (th : ThreadState) → Sound p types m → slice_get m.threads t ≡ Some th → th.mode ≡ Entry → th.levels ≡ []
no_levels p types m t th sound at entry =
    subst (λ (x : Mode). ModeFits p types (there_in m.heap) x th.levels) entry (sound.threads t th at).levels
