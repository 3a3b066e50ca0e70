-- A step that touches its frame alone is the step that its thread plans.
use Rattle.std.proofs.Common.{◌≡◌, ◌≢◌, ℕ, ◌-◌, ◌≤◌, ◌<◌, Bool, true, false, List, [], ◌∷◌, length, reverse, get_or, Option, Some, None, refl, sym, ap, subst, ◌∙◌, arith}
use Rattle.std.specs.Prelude.{option_map, is_some, if◌then◌else◌, slice_get, slice_set}
use Rattle.jvm_base.specs.Words.{from}
use Rattle.jvm_base.specs.declared.name.Name.{Name}
use Rattle.jvm_base.specs.declared.frame.Frame.{Frame}
use Rattle.jvm_base.specs.declared.frame.Level.{Level}
use Rattle.jvm_base.specs.declared.frame.Level.TheVariants.{Code, Init}
use Rattle.jvm_base.specs.declared.frame.Phase.{Phase}
use Rattle.jvm_base.specs.declared.frame.Phase.TheVariants as phase
use Rattle.code_table.specs.declared.code.Placed.{Placed}
use Rattle.program_image.specs.declared.info.Target.{Target}
use Rattle.program_image.specs.Program.{Program, target_of}
use Rattle.program_image.specs.Words.{instruction_at}
use Rattle.frame_ops.specs.declared.answer.Pure.{Pure}
use Rattle.frame_ops.specs.declared.answer.Pure.TheVariants as pure
use Rattle.frame_ops.specs.Condition.{IsDefined}
use Rattle.frame_ops.specs.Moves.{Move, Goes, Jumps, Sets, Stuck as StuckThere, frame_after, pure_answer}
use Rattle.frame_ops.specs.Stepping.{move_at}
use Rattle.machine_state.specs.declared.state.Choice.{Choice}
use Rattle.machine_state.specs.declared.state.Mode.{Mode}
use Rattle.machine_state.specs.declared.state.Mode.TheVariants.{Entry, Running, Raising, Waiting, Ended}
use Rattle.machine_state.specs.declared.state.ThreadState.{ThreadState}
use Rattle.machine_state.specs.Instructions.{given_to, by_move, instruction_plan}
use Rattle.machine_state.specs.Next.{Alone, Stuck, Who, plain}
use Rattle.machine_state.specs.Plan.{frame_plan, plan}
use Rattle.machine_state.specs.Runs.{any_choice}
use Rattle.machine_state.specs.State.{State}
use Rattle.machine_state.specs.Step.{Taken, after, attempt, by_mode, moved_on, planned, step, taken_alone, who}
use Rattle.step_after.proofs.Stepped.{steps}
use Rattle.step_plan.specs.Condition.{CanPlan, CanPlanIn}
use Rattle.one_machine.specs.InPlace.{frame_next, if_next, level_next, levels_next, placed_next, running_next}

-- ---- the code's answer

-- the frame has gone on exactly where the instruction answers so
pub next_moved : (a : Pure) (f g : Frame) → is_some (if_next a g) ≡ is_some (if_next a f)
next_moved pure.Next f g = refl
next_moved _ f g = refl

pub goes_on : (f g : Frame) (a : Pure) → a ≡ pure.Next → (true ≡ is_some (if_next a g)) × (g ≡ from f (λ x. x) (if_next a g))
goes_on f g pure.Next e = (refl, refl)
goes_on f g _ e = absurd cc

pub stays : (f g : Frame) (a : Pure) → a ≢ pure.Next → (false ≡ is_some (if_next a g)) × (f ≡ from f (λ x. x) (if_next a g))
stays f g pure.Next e = absurd (e refl)
stays f g _ e = (refl, refl)

-- ---- the plan

-- the move of an instruction that touches its frame alone
by_next : (p : Program) (by : Who) (f g : Frame) (i : Placed) (t : Option Target) (m : Move) → IsDefined m → if_next (pure_answer m) (frame_after m i.next f) ≡ Some g → by_move p by f i t m ≡ plain (Alone g)
by_next p by f g i t (Goes vs) h e = let one : frame_after (Goes vs) i.next f ≡ g = cc in ap (λ x. plain (Alone x)) one
by_next p by f g i t (Jumps to vs) h e = let one : frame_after (Jumps to vs) i.next f ≡ g = cc in ap (λ x. plain (Alone x)) one
by_next p by f g i t (Sets k new vs) h e = let one : frame_after (Sets k new vs) i.next f ≡ g = cc in ap (λ x. plain (Alone x)) one
by_next p by f g i t StuckThere h e = absurd h
by_next p by f g i t _ h e = absurd cc

module _ (p : Program) (by : Who) (f g : Frame) where
  -- the instruction where the frame is
  body_plans : CanPlanIn p f → f.phase ≡ phase.Body → (o : Option Placed) → instruction_at p f.method f.at ≡ o
      → from None (λ i. placed_next i (given_to p i.op (target_of p f.method f.at) f.stack.values) f) o ≡ Some g
      → from (plain Stuck) (λ i. instruction_plan p by f i (target_of p f.method f.at)) o ≡ plain (Alone g)
  body_plans can body None at e = absurd cc
  body_plans can body (Some i) at e =
      by_next p by f g i (target_of p f.method f.at) (move_at i (given_to p i.op (target_of p f.method f.at) f.stack.values) f)
      (can.here i body at).runs.moves.defined e

  -- the frame
  frame_plans : CanPlanIn p f → (ph : Phase) (lock : Option Name) → f.phase ≡ ph → frame_next p f ph ≡ Some g → frame_plan p by f ph lock ≡ plain (Alone g)
  frame_plans can phase.Body lock body e = body_plans can body (instruction_at p f.method f.at) refl e
  frame_plans can phase.Lock lock body e = absurd cc
  frame_plans can (phase.Unlock v) lock body e = absurd cc

-- ---- the step

-- what a step does that touches its frame alone
abbrev pub alone_on : List Level → Taken
alone_on ls = taken_alone (Running, ls)

-- the plan of its levels is done
level_plans : (p : Program) (m : State) (c : Choice) (by : Who) (l : Level) (rest ls : List Level) → CanPlan p (l ∷ rest) → levels_next p (l ∷ rest) ≡ Some ls
    → planned p m c Running (l ∷ rest) (plan p by Running (l ∷ rest)) ≡ Some (alone_on ls)
unfolding plan
level_plans p m c by (Init k b) rest ls can e = absurd cc
level_plans p m c by (Code f) rest ls can e = by_frame (frame_next p f f.phase) refl e
  where
    by_frame : (o : Option Frame) → frame_next p f f.phase ≡ o → option_map (λ k. k ∷ rest) (option_map (λ g. Code g) o) ≡ Some ls
        → planned p m c Running (Code f ∷ rest) (frame_plan p by f f.phase f.lock) ≡ Some (alone_on ls)
    by_frame None at is = absurd cc
    by_frame (Some g) at is =
        let one : Code g ∷ rest ≡ ls = cc in
        ap (planned p m c Running (Code f ∷ rest)) (frame_plans p by f g can f.phase f.lock refl at) ∙ ap (λ x. Some (alone_on x)) one

-- the thread's next step is that
pub attempts : (p : Program) (m : State) (c : Choice) (th : ThreadState) (ls : List Level) → CanPlan p th.levels → running_next p th.mode th.levels ≡ Some ls → attempt p m c th ≡ Some (alone_on ls)
unfolding attempt
attempts p m c th ls can e = of_mode th.mode refl e
  where
    of_levels : (old : List Level) → th.levels ≡ old → levels_next p old ≡ Some ls → planned p m c Running th.levels (plan p (who m.heap c.thread th) Running th.levels) ≡ Some (alone_on ls)
    of_levels [] at is = absurd cc
    of_levels (l ∷ rest) at is =
        ap (λ xs. planned p m c Running xs (plan p (who m.heap c.thread th) Running xs)) at
        ∙ level_plans p m c (who m.heap c.thread th) l rest ls (subst (λ xs. CanPlan p xs) at can) is

    of_mode : (mode : Mode) → th.mode ≡ mode → running_next p mode th.levels ≡ Some ls → by_mode p m c th th.mode ≡ Some (alone_on ls)
    of_mode Running at is =
        ap (λ x. by_mode p m c th x) at
        ∙ ap (λ x. planned p m c x th.levels (plan p (who m.heap c.thread th) x th.levels)) at
        ∙ of_levels th.levels refl is
    of_mode Entry at is = absurd cc
    of_mode (Raising x) at is = absurd cc
    of_mode (Waiting n k) at is = absurd cc
    of_mode Ended at is = absurd cc

-- and moves its levels alone
pub step_in_place : (p : Program) (m : State) (t : ℕ) (th : ThreadState) (ls : List Level) → CanPlan p th.levels → slice_get m.threads t ≡ Some th → running_next p th.mode th.levels ≡ Some ls
    → step p m (any_choice t) ≡ Some (record m { threads = slice_set m.threads t (after th (Running, ls)) })
unfolding moved_on
step_in_place p m t th ls can at e = steps p m (any_choice t) th (alone_on ls) at (attempts p m (any_choice t) th ls can e) refl
