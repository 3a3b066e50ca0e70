-- What comes next, told as a step.
use Rattle.std.proofs.Common.{◌≡◌, ℕ, ◌≤◌, List, [], ◌∷◌, Option, Some, None, refl, sym, ap, subst, ◌∙◌, arith}
use Rattle.std.specs.Prelude.{option_map, slice_get}
use Rattle.jvm_base.specs.Tops.{below, with_top}
use Rattle.jvm_base.specs.Words.{from}
use Rattle.jvm_base.specs.declared.frame.Frame.{Frame}
use Rattle.jvm_base.specs.declared.frame.Level.{Level}
use Rattle.jvm_base.specs.declared.frame.Level.TheVariants.{Code, Init}
use Rattle.jvm_base.specs.declared.name.Name.{Name}
use Rattle.jvm_base.specs.declared.value.Value.{Value}
use Rattle.code_table.specs.declared.code.Code.{Code as MethodCode}
use Rattle.code_table.specs.declared.code.Placed.{Placed}
use Rattle.code_table.specs.declared.op.Op.{Op}
use Rattle.code_table.specs.declared.op.Op.TheVariants as op
use Rattle.program_image.specs.Handlers.{code_of}
use Rattle.program_image.specs.Program.{Program, target_of}
use Rattle.program_image.specs.Words.{instruction_at}
use Rattle.frame_ops.specs.Moves.{frame_after}
use Rattle.frame_ops.specs.Stepping.{move_at}
use Rattle.frame_ops.specs.declared.answer.Given.{Given}
use Rattle.machine_state.specs.declared.request.Answer.TheVariants.{Gives}
use Rattle.machine_state.specs.declared.served.Wish.{Wish}
use Rattle.machine_state.specs.declared.state.Mode.{Mode}
use Rattle.machine_state.specs.declared.state.Mode.TheVariants.{Running, Raising}
use Rattle.machine_state.specs.declared.state.ThreadState.{ThreadState}
use Rattle.machine_state.specs.Complete.{Stand, answer_top}
use Rattle.machine_state.specs.Instructions.{given_to}
use Rattle.machine_state.specs.Frames.{called, new_frame, noted}
use Rattle.machine_state.specs.Next.{Alone, Calls, Stuck, answered}
use Rattle.machine_state.specs.State.{State}
use Rattle.machine_state.specs.Step.{alone, performed, taken_alone}
use Rattle.frame_soundness.specs.Conditions.{MayTake}
use Rattle.step_after.specs.Conditions.{AsksHere}
use Rattle.step_after.specs.Going.{stand_of}
use Rattle.step_after.specs.Laws.{IsFrameTop, IsGivenTop, GoesSo}
use Rattle.step_after.specs.declared.after.After.{After}
use Rattle.step_after.specs.declared.after.After.TheVariants as after
use Rattle.step_complete.specs.Turns.{frame_caught}
use Rattle.step_complete.specs.declared.turns.Turn.TheVariants as turn
use Rattle.step_plan.specs.Shown.{shown_next, top_frame}
use Rattle.step_plan.specs.Ways.{IsInvoke, IsCalling, IsThere, GoesBy}
use Rattle.step_plan.specs.declared.plan.Next.{Next as Told}
use Rattle.step_plan.specs.declared.plan.Next.TheVariants as told
use Rattle.step_attempt.specs.Going.{IsGoing, IsTold}
use Rattle.step_attempt.specs.declared.going.Going.{Going}

-- a call's instruction may be answered by nothing
may_take : (o : Op) → IsInvoke o → MayTake o None
may_take (op.Invoke k i d) h = omega arith
may_take _ h = absurd h

module _ (p : Program) (m : State) (w : Wish) (object : Name) (mode : Mode) (steps : ℕ) where
  -- the thread with these levels
  abbrev thread : List Level → ThreadState
  thread ls = record { object = object; mode = mode; levels = ls; steps = steps }

  -- what is told of what a plan's next says
  abbrev pub ToldNext : List Level → Told → Going → Type 0
  ToldNext ls next g = IsTold p m w (thread ls) (λ c. performed p m c mode ls (shown_next p (top_frame ls) next)) (Some g)

  -- what is told of a step that touches nothing that threads share
  abbrev pub Quiet : List Level → After → Going → Type 0
  Quiet ls a g = (s : Stand) → s ≡ stand_of p a (Gives None) mode ls → GoesSo p a (Gives None) ls → IsGoing p m w (thread ls) (taken_alone s) g

  pub told_moves : (ls : List Level) (given : Given) (g : Going) → GoesBy p (top_frame ls) (told.Moves given) → Quiet ls (after.Turns (turn.Moves given)) g → ToldNext ls (told.Moves given) g
  unfolding stand_of
  told_moves [] given g bad quiet = absurd bad
  told_moves (Init c b ∷ ls) given g bad quiet = absurd bad
  told_moves (Code f ∷ ls) given g (i, at, is) quiet =
      let next : Frame = frame_after (move_at i given f) i.next f in
      let stepped : next ≡ from f (λ k. frame_after (move_at k given f) k.next f) (instruction_at p f.method f.at) = sym (ap (λ o. from f (λ k. frame_after (move_at k given f) k.next f) o) at) in (
        taken_alone (Running, with_top next (Code f ∷ ls)),
        ap (λ o. performed p m g.served.choice mode (Code f ∷ ls) (from Stuck (λ k. Alone (frame_after (move_at k given f) k.next f)) o)) at,
        quiet (Running, with_top next (Code f ∷ ls)) (ap (λ x. (Running, with_top x (Code f ∷ ls))) stepped) here,
      )
    where
      here : IsGivenTop p given (Code f ∷ ls)
      here j there = let same : Some i ≡ Some j = sym at ∙ there in let one : i ≡ j = cc in subst (λ (k : Placed). given ≡ given_to p k.op (target_of p f.method f.at) f.stack.values) one is

  pub told_answers : (ls : List Level) (v : Option Value) (g : Going) → GoesBy p (top_frame ls) (told.Answered v) → Quiet ls (after.Turns (turn.Answers v)) g → ToldNext ls (told.Answered v) g
  unfolding stand_of
  told_answers [] v g bad quiet = absurd bad
  told_answers (Init c b ∷ ls) v g bad quiet = absurd bad
  told_answers (Code f ∷ ls) v g calling quiet = (taken_alone (Running, Code (answered p v f) ∷ ls), refl, quiet (Running, Code (answered p v f) ∷ ls) refl (λ i e. may_take i.op (calling i e)))

  pub told_catches : (ls : List Level) (e : Name) (to : ℕ) (g : Going) → GoesBy p (top_frame ls) (told.Caught e to) → Quiet ls (after.Turns (turn.Catches e to)) g → ToldNext ls (told.Caught e to) g
  unfolding stand_of
  told_catches [] e to g bad quiet = absurd bad
  told_catches (Init c b ∷ ls) e to g bad quiet = absurd bad
  told_catches (Code f ∷ ls) e to g there quiet = (taken_alone (Running, with_top (frame_caught f e to) (Code f ∷ ls)), refl, quiet (Running, with_top (frame_caught f e to) (Code f ∷ ls)) refl tt)

  pub told_throws : (ls : List Level) (e : Name) (g : Going) → Quiet ls (after.Throws e) g → ToldNext ls (told.Throws e) g
  unfolding stand_of
  told_throws ls e g quiet = (taken_alone (Raising e, ls), refl, quiet (Raising e, ls) refl tt)

  -- a frame on top
  frame_top : (ls : List Level) → IsThere (top_frame ls) → IsFrameTop ls
  frame_top [] bad = absurd bad
  frame_top (Init c b ∷ ls) bad = absurd bad
  frame_top (Code f ∷ ls) there = tt

  pub told_leaves : (ls : List Level) (v : Option Value) (g : Going) → GoesBy p (top_frame ls) (told.Leaves v) → Quiet ls (after.Leaves v) g → ToldNext ls (told.Leaves v) g
  unfolding stand_of
  told_leaves ls v g there quiet = (taken_alone (mode, answer_top p v (below ls)), refl, quiet (mode, answer_top p v (below ls)) refl (frame_top ls there))

  pub told_drops : (ls : List Level) (g : Going) → Quiet ls after.Drops g → ToldNext ls told.Drops g
  unfolding stand_of
  told_drops ls g quiet = (taken_alone (mode, below ls), refl, quiet (mode, below ls) refl tt)

  pub told_calls : (ls : List Level) (k : ℕ) (vs : List Value) (f : Frame) (g : Going) → Some f ≡ option_map (new_frame p k vs) (code_of p k) → Quiet ls (after.Calls f) g → IsTold p m w (thread ls) (λ c. performed p m c mode ls (Calls k vs)) (Some g)
  unfolding stand_of
  told_calls ls k vs f g = by_code (code_of p k) refl
    where
      by_code : (o : Option MethodCode) → code_of p k ≡ o → Some f ≡ option_map (new_frame p k vs) o → Quiet ls (after.Calls f) g → IsTold p m w (thread ls) (λ c. performed p m c mode ls (Calls k vs)) (Some g)
      by_code None e bad quiet = absurd cc
      by_code (Some code) e is quiet =
          let one : f ≡ new_frame p k vs code = cc in
          let stand : Stand = (Running, Code (new_frame p k vs code) ∷ noted ls) in (
            taken_alone stand,
            ap (λ o. alone (from None (λ c. Some (Running, Code (new_frame p k vs c) ∷ noted ls)) o)) e,
            quiet stand (ap (λ x. (Running, Code x ∷ noted ls)) (sym one)) tt,
          )
