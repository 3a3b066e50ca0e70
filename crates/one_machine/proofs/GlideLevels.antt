-- Moves of a frame are moves of its level, of the levels below which it is the top, and of its thread.
use Rattle.std.proofs.Common.{◌≡◌, ℕ, ◌-◌, ◌<◌, List, [], ◌∷◌, length, reverse, get_or, Option, Some, refl, sym, ap, subst, ◌∙◌, arith}
use Rattle.std.proofs.lemmas.List.{length-reverse, map-set}
use Rattle.std.specs.Prelude.{map, slice_get, slice_set}
use Rattle.jvm_base.proofs.Tops.{reverse-set, get_or-last}
use Rattle.jvm_base.specs.declared.frame.Frame.{Frame}
use Rattle.jvm_base.specs.declared.frame.Level.{Level}
use Rattle.jvm_base.specs.declared.frame.Level.TheVariants.{Code}
use Rattle.program_image.specs.Program.{Program}
use Rattle.machine_state.specs.declared.state.Mode.{Mode}
use Rattle.machine_state.specs.declared.state.Mode.TheVariants.{Entry, Running, Raising, Waiting, Ended}
use Rattle.machine_state.specs.declared.state.ThreadState.{ThreadState}
use Rattle.shared_state.specs.Parts.{thread_state}
use Rattle.shared_state.specs.declared.thread.Thread.{Thread}
use Rattle.step_plan.specs.Condition.{CanPlan, CanPlanIn, CanPlanOn}
use Rattle.one_machine.specs.Gliding.{Always, AreGlided, AreMoves, IsGlided, frame_move}
use Rattle.one_machine.specs.InPlace.{level_next, levels_next, running_next}
use Rattle.one_machine.proofs.Doing.{get_state}
use Rattle.one_machine.proofs.Gliding.{moves_around, always_inside}

-- ---- a level

-- what a level can, its frame can
pub level_can : (p : Program) (l : Level) (f : Frame) → l ≡ Code f → Always (level_next p) l (λ k. CanPlanOn p (Some k)) → Always (frame_move p) f (CanPlanIn p)
level_can p l f e all =
    always_inside (frame_move p) (level_next p) (λ g. Code g) (λ g. refl) f (λ k. CanPlanOn p (Some k))
    (subst (λ (k : Level). Always (level_next p) k (λ x. CanPlanOn p (Some x))) e all)

-- its moves
pub level_moves : (p : Program) (l : Level) (f g : Frame) (most n : ℕ) → l ≡ Code f → AreMoves (frame_move p) most n f g → AreMoves (level_next p) most n l (Code g)
level_moves p l f g most n e m =
    subst (λ (k : Level). AreMoves (level_next p) most n k (Code g)) (sym e)
    (moves_around (frame_move p) (level_next p) (λ x. Code x) (λ x. refl) most n f g m)

-- ---- the top level of those that are kept with the top one last

-- what the levels can, the top one can
pub top_can : (p : Program) (items now : List Level) (len : ℕ) (top : Level) → reverse items ≡ now → len ≡ length items → 0 < len → top ≡ get_or items (len - 1) top → Always (levels_next p) now (CanPlan p)
    → Always (level_next p) top (λ k. CanPlanOn p (Some k))
top_can p items [] len top e l some at all = absurd (omega (arith, ap length e, length-reverse items))
top_can p items (x ∷ xs) len top e l some at all =
    let is : top ≡ x = at ∙ get_or-last items (len - 1) x top xs e (omega arith) in
    subst (λ (y : Level). Always (level_next p) y (λ k. CanPlanOn p (Some k))) (sym is)
    (always_inside (level_next p) (levels_next p) (λ k. k ∷ xs) (λ k. refl) x (CanPlan p) all)

-- its moves
pub top_moves : (p : Program) (items now : List Level) (len : ℕ) (top new : Level) (most n : ℕ) → reverse items ≡ now → len ≡ length items → 0 < len → top ≡ get_or items (len - 1) top → AreMoves (level_next p) most n top new
    → AreMoves (levels_next p) most n now (reverse (slice_set items (len - 1) new))
top_moves p items [] len top new most n e l some at m = absurd (omega (arith, ap length e, length-reverse items))
top_moves p items (x ∷ xs) len top new most n e l some at m =
    let is : top ≡ x = at ∙ get_or-last items (len - 1) x top xs e (omega arith) in
    subst (λ (ls : List Level). AreMoves (levels_next p) most n (x ∷ xs) ls) (sym (reverse-set items (len - 1) x new xs e (omega arith)))
    (moves_around (level_next p) (levels_next p) (λ k. k ∷ xs) (λ k. refl) most n x new
    (subst (λ (y : Level). AreMoves (level_next p) most n y new) is m))

-- ---- its thread

-- a thread that makes a move runs
pub is_running : (p : Program) (mode : Mode) (ls ks : List Level) → running_next p mode ls ≡ Some ks → mode ≡ Running
is_running p Running ls ks e = refl
is_running p Entry ls ks e = absurd cc
is_running p (Raising x) ls ks e = absurd cc
is_running p (Waiting n k) ls ks e = absurd cc
is_running p Ended ls ks e = absurd cc

-- the thread of a number, among all
pub threads_glided : (p : Program) (ts : List Thread) (at most limit n : ℕ) (old new : Thread) → slice_get ts at ≡ Some old → IsGlided p most limit n (thread_state old) (thread_state new)
    → AreGlided p at most limit n (map thread_state ts) (map thread_state (slice_set ts at new)) (slice_get (map thread_state ts) at)
threads_glided p ts at most limit n old new there h =
    subst (λ (o : Option ThreadState). AreGlided p at most limit n (map thread_state ts) (map thread_state (slice_set ts at new)) o)
    (sym (get_state ts at old there))
    (thread_state new, h, map-set thread_state ts at new)
