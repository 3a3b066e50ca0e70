-- Frames are counted in any order.
use Rattle.std.proofs.Common.{◌≡◌, ℕ, ◌+◌, ◌≤◌, List, [], ◌∷◌, ◌++◌, length, take, reverse, Some, refl, ap, ◌∙◌, arith}
use Rattle.std.specs.Prelude.{slice_get}
use Rattle.std.proofs.lemmas.List.{reverse-append}
use Rattle.jvm_base.specs.declared.frame.Level.{Level}
use Rattle.jvm_base.specs.declared.frame.Level.TheVariants.{Code, Init}
use Rattle.machine_state.specs.Frames.{frames}
use Rattle.step_plan.proofs.Taking.{take_next}

frames_append : (xs ys : List Level) → frames (xs ++ ys) ≡ frames xs + frames ys
frames_append [] ys = omega arith
frames_append (Code f ∷ xs) ys = let h = frames_append xs ys in omega arith
frames_append (Init c b ∷ xs) ys = frames_append xs ys

pub frames_reverse : (xs : List Level) → frames (reverse xs) ≡ frames xs
frames_reverse [] = refl
frames_reverse (x ∷ xs) =
    let e : frames (reverse (x ∷ xs)) ≡ frames (reverse xs) + frames (x ∷ []) = ap frames (reverse-append (x ∷ []) xs) ∙ frames_append (reverse xs) (x ∷ []) in
    let h = frames_reverse xs in
    let t : frames (x ∷ xs) ≡ frames (x ∷ []) + frames xs = frames_append (x ∷ []) xs in
    omega arith

-- there are as many levels at least
frames_within : (xs : List Level) → frames xs ≤ length xs
frames_within [] = omega arith
frames_within (Code f ∷ xs) = let h = frames_within xs in omega arith
frames_within (Init c b ∷ xs) = let h = frames_within xs in omega arith

pub frames_few : (xs : List Level) → frames (reverse xs) ≤ length xs
frames_few xs = rw (frames_reverse xs) (frames_within xs)

-- one more level
pub frames_next : (xs : List Level) (i : ℕ) (x : Level) → slice_get xs i ≡ Some x → frames (take (i + 1) xs) ≡ frames (take i xs) + frames (x ∷ [])
frames_next xs i x e = ap frames (take_next xs i x e) ∙ frames_append (take i xs) (x ∷ [])
