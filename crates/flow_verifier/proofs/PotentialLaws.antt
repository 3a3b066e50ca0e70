-- What can still rise, weighed: it falls at each rise by the weight of the instruction.
use Rattle.std.proofs.Common.{◌≡◌, ap, refl, ℕ, zero, suc, ◌+◌, ◌*◌, ◌<◌, ◌≤◌, List, [], ◌∷◌, ◌++◌, length, slice_set, Option, Some, None, inl, inr, arith}
use Rattle.std.proofs.Math.ListN.{replicate, length-replicate}
use native.Mathlib.Nat.{mul-le-mul_left, mul-add, add-mul}
use Rattle.flow_types.specs.Tree.{superclasses, IsTree}
use Rattle.program_image.specs.Program.{Program}
use Rattle.flow_types.specs.Frames.{IsFrame}
use Rattle.flow_types.specs.declared.flow_frame.FlowFrame.{FlowFrame}
use Rattle.flow_types.proofs.FrameLaws.{frame-falls, frame-bound}
use Rattle.flow_types.specs.FrameRank.{frame_rank}
use Rattle.flow_verifier.specs.declared.method.Method.{Method}
use Rattle.flow_verifier.specs.Methods.{ops_of, IsMethod, room_of}
use Rattle.flow_verifier.specs.Given.{edges}
use Rattle.flow_verifier.specs.Typing.{frame_at, entry_frame, IsAssignment, sum_to, ways, places, most_steps}
use Rattle.flow_verifier.specs.Worklist.Potential.{place_rank, most, weighed, listed, potential}
use Rattle.flow_verifier.specs.Worklist.Flowing.{merged, Flows, stays, rises, waits}
use Rattle.flow_verifier.proofs.Worklist.{merged-left, merged-frame, merged-new, none-at, start-frame}

listed-append : (w : ℕ → ℕ) (xs ys : List ℕ) → listed w (xs ++ ys) ≡ listed w xs + listed w ys
listed-append w [] ys = omega arith
listed-append w (x ∷ xs) ys = let h : listed w (xs ++ ys) ≡ listed w xs + listed w ys = listed-append w xs ys in omega arith

scaled : (k r s : ℕ) → s < r → k * s + k ≤ k * r
scaled k r s l =
    let a : k * (s + 1) ≤ k * r = mul-le-mul_left k (omega arith) in
    let b : k * (s + 1) ≡ k * s + k * 1 = mul-add k s 1 in
    let c : k * 1 ≡ k = omega arith in omega arith

weighed-falls : (program : Program) (top : ℕ) (w : ℕ → ℕ) (fs : List (Option FlowFrame)) (i : ℕ) (n : FlowFrame) → i < length fs → frame_rank (superclasses program) n < place_rank (superclasses program) top (frame_at fs i) → weighed (superclasses program) top w (slice_set fs i (Some n)) + w i ≤ weighed (superclasses program) top w fs
weighed-falls program top w [] i n l h = absurd (omega arith)
weighed-falls program top w (o ∷ os) zero n l h =
    let a : w 0 * frame_rank (superclasses program) n + w 0 ≤ w 0 * place_rank (superclasses program) top o = scaled (w 0) (place_rank (superclasses program) top o) (frame_rank (superclasses program) n) h in omega arith
weighed-falls program top w (o ∷ os) (suc i) n l h =
    let a : weighed (superclasses program) top (λ i. w (suc i)) (slice_set os i (Some n)) + w (suc i) ≤ weighed (superclasses program) top (λ i. w (suc i)) os = weighed-falls program top (λ i. w (suc i)) os i n (omega arith) h in omega arith

weighed-blank : (program : Program) (top : ℕ) (w : ℕ → ℕ) (n : ℕ) → weighed (superclasses program) top w (replicate n None) ≡ sum_to w n * (top + 1)
weighed-blank program top w zero = omega arith
weighed-blank program top w (suc n) =
    let a : weighed (superclasses program) top (λ i. w (suc i)) (replicate n None) ≡ sum_to (λ i. w (suc i)) n * (top + 1) = weighed-blank program top (λ i. w (suc i)) n in
    let b : (w 0 + sum_to (λ i. w (suc i)) n) * (top + 1) ≡ w 0 * (top + 1) + sum_to (λ i. w (suc i)) n * (top + 1) = add-mul (w 0) (sum_to (λ i. w (suc i)) n) (top + 1) in omega arith

module _ (program : Program) (tree : IsTree (superclasses program)) (m : Method) (im : IsMethod program m) where
  rank-below : (f : FlowFrame) → IsFrame (superclasses program) (room_of m) f → frame_rank (superclasses program) f ≤ most program m
  rank-below f x = frame-bound (superclasses program) tree (room_of m) f x

  merged-falls : (o : Option FlowFrame) (g : FlowFrame) → ((f : FlowFrame) → o ≡ Some f → IsFrame (superclasses program) (room_of m) f) → IsFrame (superclasses program) (room_of m) g → (o ≡ Some (merged (superclasses program) o g) → ⊥) → frame_rank (superclasses program) (merged (superclasses program) o g) < place_rank (superclasses program) (most program m) o
  merged-falls None g h x n = let a : frame_rank (superclasses program) (merged (superclasses program) None g) ≤ most program m = rank-below _ (merged-frame program tree m im None g h x) in omega arith
  merged-falls (Some f) g h x n =
      elim (frame-falls (superclasses program) tree (room_of m) f (merged (superclasses program) (Some f) g) (h f refl) (merged-frame program tree m im (Some f) g h x) (merged-left program tree m im (Some f) g h x)) [
        | inl e ↦ absurd (n (ap Some e))
        | inr l ↦ l
      ]

  -- a flow raises no potential
  pub flow-falls : (w : ℕ → ℕ) (g : FlowFrame) (to : ℕ) (fs : List (Option FlowFrame)) (todo : List ℕ) (gs : List (Option FlowFrame)) (more : List ℕ) → to < length fs → IsAssignment program m fs → IsFrame (superclasses program) (room_of m) g → Flows (superclasses program) g to fs todo gs more → potential program m w gs more ≤ potential program m w fs todo
  unfolding potential
  flow-falls w g to fs todo gs more l a x (stays s e f) = rw (e, f) (omega arith)
  flow-falls w g to fs todo gs more l a x (rises s e f) =
      let n : FlowFrame = merged (superclasses program) (frame_at fs to) g in
      let p : weighed (superclasses program) (most program m) w (slice_set fs to (Some n)) + w to ≤ weighed (superclasses program) (most program m) w fs = weighed-falls program (most program m) w fs to n l (merged-falls (frame_at fs to) g (a.frames to) x (merged-new program tree m im (frame_at fs to) g (a.frames to) x s)) in
      let q : listed w (todo ++ (to ∷ [])) ≡ listed w todo + listed w (to ∷ []) = listed-append w todo (to ∷ []) in
      let r : listed w (to ∷ []) ≡ w to = omega arith in
      rw (e, f) (omega arith)
  flow-falls w g to fs todo gs more l a x (waits s e f h) =
      let n : FlowFrame = merged (superclasses program) (frame_at fs to) g in
      let p : weighed (superclasses program) (most program m) w (slice_set fs to (Some n)) + w to ≤ weighed (superclasses program) (most program m) w fs = weighed-falls program (most program m) w fs to n l (merged-falls (frame_at fs to) g (a.frames to) x (merged-new program tree m im (frame_at fs to) g (a.frames to) x s)) in
      rw (e, f) (omega arith)

  pub pop-falls : (w : ℕ → ℕ) (at : ℕ) (fs : List (Option FlowFrame)) (todo : List ℕ) → potential program m w fs (todo ++ (at ∷ [])) ≡ potential program m w fs todo + w at
  unfolding potential
  pop-falls w at fs todo =
      let q : listed w (todo ++ (at ∷ [])) ≡ listed w todo + listed w (at ∷ []) = listed-append w todo (at ∷ []) in omega arith

  -- the potential of the start is the bound on the steps
  pub start-potential : (fs : List (Option FlowFrame)) → fs ≡ slice_set (replicate (length (ops_of program m.number)) None) 0 (Some (entry_frame m)) → potential program m (λ i. length (edges program m i)) fs (0 ∷ []) ≤ most_steps program m
  unfolding potential
  start-potential fs e =
      let w : ℕ → ℕ = λ i. length (edges program m i) in
      let blank : List (Option FlowFrame) = replicate (length (ops_of program m.number)) None in
      let few : length blank ≡ length (ops_of program m.number) = length-replicate (length (ops_of program m.number)) None in
      let pos : 0 < length (ops_of program m.number) = im.some in
      let r : frame_rank (superclasses program) (entry_frame m) ≤ most program m = rank-below _ (start-frame program tree m im) in
      let z : frame_at blank 0 ≡ None = none-at program tree m im (length (ops_of program m.number)) 0 in
      let s : frame_rank (superclasses program) (entry_frame m) < place_rank (superclasses program) (most program m) (frame_at blank 0) = rw z (omega arith) in
      let p : weighed (superclasses program) (most program m) w (slice_set blank 0 (Some (entry_frame m))) + w 0 ≤ weighed (superclasses program) (most program m) w blank = weighed-falls program (most program m) w blank 0 (entry_frame m) (omega arith) s in
      let q : weighed (superclasses program) (most program m) w blank ≡ ways program m * (most program m + 1) = weighed-blank program (most program m) w (length (ops_of program m.number)) in
      let t : places m * (length (superclasses program) + 257) ≤ places m * (length (superclasses program) + 260) = mul-le-mul_left (places m) (omega arith) in
      let u : ways program m * (most program m + 1) ≤ most_steps program m = mul-le-mul_left (ways program m) (omega arith) in
      rw e (omega arith)
