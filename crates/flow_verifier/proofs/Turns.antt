-- One turn of the loop.
use Rattle.std.proofs.Common.{◌≡◌, sym, subst, ℕ, ◌+◌, ◌<◌, ◌≤◌, List, [], ◌∷◌, ◌++◌, length, slice_set, Option, Some, None, arith}
use Rattle.std.proofs.Math.ListN.{replicate}
use Rattle.flow_types.specs.Tree.{superclasses, IsTree}
use Rattle.program_image.specs.Program.{Program}
use Rattle.flow_types.specs.declared.flow_frame.FlowFrame.{FlowFrame}
use Rattle.flow_verifier.specs.declared.method.Method.{Method}
use Rattle.flow_verifier.specs.Methods.{ops_of, IsMethod}
use Rattle.flow_verifier.specs.Given.{edges}
use Rattle.flow_verifier.specs.Typing.{entry_frame, most_steps}
use Rattle.flow_verifier.specs.Worklist.Going.{IsGoing}
use Rattle.flow_verifier.specs.Worklist.Potential.{potential, steps_left, turns_left}
use Rattle.flow_verifier.proofs.Worklist.{going-start}
use Rattle.flow_verifier.proofs.PotentialLaws.{pop-falls, start-potential}

module _ (program : Program) (tree : IsTree (superclasses program)) (m : Method) (im : IsMethod program m) where
  pub start-going : (fs : List (Option FlowFrame)) (todo : List ℕ) → fs ≡ slice_set (replicate (length (ops_of program m.number)) None) 0 (Some (entry_frame m)) → todo ≡ 0 ∷ [] → IsGoing program m fs todo
  start-going fs todo e f = subst (λ z. IsGoing program m fs z) (sym f) (going-start program tree m im fs e)

  pub start-steps : (fs : List (Option FlowFrame)) (todo : List ℕ) → fs ≡ slice_set (replicate (length (ops_of program m.number)) None) 0 (Some (entry_frame m)) → todo ≡ 0 ∷ [] → steps_left program m fs todo ≤ most_steps program m
  unfolding steps_left
  start-steps fs todo e f = rw f (start-potential program tree m im fs e)

  pub turn-falls : (at : ℕ) (fs gs : List (Option FlowFrame)) (old todo more : List ℕ) → old ≡ todo ++ (at ∷ []) → ((w : ℕ → ℕ) → potential program m w gs more ≤ potential program m w fs todo) → turns_left program m gs more < turns_left program m fs old
  unfolding turns_left
  turn-falls at fs gs old todo more e h =
      let a : potential program m (λ i. 1) gs more ≤ potential program m (λ i. 1) fs todo = h (λ i. 1) in
      let b : potential program m (λ i. 1) fs (todo ++ (at ∷ [])) ≡ potential program m (λ i. 1) fs todo + 1 = pop-falls program tree m im (λ i. 1) at fs todo in
      rw e (omega arith)

  pub turn-steps : (at s t bound : ℕ) (fs gs : List (Option FlowFrame)) (old todo more : List ℕ) → old ≡ todo ++ (at ∷ []) → ((w : ℕ → ℕ) → potential program m w gs more ≤ potential program m w fs todo) → t ≤ s + length (edges program m at) → s + steps_left program m fs old ≤ bound → t + steps_left program m gs more ≤ bound
  unfolding steps_left
  turn-steps at s t bound fs gs old todo more e h l b =
      let w : ℕ → ℕ = λ i. length (edges program m i) in
      let a : potential program m w gs more ≤ potential program m w fs todo = h w in
      let p : potential program m w fs (todo ++ (at ∷ [])) ≡ potential program m w fs todo + length (edges program m at) = pop-falls program tree m im w at fs todo in
      let q : s + potential program m w fs (todo ++ (at ∷ [])) ≤ bound = subst (λ z. s + potential program m w fs z ≤ bound) e b in omega arith

  pub cut-steps : (at s t bound : ℕ) (fs : List (Option FlowFrame)) (old todo : List ℕ) → old ≡ todo ++ (at ∷ []) → t ≤ s + length (edges program m at) → s + steps_left program m fs old ≤ bound → t ≤ bound
  unfolding steps_left
  cut-steps at s t bound fs old todo e l b =
      let w : ℕ → ℕ = λ i. length (edges program m i) in
      let p : potential program m w fs (todo ++ (at ∷ [])) ≡ potential program m w fs todo + length (edges program m at) = pop-falls program tree m im w at fs todo in
      let q : s + potential program m w fs (todo ++ (at ∷ [])) ≤ bound = subst (λ z. s + potential program m w fs z ≤ bound) e b in omega arith

  -- the same, where the frames are those from before
  pub visit-falls : (at : ℕ) (fs hs gs : List (Option FlowFrame)) (old todo more : List ℕ) → hs ≡ fs → old ≡ todo ++ (at ∷ []) → ((w : ℕ → ℕ) → potential program m w gs more ≤ potential program m w hs todo) → turns_left program m gs more < turns_left program m fs old
  visit-falls at fs hs gs old todo more q e h = subst (λ z. turns_left program m gs more < turns_left program m z old) q (turn-falls at hs gs old todo more e h)

  pub visit-steps : (at s t bound : ℕ) (fs hs gs : List (Option FlowFrame)) (old todo more : List ℕ) → hs ≡ fs → old ≡ todo ++ (at ∷ []) → ((w : ℕ → ℕ) → potential program m w gs more ≤ potential program m w hs todo) → t ≤ s + length (edges program m at) → s + steps_left program m fs old ≤ bound → t + steps_left program m gs more ≤ bound
  visit-steps at s t bound fs hs gs old todo more q e h l b =
      turn-steps at s t bound hs gs old todo more e h l (subst (λ z. s + steps_left program m z old ≤ bound) (sym q) b)
