-- One way from an instruction, as the code goes it.
use Rattle.std.proofs.Common.{refl, slice_set, ◌∙◌, sym, ap, ◌≡◌, subst, ℕ, zero, suc, ◌+◌, ◌<◌, ◌≤◌, List, [], ◌∷◌, ◌++◌, length, slice_get, Option, Some, Result, Ok, Err, ◌⊎◌, inl, inr, Bool, true, false, add-one, arith}
use Rattle.std.specs.Prelude.{OnOk}
use Rattle.flow_types.specs.Tree.{superclasses, IsTree}
use Rattle.program_image.specs.Program.{Program}
use Rattle.flow_types.specs.declared.flow_frame.FlowFrame.{FlowFrame}
use Rattle.flow_verifier.specs.declared.method.Method.{Method}
use Rattle.flow_verifier.specs.declared.method.Edge.{Edge}
use Rattle.flow_verifier.specs.declared.method.Edge.TheVariants.{Next, Caught}
use Rattle.flow_verifier.specs.Methods.{ops_of, IsMethod}
use Rattle.flow_verifier.specs.Given.{given, target, edges}
use Rattle.flow_verifier.proofs.GivenLaws.{given-frame, IsEdge, edge-is}
use Rattle.flow_verifier.specs.Typing.{frame_at, FitsThere}
use Rattle.flow_verifier.specs.Worklist.Going.{In, IsPartly}
use Rattle.flow_verifier.specs.Worklist.Flowing.{Flows, Rose, stays, rises, waits}
use Rattle.flow_verifier.specs.Worklist.Potential.{potential}
use Rattle.flow_verifier.proofs.Worklist.{IsFlow, flow, partly-step}
use Rattle.flow_verifier.proofs.PotentialLaws.{flow-falls}

pub on_ok : {T E : Type 0} (r : Result T E) (P Q : Type 0) → OnOk r P → (P → Q) → OnOk r Q
on_ok (Ok x) P Q h f = f h
on_ok (Err e) P Q h f = tt

target-inside : (supers : List (Option ℕ)) (n : ℕ) (e : Edge) → IsEdge supers n e → target e < n
target-inside supers n (Next to) h = h
target-inside supers n (Caught to class) h = h.0

-- a place that is set to what it has is as it was
set-same : (fs : List (Option FlowFrame)) (i : ℕ) → slice_set fs i (frame_at fs i) ≡ fs
set-same [] i = refl
set-same (x ∷ xs) zero = refl
set-same (x ∷ xs) (suc i) = ap (λ zs. x ∷ zs) (set-same xs i)

-- how the list is once a place stands on it
abbrev pub Listed : ℕ → List ℕ → List ℕ → Type 0
Listed to todo more = (more ≡ todo ++ (to ∷ [])) ⊎ ((more ≡ todo) × In to todo)

pub rose-at : (supers : List (Option ℕ)) (g : FlowFrame) (o before after : Option FlowFrame) (b d : Bool) → o ≡ before → b ≡ d → Rose supers g before after b → Rose supers g o after d
rose-at supers g o before after b d e f h = subst (λ z. Rose supers g z after d) (sym e) (subst (λ z. Rose supers g before after z) f h)

-- the frame of a place rose
pub rose-flows : (supers : List (Option ℕ)) (g : FlowFrame) (to : ℕ) (after : Option FlowFrame) (fs gs : List (Option FlowFrame)) (todo more : List ℕ) → Rose supers g (frame_at fs to) after true → gs ≡ slice_set fs to after → Listed to todo more → Flows supers g to fs todo gs more
rose-flows supers g to after fs gs todo more (e, n) s (inl l) = rises n (s ∙ ap (slice_set fs to) e) l
rose-flows supers g to after fs gs todo more (e, n) s (inr l) = waits n (s ∙ ap (slice_set fs to) e) (l.0) (l.1)

-- the place took the frame
pub calm-flows : (supers : List (Option ℕ)) (g : FlowFrame) (to : ℕ) (after : Option FlowFrame) (fs gs : List (Option FlowFrame)) (todo : List ℕ) → Rose supers g (frame_at fs to) after false → gs ≡ slice_set fs to after → Flows supers g to fs todo gs todo
calm-flows supers g to after fs gs todo (e, n) s = stays n (s ∙ ap (slice_set fs to) e ∙ set-same fs to) refl

pub flows-at : (supers : List (Option ℕ)) (g h : FlowFrame) (to at : ℕ) (fs gs : List (Option FlowFrame)) (todo more : List ℕ) → g ≡ h → to ≡ at → Flows supers g to fs todo gs more → Flows supers h at fs todo gs more
flows-at supers g h to at fs gs todo more e f w = subst (λ z. Flows supers z at fs todo gs more) e (subst (λ z. Flows supers g z fs todo gs more) f w)

module _ (program : Program) (tree : IsTree (superclasses program)) (m : Method) (im : IsMethod program m) where
  pub edge-target : (at j : ℕ) (f : FlowFrame) (e : Edge) (fs : List (Option FlowFrame)) (todo : List ℕ) → IsPartly program m at f j fs todo → slice_get (edges program m at) j ≡ Some e → target e < length fs
  edge-target at j f e fs todo p i =
      let a : target e < length (ops_of program m.number) = target-inside (superclasses program) (length (ops_of program m.number)) e (edge-is program tree m im at j e i) in
      let b : length fs ≡ length (ops_of program m.number) = p.under.assignment.long in omega arith

  edge-flow : (at j : ℕ) (f : FlowFrame) (e : Edge) (fs gs : List (Option FlowFrame)) (todo more : List ℕ) → IsPartly program m at f j fs todo → slice_get (edges program m at) j ≡ Some e → Flows (superclasses program) (given program m at f e) (target e) fs todo gs more → IsFlow program tree m im (given program m at f e) (target e) fs todo gs more
  edge-flow at j f e fs gs todo more p i w =
      flow program tree m im (given program m at f e) (target e) fs todo gs more (edge-target at j f e fs todo p i) p.under.assignment (given-frame program tree m im at f e p.frame (edge-is program tree m im at j e i)) w

  -- frames only rise
  pub edge-rise : (at j : ℕ) (f : FlowFrame) (e : Edge) (fs gs : List (Option FlowFrame)) (todo more : List ℕ) → IsPartly program m at f j fs todo → slice_get (edges program m at) j ≡ Some e → Flows (superclasses program) (given program m at f e) (target e) fs todo gs more → (i : ℕ) → FitsThere (superclasses program) (frame_at fs i) (frame_at gs i)
  edge-rise at j f e fs gs todo more p i w = let r = edge-flow at j f e fs gs todo more p i w in r.rise

  pub edge-step : (at j : ℕ) (f : FlowFrame) (e : Edge) (fs gs : List (Option FlowFrame)) (todo more : List ℕ) → IsPartly program m at f j fs todo → slice_get (edges program m at) j ≡ Some e → Flows (superclasses program) (given program m at f e) (target e) fs todo gs more → IsPartly program m at f (j + 1) gs more
  edge-step at j f e fs gs todo more p i w =
      rw add-one (partly-step program tree m im at j f e fs gs todo more p i (edge-flow at j f e fs gs todo more p i w))

  pub edge-falls : (at j : ℕ) (f : FlowFrame) (e : Edge) (fs gs : List (Option FlowFrame)) (todo more : List ℕ) → IsPartly program m at f j fs todo → slice_get (edges program m at) j ≡ Some e → Flows (superclasses program) (given program m at f e) (target e) fs todo gs more → (w : ℕ → ℕ) → potential program m w gs more ≤ potential program m w fs todo
  edge-falls at j f e fs gs todo more p i d w =
      flow-falls program tree m im w (given program m at f e) (target e) fs todo gs more (edge-target at j f e fs todo p i) p.under.assignment (given-frame program tree m im at f e p.frame (edge-is program tree m im at j e i)) d
