-- From the least closed assignment to the answer.
use Rattle.std.proofs.Common.{◌≡◌, ◌∙◌, sym, ap, subst, refl, ℕ, zero, suc, ◌<◌, List, [], ◌∷◌, length, slice_get, Option, Some, None, inl, inr, arith}
use Rattle.code_table.specs.declared.code.Placed.{Placed}
use Rattle.program_image.specs.Program.{Program}
use Rattle.flow_types.specs.Tree.{superclasses, IsTree}
use Rattle.flow_types.specs.declared.flow_frame.FlowFrame.{FlowFrame}
use Rattle.flow_types.proofs.TreeLaws.{cases_lt}
use Rattle.instruction_table.specs.LowestRule.{lowest}
use Rattle.flow_verifier.specs.declared.method.Method.{Method}
use Rattle.flow_verifier.specs.Methods.{ops_of, IsMethod}
use Rattle.flow_verifier.specs.Given.{broken}
use Rattle.flow_verifier.specs.Typing.{frame_at, IsLeast, IsTyping, IsBroken, rule_of, NoneBroken, IsFirst}
use Rattle.flow_verifier.proofs.Rules.{none_is_empty}
use Rattle.flow_verifier.proofs.Worklist.{has-place, no-typing}

placed-at : (xs : List Placed) (i : ℕ) → i < length xs → (o : Placed) × (slice_get xs i ≡ Some o)
placed-at [] i l = absurd (omega arith)
placed-at (x ∷ xs) zero l = (x, refl)
placed-at (x ∷ xs) (suc i) l = placed-at xs i (omega arith)

rule-there : (program : Program) (m : Method) (i : ℕ) (o : Option FlowFrame) (f : FlowFrame) → o ≡ Some f → rule_of program m i o ≡ lowest (broken program m i f)
rule-there program m i o f e = ap (rule_of program m i) e

module _ (program : Program) (tree : IsTree (superclasses program)) (m : Method) (im : IsMethod program m) where
  pub typing : (fs : List (Option FlowFrame)) → IsLeast program m fs → NoneBroken program m fs (length fs) → IsTyping program m fs
  typing fs l n = record {
    least = l;
    keeps = λ i f e. none_is_empty (broken program m i f) (sym (rule-there program m i (frame_at fs i) f e) ∙ n i (has-place fs i f e));
  }

  here : (rule at : ℕ) (o : Option FlowFrame) → rule_of program m at o ≡ Some rule → (f : FlowFrame) × (o ≡ Some f) × (lowest (broken program m at f) ≡ Some rule)
  here rule at None e = absurd cc
  here rule at (Some f) e = (f, refl, e)

  -- a lower address is at a lower place
  lower-place : (i j : ℕ) (a b : Placed) → slice_get (ops_of program m.number) i ≡ Some a → slice_get (ops_of program m.number) j ≡ Some b → a.at < b.at → i < j
  lower-place i j a b e f l =
      elim (cases_lt i j) [
        | inl h ↦ h
        | inr h ↦ elim (cases_lt j i) [
          | inl g ↦ let k : b.at < a.at = im.rising j i b a f e g in absurd (omega arith)
          | inr g ↦ let k : i ≡ j = omega arith in let r : Some a ≡ Some b = sym e ∙ ap (slice_get (ops_of program m.number)) k ∙ f in let t : a.at ≡ b.at = cc in absurd (omega arith)
        ]
      ]

  breaking : (fs : List (Option FlowFrame)) (rule place : ℕ) (o : Placed) → IsLeast program m fs → IsFirst program m fs rule place → slice_get (ops_of program m.number) place ≡ Some o → IsBroken program m rule o.at fs
  breaking fs rule place o l h e = record {
    least = l;
    place = place;
    placed = o;
    is_placed = e;
    address = refl;
    here = here rule place (frame_at fs place) (h.2);
    below = λ i q f at lt there. none_is_empty (broken program m i f) (sym (rule-there program m i (frame_at fs i) f there) ∙ (h.1) i (lower-place i place q o at e lt));
  }

  pub refused : (fs : List (Option FlowFrame)) (rule place at : ℕ) → IsLeast program m fs → IsFirst program m fs rule place → ((o : Placed) → slice_get (ops_of program m.number) place ≡ Some o → at ≡ o.at) → ((gs : List (Option FlowFrame)) × IsBroken program m rule at gs) × ((gs : List (Option FlowFrame)) → IsTyping program m gs → ⊥)
  refused fs rule place at l h k =
      let n : length fs ≡ length (ops_of program m.number) = l.closed.assignment.long in
      let f : place < length fs = h.0 in
      let (o, e) = placed-at (ops_of program m.number) place (omega arith) in
      let b : IsBroken program m rule at fs = subst (λ z. IsBroken program m rule z fs) (sym (k o e)) (breaking fs rule place o l h e) in
      ((fs, b), λ gs t. no-typing program tree m im rule at fs gs b t)
