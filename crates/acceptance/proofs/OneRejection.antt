-- Class files are rejected for one method at most, by one rule and at one address, and what is rejected isn't accepted.
use Rattle.std.proofs.Common.{◌≡◌, ℕ, ◌<◌, List, [], Option, Some, None, Err, ap, sym, ◌∙◌, subst, refl, arith, inl, inr}
use Rattle.std.specs.List.{All}
use Rattle.std.specs.Prelude.{slice_get}
use Rattle.std.proofs.lemmas.Bool.{cases_lt}
use Rattle.std.proofs.lemmas.Option.{slice_get_within}
use Rattle.jvm_base.proofs.Options.{then_some}
use Rattle.class_format.specs.declared.class.ClassFile.{ClassFile}
use Rattle.class_format.specs.Meaning.{IsClass}
use Rattle.class_link.specs.Linked.{linked}
use Rattle.code_table.specs.declared.code.Placed.{Placed}
use Rattle.program_image.specs.Handlers.{body_code}
use Rattle.program_image.specs.Program.{Program}
use Rattle.flow_types.specs.Frames.{IsFrame}
use Rattle.flow_types.specs.Tree.{superclasses, IsTree}
use Rattle.flow_types.specs.declared.flow_frame.FlowFrame.{FlowFrame}
use Rattle.flow_types.proofs.FrameLaws.{frame-antisym}
use Rattle.instruction_table.specs.LowestRule.{lowest}
use Rattle.flow_verifier.specs.Given.{broken}
use Rattle.flow_verifier.specs.Methods.{method_of, ops_of, room_of, Rises}
use Rattle.flow_verifier.specs.Typing.{frame_at, FitsThere, IsLeast, IsBroken, Judged}
use Rattle.flow_verifier.specs.declared.answer.FlowErr.{FlowErr}
use Rattle.flow_verifier.specs.declared.answer.VerifyErr.TheVariants.{Flow}
use Rattle.flow_verifier.specs.declared.method.Method.{Method}
use Rattle.acceptance.specs.Accepted.{IsFirstRefused, AreAccepted, AreUntyped}
use Rattle.acceptance.proofs.Verifiable.{linked_law}

module _ (p : Program) (m : Method) (tree : IsTree (superclasses p)) (rising : Rises (ops_of p m.number)) where
  -- two frames that fit each other are one
  same_frames : (x y : Option FlowFrame)
      → ((f : FlowFrame) → x ≡ Some f → IsFrame (superclasses p) (room_of m) f)
      → ((f : FlowFrame) → y ≡ Some f → IsFrame (superclasses p) (room_of m) f)
      → FitsThere (superclasses p) x y → FitsThere (superclasses p) y x → x ≡ y
  same_frames None None a b u v = refl
  same_frames None (Some g) a b u v = absurd v
  same_frames (Some f) None a b u v = absurd u
  same_frames (Some f) (Some g) a b u v =
      ap (λ (z : FlowFrame). Some z) (frame-antisym (superclasses p) tree (room_of m) f g (a f refl) (b g refl) u v)

  -- the least closed assignment is one
  same_at : (fs gs : List (Option FlowFrame)) → IsLeast p m fs → IsLeast p m gs → (i : ℕ) → frame_at fs i ≡ frame_at gs i
  same_at fs gs a b i =
      same_frames (frame_at fs i) (frame_at gs i) (a.closed.assignment.frames i) (b.closed.assignment.frames i) (a.least gs b.closed i) (b.least fs a.closed i)

  -- no rule is broken first at two addresses
  no_lower : (r s at to : ℕ) (fs gs : List (Option FlowFrame)) → IsBroken p m r at fs → IsBroken p m s to gs → at < to → ⊥
  no_lower r s at to fs gs a b l =
      let there : frame_at gs a.place ≡ Some a.here.0 = sym (same_at fs gs a.least b.least a.place) ∙ a.here.1 in
      let low : a.placed.at < to = let same = a.address in omega arith in
      let none : broken p m a.place a.here.0 ≡ [] = b.below a.place a.placed a.here.0 a.is_placed low there in
      let q : None ≡ Some r = ap lowest (sym none) ∙ a.here.2 in
      absurd cc

  -- an address is that of one place
  one_place : (i j : ℕ) (a b : Placed) → slice_get (ops_of p m.number) i ≡ Some a → slice_get (ops_of p m.number) j ≡ Some b → a.at ≡ b.at → i ≡ j
  one_place i j a b x y e = elim (cases_lt i j) [
    | inl l ↦ let r = rising i j a b x y l in absurd (omega arith)
    | inr g ↦ elim (cases_lt j i) [
      | inl l ↦ let r = rising j i b a y x l in absurd (omega arith)
      | inr h ↦ omega arith
    ]
  ]

  one_address : (r s at to : ℕ) (fs gs : List (Option FlowFrame)) → IsBroken p m r at fs → IsBroken p m s to gs → at ≡ to
  one_address r s at to fs gs a b = elim (cases_lt at to) [
    | inl l ↦ absurd (no_lower r s at to fs gs a b l)
    | inr g ↦ elim (cases_lt to at) [
      | inl l ↦ absurd (no_lower s r to at gs fs b a l)
      | inr h ↦ omega arith
    ]
  ]

  -- one rule is broken first
  one_rule : (r s at to : ℕ) (fs gs : List (Option FlowFrame)) → IsBroken p m r at fs → IsBroken p m s to gs → r ≡ s
  one_rule r s at to fs gs a b =
      let address : a.placed.at ≡ b.placed.at = a.address ∙ one_address r s at to fs gs a b ∙ sym b.address in
      let place : a.place ≡ b.place = one_place a.place b.place a.placed b.placed a.is_placed b.is_placed address in
      let frames : Some a.here.0 ≡ Some b.here.0 = sym a.here.1 ∙ same_at fs gs a.least b.least a.place ∙ ap (frame_at gs) place ∙ b.here.1 in
      let frame : a.here.0 ≡ b.here.0 = cc in
      let rules : Some r ≡ Some s =
      sym a.here.2 ∙ ap (λ (i : ℕ). lowest (broken p m i a.here.0)) place ∙ ap (λ (f : FlowFrame). lowest (broken p m b.place f)) frame ∙ b.here.2 in
      cc

-- no method is the first without a typing behind another one
no_earlier : (p : Program) (e f : FlowErr) → IsFirstRefused p e → IsFirstRefused p f → e.method < f.method → ⊥
no_earlier p e f a b l = let t = b.before e.method l a.has_code in a.here.2 t.0 t.1

-- one method is the first
one_method : (p : Program) (e f : FlowErr) → IsFirstRefused p e → IsFirstRefused p f → e.method ≡ f.method
one_method p e f a b = elim (cases_lt e.method f.method) [
  | inl l ↦ absurd (no_earlier p e f a b l)
  | inr g ↦ elim (cases_lt f.method e.method) [
    | inl l ↦ absurd (no_earlier p f e b a l)
    | inr h ↦ omega arith
  ]
]

abbrev told : ℕ → ℕ → ℕ → FlowErr
told method rule at = record { method = method; rule = rule; at = at }

-- class files have one refusal of the verifier
pub one_rejection : (files : List ClassFile) (main : List ℕ) → All IsClass files → (e f : FlowErr) → AreUntyped e files main → AreUntyped f files main → e ≡ f
one_rejection files main formed e f a b =
    let p : Program = linked files main in
    let law = linked_law files main (record { formed = formed; none = a.links }) in
    let method : e.method ≡ f.method = one_method p e f a.first b.first in
    let m : Method = method_of p e.method in
    let rising = (law.1 e.method a.first.has_code).fine.rising in
    let here = a.first.here in
    let there : Judged p m (Err (Flow f)) = subst (λ (n : ℕ). Judged p (method_of p n) (Err (Flow f))) (sym method) b.first.here in
    let rule = one_rule p m law.0 rising e.rule f.rule e.at f.at here.1.0 there.1.0 here.1.1 there.1.1 in
    let at = one_address p m law.0 rising e.rule f.rule e.at f.at here.1.0 there.1.0 here.1.1 there.1.1 in
    ap (λ (n : ℕ). told n e.rule e.at) method ∙ ap (λ (r : ℕ). told f.method r e.at) rule ∙ ap (told f.method f.rule) at

-- and none where they are accepted
pub not_both : (files : List ClassFile) (main : List ℕ) (e : FlowErr) → AreUntyped e files main → AreAccepted files main → ⊥
not_both files main e a b =
    let p : Program = linked files main in
    let has = a.first.has_code in
    let found = then_some (λ info. body_code info.body) (slice_get p.methods e.method) has.0 has.1 in
    let t = b.typed e.method (slice_get_within p.methods e.method found.0 found.1) has in
    a.first.here.2 t.0 t.1
