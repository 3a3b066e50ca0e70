-- What is thrown to handlers, by the frames that a range has caught.
use Rattle.std.proofs.Common.{◌≡◌, ◌∙◌, sym, ap, subst, refl, ℕ, zero, suc, Bool, true, false, List, [], ◌∷◌, length, slice_get, Option, Some, None, inl, inr, arith}
use Rattle.std.specs.Prelude.{◌||◌}
use Rattle.std.specs.List.{list_any}
use Rattle.std.proofs.lemmas.Bool.{cases_Bool}
use Rattle.code_table.specs.declared.code.Placed.{Placed}
use Rattle.program_image.specs.Program.{Program}
use Rattle.flow_types.specs.Tree.{superclasses, IsTree}
use Rattle.flow_types.specs.TypeLists.{types_joined, stacks_joined}
use Rattle.flow_types.specs.Frames.{clash_frame, frame_of, frame_fits, frame_joined, Room, IsFrame}
use Rattle.flow_types.specs.declared.flow_frame.FlowFrame.{FlowFrame}
use Rattle.flow_types.specs.declared.flow_type.FlowType.TheVariants.{Class}
use Rattle.flow_types.proofs.TreeLaws.{below-refl}
use Rattle.flow_types.proofs.FrameLaws.{frame-kind, clash-frame, open-frame, fits-clash, join-least, joined-clash-left, joined-clash-right}
use Rattle.flow_verifier.specs.declared.catches.Catches.{Catches}
use Rattle.flow_verifier.specs.declared.method.Handler.{Handler}
use Rattle.flow_verifier.specs.declared.method.Method.{Method}
use Rattle.flow_verifier.specs.Methods.{ops_of, room_of, IsMethod}
use Rattle.flow_verifier.specs.Given.{covers, given, catching, frame_caught}
use Rattle.flow_verifier.specs.Typing.{frame_at, FitsPlace, FitsThere, IsClosed}
use Rattle.flow_verifier.specs.Worklist.Flowing.{merged, IsMore}
use Rattle.flow_verifier.specs.Worklist.Ranges.{covers_place}
use Rattle.flow_verifier.specs.Worklist.Catching.{without_operands, TakenAt, IsCatching}
use Rattle.flow_verifier.proofs.GivenLaws.{given-clash, given-open, given-mono}
use Rattle.flow_verifier.proofs.Worklist.{fit-up, place-up, merged-frame, merged-right, given-below}
use Rattle.flow_verifier.proofs.Leads.{handler_way}

-- ---- frames without operands

bare_clash : (f : FlowFrame) → f.clash ≡ true → without_operands f ≡ clash_frame
bare_clash f e = rw e refl

bare_open : (f : FlowFrame) → f.clash ≡ false → without_operands f ≡ frame_of f.locals [] f.fresh
bare_open f e = rw e refl

-- there are no more operands to take away
pub bare_twice : (f : FlowFrame) → without_operands (without_operands f) ≡ without_operands f
bare_twice f = elim (cases_Bool f.clash) [
  | inl p ↦ rw p refl
  | inr p ↦ rw p refl
]

pub bare_frame : (supers : List (Option ℕ)) (room : Room) (f : FlowFrame) → IsFrame supers room f → IsFrame supers room (without_operands f)
bare_frame supers room f h =
    elim (frame-kind supers room f h) [
      | inl e ↦ subst (λ z. IsFrame supers room z) (sym (bare_clash f (ap (λ z. z.clash) e))) (clash-frame supers room)
      | inr o ↦ subst (λ z. IsFrame supers room z) (sym (bare_open f (o.0))) (open-frame supers room (frame_of f.locals [] f.fresh) refl (record { count = (o.1).count; deep = omega arith; locals = (o.1).locals; stack = tt; operands = tt }))
    ]

open_stack : (f : FlowFrame) → f.clash ≡ false → without_operands f ≡ f → f.stack ≡ []
open_stack f e b = sym (ap (λ z. z.stack) (sym (bare_open f e) ∙ b))

bare_meet : (supers : List (Option ℕ)) (c k : FlowFrame) → c.clash ≡ false → k.clash ≡ false → without_operands c ≡ c → without_operands k ≡ k → frame_joined supers c k ≡ frame_of (types_joined supers c.locals k.locals) [] (c.fresh || k.fresh)
unfolding frame_joined
bare_meet supers c k p q b d = rw (p, q, open_stack c p b, open_stack k q d) refl

-- joined they have none
bare_joined : (supers : List (Option ℕ)) (c k : FlowFrame) → without_operands c ≡ c → without_operands k ≡ k → without_operands (frame_joined supers c k) ≡ frame_joined supers c k
bare_joined supers c k b d =
    elim (cases_Bool c.clash) [
      | inl p ↦ rw (joined-clash-left supers c k p) refl
      | inr p ↦ elim (cases_Bool k.clash) [
        | inl q ↦ rw (joined-clash-right supers c k q) refl
        | inr q ↦ rw (bare_meet supers c k p q b d) refl
      ]
    ]

-- ---- what they throw

-- what is thrown has nothing of the operands
pub thrown_bare : (p : Program) (m : Method) (i at : ℕ) (f : FlowFrame) (h : Handler) → given p m i (without_operands f) (catching h) ≡ given p m at f (catching h)
unfolding given
thrown_bare p m i at f h = elim (cases_Bool f.clash) [ inl e ↦ rw e refl | inr e ↦ rw e refl ]

-- nor of the place
pub thrown_anywhere : (p : Program) (m : Method) (i at : ℕ) (f : FlowFrame) (h : Handler) → given p m i f (catching h) ≡ given p m at f (catching h)
unfolding given
thrown_anywhere p m i at f h = refl

class_met : (supers : List (Option ℕ)) → IsTree supers → (class : ℕ) → stacks_joined supers (Class class ∷ []) (Class class ∷ []) ≡ Some (Class class ∷ [])
class_met supers tree class = rw (below-refl supers tree class) refl

caught_met : (supers : List (Option ℕ)) → IsTree supers → (c k : FlowFrame) (class : ℕ) → frame_joined supers (frame_caught c class) (frame_caught k class) ≡ frame_of (types_joined supers c.locals k.locals) (Class class ∷ []) (c.fresh || k.fresh)
unfolding frame_joined
caught_met supers tree c k class = rw (class_met supers tree class) refl

-- what two throw joined is what the two joined throw
thrown_joined : (p : Program) → IsTree (superclasses p) → (m : Method) (i : ℕ) (c k : FlowFrame) (h : Handler) → without_operands c ≡ c → without_operands k ≡ k → given p m i (frame_joined (superclasses p) c k) (catching h) ≡ frame_joined (superclasses p) (given p m i c (catching h)) (given p m i k (catching h))
thrown_joined p tree m i c k h b d =
    elim (cases_Bool c.clash) [
      | inl e ↦
          rw (joined-clash-left (superclasses p) c k e, given-clash p m i c (catching h) e, given-clash p m i clash_frame (catching h) refl)
          (sym (joined-clash-left (superclasses p) clash_frame (given p m i k (catching h)) refl))
      | inr e ↦ elim (cases_Bool k.clash) [
        | inl g ↦
            rw (joined-clash-right (superclasses p) c k g, given-clash p m i k (catching h) g, given-clash p m i clash_frame (catching h) refl)
            (sym (joined-clash-right (superclasses p) (given p m i c (catching h)) clash_frame refl))
        | inr g ↦
            rw (bare_meet (superclasses p) c k e g b d, given-open p m i c (catching h) e, given-open p m i k (catching h) g, given-open p m i (frame_of (types_joined (superclasses p) c.locals k.locals) [] (c.fresh || k.fresh)) (catching h) refl)
            (sym (caught_met (superclasses p) tree c k h.class))
      ]
    ]

-- ---- what a range has caught

none_covers : (hs : List Handler) (test : Handler → Bool) (k : ℕ) (h : Handler) → list_any test hs ≡ false → slice_get hs k ≡ Some h → test h ≡ true → ⊥
none_covers [] test k h a e t = absurd cc
none_covers (x ∷ hs) test zero h a e t = let f : x ≡ h = cc in let u : test x ≡ true = subst (λ z. test z ≡ true) (sym f) t in let b : true ≡ false = rw u at a in absurd cc
none_covers (x ∷ hs) test (suc k) h a e t = elim (cases_Bool (test x)) [
  | inl u ↦ let b : true ≡ false = rw u at a in absurd cc
  | inr u ↦ none_covers hs test k h (rw u at a) e t
]

pub covers_at : (ops : List Placed) (i address : ℕ) (o : Placed) (h : Handler) → slice_get ops i ≡ Some o → o.at ≡ address → covers_place ops i h ≡ covers address h
covers_at ops i address o h e f = rw e (ap (λ z. covers z h) f)

module _ (p : Program) (tree : IsTree (superclasses p)) (m : Method) (im : IsMethod p m) where
  -- what a frame throws rises with it
  pub thrown_mono : (i at : ℕ) (f c : FlowFrame) (h : Handler) (o : Option FlowFrame) → IsFrame (superclasses p) (room_of m) f → IsFrame (superclasses p) (room_of m) c → frame_fits (superclasses p) (without_operands f) c ≡ true → FitsPlace (superclasses p) (given p m i c (catching h)) o → FitsPlace (superclasses p) (given p m at f (catching h)) o
  thrown_mono i at f c h o x y l w =
      subst (λ z. FitsPlace (superclasses p) z o) (thrown_bare p m i at f h)
      (fit-up p tree m im (given p m i (without_operands f) (catching h)) (given p m i c (catching h)) o (given-mono p tree m im i (without_operands f) c (catching h) (bare_frame (superclasses p) (room_of m) f x) y l) w)

  -- each closed assignment takes what a frame below it throws
  pub own_below : (at : ℕ) (f : FlowFrame) (gs : List (Option FlowFrame)) → IsFrame (superclasses p) (room_of m) f → IsClosed p m gs → FitsPlace (superclasses p) f (frame_at gs at) → TakenAt p m at f (length m.handlers) gs
  own_below at f gs x c w k h l e t =
      let (j, i) = handler_way p m at k h e t in
      given-below p tree m im at j f (catching h) gs x c i (frame_at gs at) refl w

  -- and what it throws joined with what is thrown already
  joined_below : (at : ℕ) (c f : FlowFrame) (gs : List (Option FlowFrame)) → without_operands c ≡ c → IsClosed p m gs → TakenAt p m at c (length m.handlers) gs → TakenAt p m at f (length m.handlers) gs → TakenAt p m at (frame_joined (superclasses p) c (without_operands f)) (length m.handlers) gs
  joined_below at c f gs b z x y k h l e t =
      subst (λ w. FitsPlace (superclasses p) w (frame_at gs h.to)) (sym (thrown_joined p tree m at c (without_operands f) h b (bare_twice f) ∙ ap (frame_joined (superclasses p) (given p m at c (catching h))) (thrown_bare p m at at f h)))
      (least (frame_at gs h.to) (z.assignment.frames h.to) (x k h l e t) (y k h l e t))
    where
      least : (o : Option FlowFrame) → ((u : FlowFrame) → o ≡ Some u → IsFrame (superclasses p) (room_of m) u) → FitsPlace (superclasses p) (given p m at c (catching h)) o → FitsPlace (superclasses p) (given p m at f (catching h)) o → FitsPlace (superclasses p) (frame_joined (superclasses p) (given p m at c (catching h)) (given p m at f (catching h))) o
      least None g a d = absurd a
      least (Some u) g a d = join-least (superclasses p) tree (room_of m) (given p m at c (catching h)) (given p m at f (catching h)) u (g u refl) a d

  -- frames that rise leave what is taken
  pub catching_up : (fs gs : List (Option FlowFrame)) (s : Catches) → ((i : ℕ) → FitsThere (superclasses p) (frame_at fs i) (frame_at gs i)) → IsCatching p m fs s → IsCatching p m gs s
  catching_up fs gs s rise x = record {
    ranges = x.ranges;
    long = x.long;
    frames = x.frames;
    taken = λ i c e k h l q t. place-up p tree m im _ (frame_at fs h.to) _ (x.taken i c e k h l q t) (rise h.to);
    below = x.below;
  }

  -- ---- a range catches a frame more

  pub more_frame : (covered : Bool) (before : Option FlowFrame) (f c : FlowFrame) → ((g : FlowFrame) → before ≡ Some g → IsFrame (superclasses p) (room_of m) g) → IsFrame (superclasses p) (room_of m) f → IsMore (superclasses p) covered before f c → IsFrame (superclasses p) (room_of m) c
  more_frame covered before f c x y (inl e) = subst (λ z. IsFrame (superclasses p) (room_of m) z) (sym e) (merged-frame p tree m im before (without_operands f) x (bare_frame (superclasses p) (room_of m) f y))
  more_frame covered before f c x y (inr e) = subst (λ z. IsFrame (superclasses p) (room_of m) z) (sym (e.1)) (clash-frame (superclasses p) (room_of m))

  merged_bare : (before : Option FlowFrame) (f : FlowFrame) → ((g : FlowFrame) → before ≡ Some g → without_operands g ≡ g) → without_operands (merged (superclasses p) before (without_operands f)) ≡ merged (superclasses p) before (without_operands f)
  merged_bare None f x = bare_twice f
  merged_bare (Some g) f x = bare_joined (superclasses p) g (without_operands f) (x g refl) (bare_twice f)

  pub more_bare : (covered : Bool) (before : Option FlowFrame) (f c : FlowFrame) → ((g : FlowFrame) → before ≡ Some g → without_operands g ≡ g) → IsMore (superclasses p) covered before f c → without_operands c ≡ c
  more_bare covered before f c x (inl e) = subst (λ z. without_operands z ≡ z) (sym e) (merged_bare before f x)
  more_bare covered before f c x (inr e) = subst (λ z. without_operands z ≡ z) (sym (e.1)) refl

  pub more_above : (covered : Bool) (before : Option FlowFrame) (f c : FlowFrame) → ((g : FlowFrame) → before ≡ Some g → IsFrame (superclasses p) (room_of m) g) → IsFrame (superclasses p) (room_of m) f → IsMore (superclasses p) covered before f c → frame_fits (superclasses p) (without_operands f) c ≡ true
  more_above covered before f c x y (inl e) = subst (λ z. frame_fits (superclasses p) (without_operands f) z ≡ true) (sym e) (merged-right p tree m im before (without_operands f) x (bare_frame (superclasses p) (room_of m) f y))
  more_above covered before f c x y (inr e) = fits-clash (superclasses p) (without_operands f) c (ap (λ z. z.clash) (e.1))

  merged_below : (at : ℕ) (before : Option FlowFrame) (f : FlowFrame) (gs : List (Option FlowFrame)) → ((g : FlowFrame) → before ≡ Some g → (without_operands g ≡ g) × TakenAt p m at g (length m.handlers) gs) → IsClosed p m gs → TakenAt p m at f (length m.handlers) gs → TakenAt p m at (merged (superclasses p) before (without_operands f)) (length m.handlers) gs
  merged_below at None f gs x z y = λ k h l e t. subst (λ w. FitsPlace (superclasses p) w (frame_at gs h.to)) (sym (thrown_bare p m at at f h)) (y k h l e t)
  merged_below at (Some g) f gs x z y = joined_below at g f gs ((x g refl).0) z ((x g refl).1) y

  pub more_below : (at address : ℕ) (o : Placed) (before : Option FlowFrame) (f c : FlowFrame) (gs : List (Option FlowFrame)) → slice_get (ops_of p m.number) at ≡ Some o → o.at ≡ address → ((g : FlowFrame) → before ≡ Some g → (without_operands g ≡ g) × TakenAt p m at g (length m.handlers) gs) → IsClosed p m gs → TakenAt p m at f (length m.handlers) gs → IsMore (superclasses p) (list_any (covers address) m.handlers) before f c → TakenAt p m at c (length m.handlers) gs
  more_below at address o before f c gs i j x z y (inl e) = subst (λ w. TakenAt p m at w (length m.handlers) gs) (sym e) (merged_below at before f gs x z y)
  more_below at address o before f c gs i j x z y (inr n) = λ k h l e t.
      absurd (none_covers m.handlers (covers address) k h (n.0) e (sym (covers_at (ops_of p m.number) at address o h i j) ∙ t))
