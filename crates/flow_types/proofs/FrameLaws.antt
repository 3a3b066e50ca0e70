-- The order of frames is a partial order, and `frame_joined` is its least upper bound.
use Rattle.std.specs.Prelude.{IfOk}
use Rattle.std.proofs.Common.{subst, Result, Ok, Err, ◌≡◌, ◌∙◌, sym, ap, refl, ℕ, ◌+◌, ◌*◌, ◌<◌, ◌≤◌, Bool, true, false, not, List, length, Option, Some, None, ◌⊎◌, inl, inr, arith}
use Rattle.std.specs.Prelude.{◌||◌}
use Rattle.std.proofs.lemmas.Bool.{cases_Bool}
use Rattle.std.specs.Bool.{MatchBool}
use native.Mathlib.Nat.{mul-le-mul_right, add-mul}
use Rattle.flow_types.specs.Tree.{IsTree}
use Rattle.flow_types.specs.declared.flow_type.FlowType.{FlowType}
use Rattle.flow_types.specs.FrameRank.{old_rank, types_rank, frame_rank}
use Rattle.flow_types.specs.TypeLists.{types_joined, stacks_joined}
use Rattle.flow_types.specs.Frames.{clash_frame, frame_of, parts_fit, frame_fits, frame_joined, Room, IsOpen, IsFrame, IsJoin}
use Rattle.flow_types.specs.declared.flow_frame.FlowFrame.{FlowFrame}
use Rattle.flow_types.proofs.ListLaws.{and_parts, and_both, fit-refl, fit-length, fit-trans, fit-antisym, fit-left, fit-right, fit-least, joined-types, joined-length, IsAbove, stack-above, stack-least, types-falls, types-bound}

by_cases : (b : Bool) (P Q : Type 0) → MatchBool b P Q → P ⊎ ((b ≡ false) × Q)
by_cases true P Q h = inl h
by_cases false P Q h = inr (refl, h)

in_case : (b : Bool) (P Q : Type 0) → b ≡ false → Q → MatchBool b P Q
in_case true P Q e h = absurd cc
in_case false P Q e h = h

-- the two kinds of frames
pub frame-kind : (supers : List (Option ℕ)) (room : Room) (f : FlowFrame) → IsFrame supers room f → (f ≡ clash_frame) ⊎ ((f.clash ≡ false) × IsOpen supers room f)
unfolding IsFrame
frame-kind supers room f h = by_cases f.clash _ _ h

pub clash-frame : (supers : List (Option ℕ)) (room : Room) → IsFrame supers room clash_frame
unfolding IsFrame
clash-frame supers room = refl

pub open-frame : (supers : List (Option ℕ)) (room : Room) (f : FlowFrame) → f.clash ≡ false → IsOpen supers room f → IsFrame supers room f
unfolding IsFrame
open-frame supers room f p h = in_case f.clash _ _ p h

pub fits-clash : (supers : List (Option ℕ)) (a b : FlowFrame) → b.clash ≡ true → frame_fits supers a b ≡ true
unfolding frame_fits
fits-clash supers a b p = rw p refl

pub fits-open : (supers : List (Option ℕ)) (a b : FlowFrame) → a.clash ≡ false → b.clash ≡ false → parts_fit supers a b ≡ true → frame_fits supers a b ≡ true
unfolding frame_fits
fits-open supers a b p q h = rw (q, p) h

-- what fits an open frame is open, and its parts fit
pub fits-parts : (supers : List (Option ℕ)) (a b : FlowFrame) → b.clash ≡ false → frame_fits supers a b ≡ true → (a.clash ≡ false) × (parts_fit supers a b ≡ true)
unfolding frame_fits
fits-parts supers a b q h =
    elim (cases_Bool a.clash) [
      | inl p ↦ let g : false ≡ true = rw (q, p) at h in absurd cc
      | inr p ↦ (p, rw (q, p) at h)
    ]

same_frame : (l m s t : List FlowType) (f g c d : Bool) → l ≡ m → s ≡ t → f ≡ g → c ≡ d → ◌≡◌ {A = FlowFrame} (record { locals = l; stack = s; fresh = f; clash = c }) (record { locals = m; stack = t; fresh = g; clash = d })
same_frame l m s t f g c d p q r u = cc

fresh-refl : (f : Bool) → (not f || f) ≡ true
fresh-refl true = refl
fresh-refl false = refl

fresh-trans : (f g h : Bool) → (not f || g) ≡ true → (not g || h) ≡ true → (not f || h) ≡ true
fresh-trans true true h p q = q
fresh-trans true false h p q = absurd cc
fresh-trans false g h p q = refl

fresh-antisym : (f g : Bool) → (not f || g) ≡ true → (not g || f) ≡ true → f ≡ g
fresh-antisym true true p q = refl
fresh-antisym false false p q = refl
fresh-antisym true false p q = absurd cc
fresh-antisym false true p q = absurd cc

fresh-left : (f g : Bool) → (not f || (f || g)) ≡ true
fresh-left true g = refl
fresh-left false g = refl

fresh-right : (f g : Bool) → (not g || (f || g)) ≡ true
fresh-right true true = refl
fresh-right false true = refl
fresh-right true false = refl
fresh-right false false = refl

fresh-least : (f g h : Bool) → (not f || h) ≡ true → (not g || h) ≡ true → (not (f || g) || h) ≡ true
fresh-least true g h p q = p
fresh-least false g h p q = q

fresh-falls : (f g : Bool) → (not f || g) ≡ true → (f ≡ g) ⊎ (old_rank g < old_rank f)
fresh-falls true true h = inl refl
fresh-falls false false h = inl refl
fresh-falls false true h = inr (omega arith)
fresh-falls true false h = absurd cc

rank-clash : (supers : List (Option ℕ)) (f : FlowFrame) → f.clash ≡ true → frame_rank supers f ≡ 0
unfolding frame_rank
rank-clash supers f p = rw p refl

rank-open : (supers : List (Option ℕ)) (f : FlowFrame) → f.clash ≡ false → frame_rank supers f ≡ 1 + (types_rank supers f.locals + (types_rank supers f.stack + old_rank f.fresh))
unfolding frame_rank
rank-open supers f p = rw p refl

old-few : (f : Bool) → old_rank f ≤ 1
old-few true = omega arith
old-few false = omega arith

same_or : {A : Type 0} (rank : A → ℕ) (x y : A) → (x ≡ y) ⊎ (rank y < rank x) → ((x ≡ y) × (rank y ≡ rank x)) ⊎ (rank y < rank x)
same_or rank x y (inl e) = inl (e, ap rank (sym e))
same_or rank x y (inr l) = inr l

three : (P Q R : Type 0) (a b c d e f : ℕ) → (P × (b ≡ a)) ⊎ (b < a) → (Q × (d ≡ c)) ⊎ (d < c) → (R × (f ≡ e)) ⊎ (f < e) → (P × Q × R) ⊎ (b + (d + f) < a + (c + e))
three P Q R a b c d e f (inl p) (inl q) (inl r) = inl (p.0, q.0, r.0)
three P Q R a b c d e f (inl p) (inl q) (inr r) = inr (omega (arith, p.1, q.1))
three P Q R a b c d e f (inl p) (inr q) (inl r) = inr (omega (arith, p.1, r.1))
three P Q R a b c d e f (inl p) (inr q) (inr r) = inr (omega (arith, p.1))
three P Q R a b c d e f (inr p) (inl q) (inl r) = inr (omega (arith, q.1, r.1))
three P Q R a b c d e f (inr p) (inl q) (inr r) = inr (omega (arith, q.1))
three P Q R a b c d e f (inr p) (inr q) (inl r) = inr (omega (arith, r.1))
three P Q R a b c d e f (inr p) (inr q) (inr r) = inr (omega arith)

bounds : (r p q o l s n m w : ℕ) → r ≡ 1 + (p + (q + o)) → p ≤ l * w → q ≤ s * w → o ≤ 1 → l ≡ n → s ≤ m → r ≤ (n + m) * w + 2
bounds r p q o l s n m w e a b c d f =
    let g : s * w ≤ m * w = mul-le-mul_right w f in
    let h : l * w ≡ n * w = ap (λ x. x * w) d in
    let z : (n + m) * w ≡ n * w + m * w = add-mul n m w in omega arith

module _ (supers : List (Option ℕ)) (tree : IsTree supers) (room : Room) where
  pub frame-refl : (a : FlowFrame) → frame_fits supers a a ≡ true
  frame-refl a =
      elim (cases_Bool a.clash) [
        | inl p ↦ fits-clash supers a a p
        | inr p ↦ fits-open supers a a p p (and_both _ _ (fit-refl supers tree a.locals) (and_both _ _ (fit-refl supers tree a.stack) (fresh-refl a.fresh)))
      ]

  pub frame-trans : (a b c : FlowFrame) → frame_fits supers a b ≡ true → frame_fits supers b c ≡ true → frame_fits supers a c ≡ true
  frame-trans a b c p q =
      elim (cases_Bool c.clash) [
        | inl h ↦ fits-clash supers a c h
        | inr h ↦
            let (k, v) = fits-parts supers b c h q in
            let (m, u) = fits-parts supers a b k p in
            let (u1, u2) = and_parts _ _ u in let (u3, u4) = and_parts _ _ u2 in
            let (v1, v2) = and_parts _ _ v in let (v3, v4) = and_parts _ _ v2 in
            fits-open supers a c m h (and_both _ _ (fit-trans supers tree a.locals b.locals c.locals u1 v1) (and_both _ _ (fit-trans supers tree a.stack b.stack c.stack u3 v3) (fresh-trans a.fresh b.fresh c.fresh u4 v4)))
      ]

  pub frame-antisym : (a b : FlowFrame) → IsFrame supers room a → IsFrame supers room b → frame_fits supers a b ≡ true → frame_fits supers b a ≡ true → a ≡ b
  frame-antisym a b x y p q =
      elim (frame-kind supers room a x) [
        | inl e ↦ elim (frame-kind supers room b y) [
          | inl f ↦ e ∙ sym f
          | inr f ↦ let (m, u) = fits-parts supers a b (f.0) p in let g : a.clash ≡ true = ap (λ z. z.clash) e in absurd cc
        ]
        | inr e ↦ let (m, v) = fits-parts supers b a (e.0) q in let (n, u) = fits-parts supers a b m p in
            let (u1, u2) = and_parts _ _ u in let (u3, u4) = and_parts _ _ u2 in
            let (v1, v2) = and_parts _ _ v in let (v3, v4) = and_parts _ _ v2 in
            same_frame a.locals b.locals a.stack b.stack a.fresh b.fresh a.clash b.clash (fit-antisym supers tree a.locals b.locals u1 v1) (fit-antisym supers tree a.stack b.stack u3 v3) (fresh-antisym a.fresh b.fresh u4 v4) (n ∙ sym m)
      ]

  -- two open frames joined, by their stacks
  abbrev Parts : FlowFrame → FlowFrame → Type 0
  Parts a b = (stacks_joined supers a.stack b.stack ≡ None) ⊎ ((s : List FlowType) × (stacks_joined supers a.stack b.stack ≡ Some s))

  parts : (a b : FlowFrame) → Parts a b
  parts a b = elim (stacks_joined supers a.stack b.stack) as (λ r. (r ≡ None) ⊎ ((s : List FlowType) × (r ≡ Some s))) [ None ↦ inl refl | Some s ↦ inr (s, refl) ]

  join-first : (a b : FlowFrame) → a.clash ≡ true → frame_joined supers a b ≡ clash_frame
  unfolding frame_joined
  join-first a b p = rw p refl

  join-second : (a b : FlowFrame) → b.clash ≡ true → frame_joined supers a b ≡ clash_frame
  unfolding frame_joined
  join-second a b p = elim (cases_Bool a.clash) [ inl q ↦ rw q refl | inr q ↦ rw (q, p) refl ]

  join-none : (a b : FlowFrame) → stacks_joined supers a.stack b.stack ≡ None → frame_joined supers a b ≡ clash_frame
  unfolding frame_joined
  join-none a b p =
      elim (cases_Bool a.clash) [
        | inl q ↦ rw q refl
        | inr q ↦ elim (cases_Bool b.clash) [ inl r ↦ rw (q, r) refl | inr r ↦ rw (q, r, p) refl ]
      ]

  join-open : (a b : FlowFrame) (s : List FlowType) → a.clash ≡ false → b.clash ≡ false → stacks_joined supers a.stack b.stack ≡ Some s → frame_joined supers a b ≡ frame_of (types_joined supers a.locals b.locals) s (a.fresh || b.fresh)
  unfolding frame_joined
  join-open a b s p q e = rw (p, q, e) refl

  -- two frames join to the clash frame, or are open and join part by part
  data Joined (a b : FlowFrame) : Type 0 where
    clashing : frame_joined supers a b ≡ clash_frame → Joined a b
    meeting : IsOpen supers room a → IsOpen supers room b → a.clash ≡ false → b.clash ≡ false → (s : List FlowType) → IsAbove supers tree a.stack b.stack s → frame_joined supers a b ≡ frame_of (types_joined supers a.locals b.locals) s (a.fresh || b.fresh) → Joined a b

  join-kind : (a b : FlowFrame) → IsFrame supers room a → IsFrame supers room b → Joined a b
  join-kind a b x y =
      elim (frame-kind supers room a x) [
        | inl e ↦ clashing (join-first a b (ap (λ z. z.clash) e))
        | inr e ↦ elim (frame-kind supers room b y) [
          | inl f ↦ clashing (join-second a b (ap (λ z. z.clash) f))
          | inr f ↦ elim (parts a b) [
            | inl n ↦ clashing (join-none a b n)
            | inr n ↦ let (s, g) = n in
                meeting (e.1) (f.1) (e.0) (f.0) s (stack-above supers tree a.stack b.stack s g (e.1).stack (f.1).stack) (join-open a b s (e.0) (f.0) g)
          ]
        ]
      ]

  pub join-left : (a b : FlowFrame) → IsFrame supers room a → IsFrame supers room b → frame_fits supers a (frame_joined supers a b) ≡ true
  join-left a b x y =
      elim (join-kind a b x y) [
        | clashing e ↦ rw e (fits-clash supers a clash_frame refl)
        | meeting o p c d s g e ↦ rw e (fits-open supers a _ c refl (and_both _ _ (fit-left supers tree a.locals b.locals (o.count ∙ sym p.count) o.locals p.locals) (and_both _ _ g.left (fresh-left a.fresh b.fresh))))
      ]

  pub join-right : (a b : FlowFrame) → IsFrame supers room a → IsFrame supers room b → frame_fits supers b (frame_joined supers a b) ≡ true
  join-right a b x y =
      elim (join-kind a b x y) [
        | clashing e ↦ rw e (fits-clash supers b clash_frame refl)
        | meeting o p c d s g e ↦ rw e (fits-open supers b _ d refl (and_both _ _ (fit-right supers tree a.locals b.locals (o.count ∙ sym p.count) o.locals p.locals) (and_both _ _ g.right (fresh-right a.fresh b.fresh))))
      ]

  pub join-least : (a b u : FlowFrame) → IsFrame supers room u → frame_fits supers a u ≡ true → frame_fits supers b u ≡ true → frame_fits supers (frame_joined supers a b) u ≡ true
  join-least a b u z p q =
      elim (frame-kind supers room u z) [
        | inl e ↦ fits-clash supers _ u (ap (λ w. w.clash) e)
        | inr e ↦ let (m, g) = fits-parts supers a u (e.0) p in let (n, h) = fits-parts supers b u (e.0) q in
            let (g1, g2) = and_parts _ _ g in let (g3, g4) = and_parts _ _ g2 in
            let (h1, h2) = and_parts _ _ h in let (h3, h4) = and_parts _ _ h2 in
            let (s, i, j) = stack-least supers tree a.stack b.stack u.stack (e.1).stack (e.1).operands g3 h3 in
            rw (join-open a b s m n i) (fits-open supers _ u refl (e.0) (and_both _ _ (fit-least supers tree a.locals b.locals u.locals (e.1).locals g1 h1) (and_both _ _ j (fresh-least a.fresh b.fresh u.fresh g4 h4))))
      ]

  pub join-frame : (a b : FlowFrame) → IsFrame supers room a → IsFrame supers room b → IsFrame supers room (frame_joined supers a b)
  join-frame a b x y =
      elim (join-kind a b x y) [
        | clashing e ↦ rw e (clash-frame supers room)
        | meeting o p c d s g e ↦ rw e (open-frame supers room _ refl (record {
          count = joined-length supers tree a.locals b.locals (o.count ∙ sym p.count) ∙ o.count;
          deep = let n : length a.stack ≡ length s = fit-length supers tree a.stack s g.left in let m : length a.stack ≤ room.stack = o.deep in omega arith;
          locals = joined-types supers tree a.locals b.locals o.locals p.locals;
          stack = g.types;
          operands = g.operands;
        }))
      ]

  open-falls : (a b : FlowFrame) → a.clash ≡ false → b.clash ≡ false → (a.locals ≡ b.locals) ⊎ (types_rank supers b.locals < types_rank supers a.locals) → (a.stack ≡ b.stack) ⊎ (types_rank supers b.stack < types_rank supers a.stack) → (a.fresh ≡ b.fresh) ⊎ (old_rank b.fresh < old_rank a.fresh) → (a ≡ b) ⊎ (frame_rank supers b < frame_rank supers a)
  open-falls a b p q l s f =
      let r : frame_rank supers a ≡ 1 + (types_rank supers a.locals + (types_rank supers a.stack + old_rank a.fresh)) = rank-open supers a p in
      let t : frame_rank supers b ≡ 1 + (types_rank supers b.locals + (types_rank supers b.stack + old_rank b.fresh)) = rank-open supers b q in
      elim (three _ _ _ _ _ _ _ _ _ (same_or (types_rank supers) _ _ l) (same_or (types_rank supers) _ _ s) (same_or old_rank _ _ f)) [
        | inl e ↦ inl (same_frame a.locals b.locals a.stack b.stack a.fresh b.fresh a.clash b.clash (e.0) (e.1) (e.2) (p ∙ sym q))
        | inr e ↦ inr (omega arith)
      ]

  pub frame-falls : (a b : FlowFrame) → IsFrame supers room a → IsFrame supers room b → frame_fits supers a b ≡ true → (a ≡ b) ⊎ (frame_rank supers b < frame_rank supers a)
  frame-falls a b x y h =
      elim (frame-kind supers room a x) [
        | inl e ↦ elim (frame-kind supers room b y) [
          | inl f ↦ inl (e ∙ sym f)
          | inr f ↦ let (m, u) = fits-parts supers a b (f.0) h in let g : a.clash ≡ true = ap (λ z. z.clash) e in absurd cc
        ]
        | inr e ↦ elim (frame-kind supers room b y) [
          | inl f ↦ let r : frame_rank supers b ≡ 0 = rank-clash supers b (ap (λ z. z.clash) f) in
              let s : frame_rank supers a ≡ 1 + (types_rank supers a.locals + (types_rank supers a.stack + old_rank a.fresh)) = rank-open supers a (e.0) in inr (omega arith)
          | inr f ↦ let (m, u) = fits-parts supers a b (f.0) h in
              let (u1, u2) = and_parts _ _ u in let (u3, u4) = and_parts _ _ u2 in
              open-falls a b (e.0) (f.0) (types-falls supers tree a.locals b.locals (e.1).locals (f.1).locals u1) (types-falls supers tree a.stack b.stack (e.1).stack (f.1).stack u3) (fresh-falls a.fresh b.fresh u4)
        ]
      ]

  pub frame-bound : (a : FlowFrame) → IsFrame supers room a → frame_rank supers a ≤ (room.locals + room.stack) * (length supers + 257) + 2
  frame-bound a x =
      elim (frame-kind supers room a x) [
        | inl e ↦ let r : frame_rank supers a ≡ 0 = rank-clash supers a (ap (λ z. z.clash) e) in omega arith
        | inr e ↦ let s : frame_rank supers a ≡ 1 + (types_rank supers a.locals + (types_rank supers a.stack + old_rank a.fresh)) = rank-open supers a (e.0) in
            let p : types_rank supers a.locals ≤ length a.locals * (length supers + 257) = types-bound supers tree a.locals (e.1).locals in
            let q : types_rank supers a.stack ≤ length a.stack * (length supers + 257) = types-bound supers tree a.stack (e.1).stack in
            let o : old_rank a.fresh ≤ 1 = old-few a.fresh in
            let c : length a.locals ≡ room.locals = (e.1).count in let d : length a.stack ≤ room.stack = (e.1).deep in
            bounds (frame_rank supers a) (types_rank supers a.locals) (types_rank supers a.stack) (old_rank a.fresh) (length a.locals) (length a.stack) room.locals room.stack (length supers + 257) s p q o c d
      ]

-- the joined frame is the least above both
pub is_join : (supers : List (Option ℕ)) → IsTree supers → (a b : FlowFrame) → IsJoin supers a b (frame_joined supers a b)
is_join supers tree a b = record {
  first = λ room x y. join-left supers tree room a b x y;
  second = λ room x y. join-right supers tree room a b x y;
  least = λ room u z p q. join-least supers tree room a b u z p q;
}

-- so a call that gives it gives that
pub joined_ok : {E : Type 0} (supers : List (Option ℕ)) → IsTree supers → (a b : FlowFrame) (r : Result FlowFrame E) → IfOk r (λ f. f ≡ frame_joined supers a b) → IfOk r (λ f. IsJoin supers a b f)
joined_ok supers tree a b (Ok f) h = subst (IsJoin supers a b) (sym h) (is_join supers tree a b)
joined_ok supers tree a b (Err e) h = tt

-- the clash frame joined with any is itself
pub joined-clash-left : (supers : List (Option ℕ)) (a b : FlowFrame) → a.clash ≡ true → frame_joined supers a b ≡ clash_frame
unfolding frame_joined
joined-clash-left supers a b h = rw h refl

pub joined-clash-right : (supers : List (Option ℕ)) (a b : FlowFrame) → b.clash ≡ true → frame_joined supers a b ≡ clash_frame
unfolding frame_joined
joined-clash-right supers a b h = elim (cases_Bool a.clash) [ inl p ↦ rw p refl | inr p ↦ rw (p, h) refl ]

-- stacks that don't meet give the clash frame
pub joined-apart : (supers : List (Option ℕ)) (a b : FlowFrame) → stacks_joined supers a.stack b.stack ≡ None → frame_joined supers a b ≡ clash_frame
unfolding frame_joined
joined-apart supers a b h =
    elim (cases_Bool a.clash) [
      | inl p ↦ rw p refl
      | inr p ↦ elim (cases_Bool b.clash) [ inl q ↦ rw (p, q) refl | inr q ↦ rw (p, q, h) refl ]
    ]
