-- What flows from an instruction that is visited, way by way.
use Rattle.std.proofs.Common.{refl, ◌∙◌, sym, ap, ◌≡◌, subst, ℕ, ◌+◌, ◌<◌, ◌≤◌, Bool, true, false, List, [], ◌∷◌, ◌++◌, length, slice_get, slice_set, Option, Some, None, Result, Ok, Err, ◌⊎◌, inl, inr, arith}
use Rattle.std.specs.Prelude.{OnOk, get_or}
use Rattle.std.proofs.lemmas.Option.{slice_get-get_or}
use Rattle.std.specs.Bool.{MatchBool}
use Rattle.flow_types.specs.Tree.{superclasses, IsTree}
use Rattle.flow_types.specs.Frames.{clash_frame, frame_of, Room, IsFrame}
use Rattle.flow_types.specs.declared.flow_type.FlowType.{FlowType}
use Rattle.flow_types.specs.declared.flow_type.FlowType.TheVariants.{Class}
use Rattle.flow_types.specs.declared.flow_frame.FlowFrame.{FlowFrame}
use Rattle.flow_types.proofs.FrameLaws.{frame-kind}
use Rattle.program_image.specs.Program.{Program}
use Rattle.flow_verifier.specs.declared.method.Method.{Method}
use Rattle.flow_verifier.specs.declared.method.Edge.TheVariants.{Next, Caught}
use Rattle.flow_verifier.specs.declared.rising.Rising.{Rising}
use Rattle.flow_verifier.specs.declared.visit.Visit.{Visit}
use Rattle.flow_verifier.specs.Methods.{room_of, IsMethod}
use Rattle.flow_verifier.specs.Given.{given, edges}
use Rattle.flow_verifier.specs.Typing.{frame_at}
use Rattle.flow_verifier.specs.Worklist.Flowing.{Flows, IsAlike}
use Rattle.flow_verifier.specs.Worklist.Leading.{successors, ways_caught}
use Rattle.flow_verifier.specs.Worklist.Catching.{IsCatching}
use Rattle.flow_verifier.specs.Worklist.Going.{IsFlagged, IsGoing, IsPartly, IsTakenOff, IsMarked, IsCatcher, IsFlowing, IsPut, IsVisiting}
use Rattle.flow_verifier.specs.Worklist.Potential.{potential}
use Rattle.flow_verifier.proofs.GivenLaws.{given-clash, given-open, given-frame, edge-is}
use Rattle.flow_verifier.proofs.Worklist.{partly-start, partly-end, flag-set, flag-clear, flag-length}
use Rattle.flow_verifier.proofs.Leads.{next_way, ways_are}
use Rattle.flow_verifier.proofs.CatchLaws.{catching_up}
use Rattle.flow_verifier.proofs.Ways.{edge-target, edge-step, edge-rise, edge-falls, flows-at}

-- ---- the flags

-- a place more
pub mark-more : (s t : Rising) (to : ℕ) → IsMarked s → to < length s.frames → t.frames ≡ s.frames → t.queued ≡ slice_set s.queued to true → t.todo ≡ s.todo ++ (to ∷ []) → IsMarked t
mark-more s t to h l e f g = record {
  wide = ap length f ∙ flag-length s.queued to true ∙ h.wide ∙ sym (ap length e);
  flags = rw (f, g) (flag-set s.queued s.todo to (let w = h.wide in omega arith) h.flags);
}

-- a place taken off
pub mark-less : (s t : Rising) (at : ℕ) → IsMarked s → t.frames ≡ s.frames → t.queued ≡ slice_set s.queued at false → s.todo ≡ t.todo ++ (at ∷ []) → IsMarked t
mark-less s t at h e f g = record {
  wide = ap length f ∙ flag-length s.queued at false ∙ h.wide ∙ sym (ap length e);
  flags = rw f (flag-clear s.queued t.todo at (subst (λ z. IsFlagged s.queued z) g h.flags));
}

-- ---- what handlers catch

frame_with : List FlowType → List FlowType → Bool → Bool → FlowFrame
frame_with locals stack fresh clash = record { locals = locals; stack = stack; fresh = fresh; clash = clash }

same-parts : (a b c d : List FlowType) (x y u v : Bool) → a ≡ b → c ≡ d → x ≡ y → u ≡ v → frame_with a c x u ≡ frame_with b d y v
same-parts a b c d x y u v p q r s = rw (p, q, r, s) refl

-- a frame is its parts
same-frame : (f g : FlowFrame) → f.locals ≡ g.locals → f.stack ≡ g.stack → f.fresh ≡ g.fresh → f.clash ≡ g.clash → f ≡ g
unfolding frame_with
same-frame f g p q r s = same-parts f.locals g.locals f.stack g.stack f.fresh g.fresh f.clash g.clash p q r s

split-on : (b : Bool) (P Q : Type 0) → MatchBool b P Q → ((b ≡ true) × P) ⊎ ((b ≡ false) × Q)
split-on true P Q h = inl (refl, h)
split-on false P Q h = inr (refl, h)

put-then : (b : Bool) (P Q : Type 0) → b ≡ true → P → MatchBool b P Q
put-then true P Q e h = h
put-then false P Q e h = absurd cc

put-else : (b : Bool) (P Q : Type 0) → b ≡ false → Q → MatchBool b P Q
put-else true P Q e h = absurd cc
put-else false P Q e h = h

one-set : (ts : List FlowType) (t : FlowType) → length ts ≡ 1 → slice_set ts 0 t ≡ t ∷ []
one-set [] t e = absurd (omega arith)
one-set (x ∷ []) t e = refl
one-set (x ∷ y ∷ ts) t e = absurd (omega arith)

clash-put : (c d : FlowFrame) (class : ℕ) → IsPut c d class → c ≡ clash_frame → d ≡ clash_frame
clash-put c d class h e =
    same-frame d clash_frame
    (h.locals ∙ ap (λ z. z.locals) e)
    (h.stack ∙ ap (λ z. slice_set z.stack 0 (Class class)) e)
    (h.fresh ∙ ap (λ z. z.fresh) e)
    (h.clash ∙ ap (λ z. z.clash) e)

-- with the class it is what the handler takes
pub put-gives : (p : Program) (m : Method) (at to class : ℕ) (f c d : FlowFrame) → IsCatcher f c → IsPut c d class → d ≡ given p m at f (Caught to class)
put-gives p m at to class f c d h g =
    elim (split-on f.clash _ _ h) [
      | inl k ↦ clash-put c d class g (k.1) ∙ sym (given-clash p m at f (Caught to class) (k.0))
      | inr k ↦
          same-frame d (frame_of f.locals (Class class ∷ []) f.fresh)
          (g.locals ∙ (k.1.1)) (g.stack ∙ one-set c.stack (Class class) (k.1.3)) (g.fresh ∙ (k.1.2)) (g.clash ∙ (k.1.0))
          ∙ sym (given-open p m at f (Caught to class) (k.0))
    ]

-- and is a catcher still
pub put-stays : (class : ℕ) (f c d : FlowFrame) → IsCatcher f c → IsPut c d class → IsCatcher f d
put-stays class f c d h g =
    elim (split-on f.clash _ _ h) [
      | inl k ↦ put-then f.clash _ _ (k.0) (clash-put c d class g (k.1))
      | inr k ↦ put-else f.clash _ _ (k.0) (g.clash ∙ (k.1.0), g.locals ∙ (k.1.1), g.fresh ∙ (k.1.2), ap length (g.stack ∙ one-set c.stack (Class class) (k.1.3)))
    ]

-- ---- visits

pub on_both : {T E : Type 0} (r : Result T E) (P Q R : Type 0) → OnOk r P → OnOk r Q → (P → Q → R) → OnOk r R
on_both (Ok x) P Q R h g f = f h g
on_both (Err e) P Q R h g f = tt

pub alike-frames : (supers : List (Option ℕ)) (room : Room) (g : FlowFrame) (o : Option FlowFrame) → IsFrame supers room g → ((f : FlowFrame) → o ≡ Some f → IsFrame supers room f) → IsAlike g o
alike-frames supers room g None x h = tt
alike-frames supers room g (Some f) x h = λ p q.
    elim (frame-kind supers room g x) [
      | inl k ↦ let z : g.clash ≡ true = ap (λ z. z.clash) k in absurd cc
      | inr k ↦ elim (frame-kind supers room f (h f refl)) [
        | inl j ↦ let z : f.clash ≡ true = ap (λ z. z.clash) j in absurd cc
        | inr j ↦ let a = j.1 in let b = k.1 in a.count ∙ sym b.count
      ]
    ]

-- the place at a place of a list
pub place-at : (xs ys : List ℕ) (k d : ℕ) → ys ≡ xs → k < length xs → slice_get xs k ≡ Some (get_or ys k d)
place-at xs ys k d q l = slice_get-get_or xs k d l ∙ ap (λ z. Some (get_or z k d)) (sym q)

module _ (p : Program) (tree : IsTree (superclasses p)) (m : Method) (im : IsMethod p m) where
  pub visit-start : (at : ℕ) (f : FlowFrame) (v : Visit) (s : Rising) → v.at ≡ at → IsFlowing p m f v → frame_at s.frames at ≡ Some f → IsMarked s → IsCatching p m s.frames s.catches → IsTakenOff p m at (ways_caught p m at) s.frames s.todo → IsVisiting p m v 0 s
  visit-start at f v s e w i k c g =
      let n : ways_caught p m at + 0 ≡ ways_caught p m at = omega arith in record {
        frame = f;
        flowing = w;
        partly = subst (λ z. IsPartly p m z f (ways_caught p m z + 0) s.frames s.todo) (sym e) (subst (λ z. IsPartly p m at f z s.frames s.todo) (sym n) (partly-start p tree m im at (ways_caught p m at) f s.frames s.todo g i));
        marked = k;
        catching = c;
      }

  way-of : (v : Visit) (k to : ℕ) (s : Rising) → IsVisiting p m v k s → slice_get v.to k ≡ Some to → slice_get (edges p m v.at) (ways_caught p m v.at + k) ≡ Some (Next to)
  way-of v k to s h i = let w = h.flowing in next_way p m v.at k to (subst (λ z. slice_get z k ≡ Some to) w.to i)

  -- where a way leads there is a place
  pub visit-target : (v : Visit) (k to : ℕ) (s : Rising) → IsVisiting p m v k s → slice_get v.to k ≡ Some to → to < length s.frames
  visit-target v k to s h i = edge-target p tree m im v.at (ways_caught p m v.at + k) h.frame (Next to) s.frames s.todo h.partly (way-of v k to s h i)

  next-is : (v : Visit) (k to : ℕ) (s : Rising) → (h : IsVisiting p m v k s) → v.next ≡ given p m v.at h.frame (Next to)
  next-is v k to s h = let w = h.flowing in w.next to

  -- with a frame like the one that flows there
  pub next-alike : (v : Visit) (k to : ℕ) (s : Rising) → IsVisiting p m v k s → slice_get v.to k ≡ Some to → IsAlike v.next (frame_at s.frames to)
  next-alike v k to s h i =
      let w = h.partly in
      let u = w.under in
      let a = u.assignment in
      subst (λ z. IsAlike z (frame_at s.frames to)) (sym (next-is v k to s h))
      (alike-frames (superclasses p) (room_of m) (given p m v.at h.frame (Next to)) (frame_at s.frames to) (given-frame p tree m im v.at h.frame (Next to) w.frame (edge-is p tree m im v.at (ways_caught p m v.at + k) (Next to) (way-of v k to s h i))) (a.frames to))

  next-flows : (v : Visit) (k to : ℕ) (s t : Rising) → (h : IsVisiting p m v k s) → Flows (superclasses p) v.next to s.frames s.todo t.frames t.todo → Flows (superclasses p) (given p m v.at h.frame (Next to)) to s.frames s.todo t.frames t.todo
  next-flows v k to s t h w = flows-at (superclasses p) v.next (given p m v.at h.frame (Next to)) to to s.frames t.frames s.todo t.todo (next-is v k to s h) refl w

  -- one way more
  pub next-step : (v : Visit) (k to : ℕ) (s t : Rising) → IsVisiting p m v k s → slice_get v.to k ≡ Some to → Flows (superclasses p) v.next to s.frames s.todo t.frames t.todo → IsMarked t → t.catches ≡ s.catches → IsVisiting p m v (k + 1) t
  next-step v k to s t h i w n c =
      let one : ways_caught p m v.at + k + 1 ≡ ways_caught p m v.at + (k + 1) = omega arith in record {
        frame = h.frame;
        flowing = h.flowing;
        partly = subst (λ z. IsPartly p m v.at h.frame z t.frames t.todo) one (edge-step p tree m im v.at (ways_caught p m v.at + k) h.frame (Next to) s.frames t.frames s.todo t.todo h.partly (way-of v k to s h i) (next-flows v k to s t h w));
        marked = n;
        catching = subst (λ z. IsCatching p m t.frames z) (sym c) (catching_up p tree m im s.frames t.frames s.catches (edge-rise p tree m im v.at (ways_caught p m v.at + k) h.frame (Next to) s.frames t.frames s.todo t.todo h.partly (way-of v k to s h i) (next-flows v k to s t h w)) h.catching);
      }

  -- the potential doesn't rise
  pub next-falls : (v : Visit) (k to : ℕ) (s t : Rising) → IsVisiting p m v k s → slice_get v.to k ≡ Some to → Flows (superclasses p) v.next to s.frames s.todo t.frames t.todo → (w : ℕ → ℕ) → potential p m w t.frames t.todo ≤ potential p m w s.frames s.todo
  next-falls v k to s t h i w =
      edge-falls p tree m im v.at (ways_caught p m v.at + k) h.frame (Next to) s.frames t.frames s.todo t.todo h.partly (way-of v k to s h i) (next-flows v k to s t h w)

  -- once it has gone along all ways
  pub visit-end : (v : Visit) (k : ℕ) (s : Rising) → IsVisiting p m v k s → length v.to ≤ k → IsGoing p m s.frames s.todo
  visit-end v k s h l =
      let w = h.flowing in
      let e : length v.to ≡ length (successors p m v.at) = ap length w.to in
      let n : length (edges p m v.at) ≡ ways_caught p m v.at + length (successors p m v.at) = ways_are p m v.at in
      partly-end p tree m im v.at (ways_caught p m v.at + k) h.frame s.frames s.todo h.partly (omega arith)
