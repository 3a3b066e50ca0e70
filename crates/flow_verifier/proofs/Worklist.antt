-- A list of instructions whose frames rose: the assignment is below every closed one, and closed but for them.
use Rattle.std.proofs.Common.{◌≡◌, ◌∙◌, sym, ap, subst, refl, ℕ, zero, suc, ◌<◌, ◌≤◌, true, List, [], ◌∷◌, ◌++◌, length, slice_get, slice_set, Option, Some, None, ◌⊎◌, inl, inr, arith, Bool, false}
use Rattle.std.proofs.lemmas.Bool.Decides.{eqb_tells}
use Rattle.std.proofs.lemmas.Option.{slice_get_within}
use Rattle.std.proofs.Math.ListN.{replicate, length-replicate}
use Rattle.flow_types.proofs.TreeLaws.{cases_lt}
use Rattle.flow_types.specs.Tree.{superclasses, IsTree}
use Rattle.program_image.specs.Program.{Program}
use Rattle.flow_types.specs.Frames.{frame_fits, IsFrame}
use Rattle.flow_types.specs.declared.flow_frame.FlowFrame.{FlowFrame}
use Rattle.flow_types.proofs.FrameLaws.{frame-refl, frame-trans, frame-antisym, join-left, join-right, join-least, join-frame, open-frame}
use Rattle.flow_verifier.specs.declared.method.Method.{Method}
use Rattle.flow_verifier.specs.declared.method.Edge.{Edge}
use Rattle.flow_verifier.specs.Methods.{ops_of, IsMethod, room_of}
use Rattle.flow_verifier.specs.Given.{given, target, edges}
use Rattle.flow_verifier.proofs.GivenLaws.{given-mono}
use Rattle.instruction_table.specs.LowestRule.{lowest}
use Rattle.flow_verifier.specs.Typing.{frame_at, FitsPlace, FitsThere, entry_frame, IsAssignment, IsClosed, IsLeast, IsTyping, IsBroken}
use Rattle.flow_verifier.specs.Worklist.Going.{In, IsFlagged, Settled, IsGoing, IsPartly, IsTakenOff}
use Rattle.flow_verifier.specs.Worklist.Flowing.{merged, Flows, stays, rises, waits}

in-left : (i : ℕ) (xs ys : List ℕ) → In i xs → In i (xs ++ ys)
in-left i [] ys h = absurd h
in-left i (x ∷ xs) ys (inl h) = inl h
in-left i (x ∷ xs) ys (inr h) = inr (in-left i xs ys h)

in-last : (i : ℕ) (xs : List ℕ) → In i (xs ++ (i ∷ []))
in-last i [] = inl refl
in-last i (x ∷ xs) = inr (in-last i xs)

in-split : (i x : ℕ) (xs : List ℕ) → In i (xs ++ (x ∷ [])) → In i xs ⊎ (i ≡ x)
in-split i x [] (inl h) = inr h
in-split i x [] (inr h) = absurd h
in-split i x (y ∷ ys) (inl h) = inl (inl h)
in-split i x (y ∷ ys) (inr h) = elim (in-split i x ys h) [ inl p ↦ inl (inr p) | inr p ↦ inr p ]

pub get-set-same : (fs : List (Option FlowFrame)) (i : ℕ) (o : Option FlowFrame) → i < length fs → frame_at (slice_set fs i o) i ≡ o
get-set-same [] i o l = absurd (omega arith)
get-set-same (x ∷ xs) zero o l = refl
get-set-same (x ∷ xs) (suc i) o l = get-set-same xs i o (omega arith)

pub get-set-other : (fs : List (Option FlowFrame)) (i j : ℕ) (o : Option FlowFrame) → (j ≡ i → ⊥) → frame_at (slice_set fs i o) j ≡ frame_at fs j
get-set-other [] i j o n = refl
get-set-other (x ∷ xs) zero zero o n = absurd (n refl)
get-set-other (x ∷ xs) zero (suc j) o n = refl
get-set-other (x ∷ xs) (suc i) zero o n = refl
get-set-other (x ∷ xs) (suc i) (suc j) o n = get-set-other xs i j o (λ e. n (ap suc e))

pub has-place : (fs : List (Option FlowFrame)) (i : ℕ) (f : FlowFrame) → frame_at fs i ≡ Some f → i < length fs
has-place [] i f e = absurd cc
has-place (x ∷ xs) zero f e = omega arith
has-place (x ∷ xs) (suc i) f e = let h : i < length xs = has-place xs i f e in omega arith

pub set-length : (fs : List (Option FlowFrame)) (i : ℕ) (o : Option FlowFrame) → length (slice_set fs i o) ≡ length fs
set-length [] i o = refl
set-length (x ∷ xs) zero o = refl
set-length (x ∷ xs) (suc i) o = ap suc (set-length xs i o)

less : (k j : ℕ) → k < suc j → (k ≡ j → ⊥) → k < j
less k j l n = elim (cases_lt k j) [ inl h ↦ h | inr h ↦ absurd (n (omega arith)) ]

flag-other : (qs : List Bool) (i j : ℕ) (b : Bool) → (j ≡ i → ⊥) → slice_get (slice_set qs i b) j ≡ slice_get qs j
flag-other [] i j b n = refl
flag-other (x ∷ xs) zero zero b n = absurd (n refl)
flag-other (x ∷ xs) zero (suc j) b n = refl
flag-other (x ∷ xs) (suc i) zero b n = refl
flag-other (x ∷ xs) (suc i) (suc j) b n = flag-other xs i j b (λ e. n (ap suc e))

pub flag-length : (qs : List Bool) (i : ℕ) (b : Bool) → length (slice_set qs i b) ≡ length qs
flag-length [] i b = refl
flag-length (x ∷ xs) zero b = refl
flag-length (x ∷ xs) (suc i) b = ap suc (flag-length xs i b)

not-both : (qs : List Bool) (i : ℕ) → slice_get (slice_set qs i false) i ≡ Some true → ⊥
not-both [] i e = cc
not-both (x ∷ xs) zero e = cc
not-both (x ∷ xs) (suc i) e = not-both xs i e

all-false : (n i : ℕ) → slice_get (replicate n false) i ≡ Some true → ⊥
all-false zero i e = cc
all-false (suc n) zero e = cc
all-false (suc n) (suc i) e = all-false n i e

-- a flag more, with its place on the list
pub flag-set : (queued : List Bool) (todo : List ℕ) (to : ℕ) → to < length queued → IsFlagged queued todo → IsFlagged (slice_set queued to true) (todo ++ (to ∷ []))
unfolding IsFlagged
flag-set queued todo to l h i e =
    elim (eqb_tells i to) [
      | inl p ↦ rw (p.1) (in-last to todo)
      | inr p ↦ in-left i todo (to ∷ []) (h i (sym (flag-other queued to i true (p.1)) ∙ e))
    ]

-- the flag of what is taken off is cleared
pub flag-clear : (queued : List Bool) (todo : List ℕ) (at : ℕ) → IsFlagged queued (todo ++ (at ∷ [])) → IsFlagged (slice_set queued at false) todo
unfolding IsFlagged
flag-clear queued todo at h i e =
    elim (eqb_tells i at) [
      | inl p ↦ absurd (not-both queued at (subst (λ z. slice_get (slice_set queued at false) z ≡ Some true) (p.1) e))
      | inr p ↦ elim (in-split i at todo (h i (sym (flag-other queued at i false (p.1)) ∙ e))) [ inl q ↦ q | inr q ↦ absurd ((p.1) q) ]
    ]

pub flagged-in : (queued : List Bool) (todo : List ℕ) (i : ℕ) → IsFlagged queued todo → slice_get queued i ≡ Some true → In i todo
unfolding IsFlagged
flagged-in queued todo i h e = h i e

pub none-flagged : (queued : List Bool) (n : ℕ) (todo : List ℕ) → queued ≡ replicate n false → IsFlagged queued todo
unfolding IsFlagged
none-flagged queued n todo e i h = absurd (all-false n i (subst (λ z. slice_get z i ≡ Some true) e h))

module _ (program : Program) (tree : IsTree (superclasses program)) (m : Method) (im : IsMethod program m) where
  pub fit-up : (f g : FlowFrame) (o : Option FlowFrame) → frame_fits (superclasses program) f g ≡ true → FitsPlace (superclasses program) g o → FitsPlace (superclasses program) f o
  fit-up f g None h p = p
  fit-up f g (Some x) h p = frame-trans (superclasses program) tree (room_of m) f g x h p

  pub place-up : (f : FlowFrame) (o p : Option FlowFrame) → FitsPlace (superclasses program) f o → FitsThere (superclasses program) o p → FitsPlace (superclasses program) f p
  place-up f None p h g = absurd h
  place-up f (Some x) p h g = fit-up f x p h g

  there-refl : (o : Option FlowFrame) → FitsThere (superclasses program) o o
  there-refl None = tt
  there-refl (Some x) = frame-refl (superclasses program) tree (room_of m) x

  -- what is merged: a frame above both, and below all above both
  pub merged-frame : (o : Option FlowFrame) (g : FlowFrame) → ((f : FlowFrame) → o ≡ Some f → IsFrame (superclasses program) (room_of m) f) → IsFrame (superclasses program) (room_of m) g → IsFrame (superclasses program) (room_of m) (merged (superclasses program) o g)
  merged-frame None g h x = x
  merged-frame (Some f) g h x = join-frame (superclasses program) tree (room_of m) f g (h f refl) x

  pub merged-left : (o : Option FlowFrame) (g : FlowFrame) → ((f : FlowFrame) → o ≡ Some f → IsFrame (superclasses program) (room_of m) f) → IsFrame (superclasses program) (room_of m) g → FitsThere (superclasses program) o (Some (merged (superclasses program) o g))
  merged-left None g h x = tt
  merged-left (Some f) g h x = join-left (superclasses program) tree (room_of m) f g (h f refl) x

  pub merged-right : (o : Option FlowFrame) (g : FlowFrame) → ((f : FlowFrame) → o ≡ Some f → IsFrame (superclasses program) (room_of m) f) → IsFrame (superclasses program) (room_of m) g → frame_fits (superclasses program) g (merged (superclasses program) o g) ≡ true
  merged-right None g h x = frame-refl (superclasses program) tree (room_of m) g
  merged-right (Some f) g h x = join-right (superclasses program) tree (room_of m) f g (h f refl) x

  pub merged-least : (o : Option FlowFrame) (g : FlowFrame) (p : Option FlowFrame) → ((f : FlowFrame) → p ≡ Some f → IsFrame (superclasses program) (room_of m) f) → FitsThere (superclasses program) o p → FitsPlace (superclasses program) g p → FitsPlace (superclasses program) (merged (superclasses program) o g) p
  merged-least o g None h a b = absurd b
  merged-least None g (Some u) h a b = b
  merged-least (Some f) g (Some u) h a b = join-least (superclasses program) tree (room_of m) f g u (h u refl) a b

  -- a frame that takes no other isn't the two merged
  pub merged-new : (o : Option FlowFrame) (g : FlowFrame) → ((f : FlowFrame) → o ≡ Some f → IsFrame (superclasses program) (room_of m) f) → IsFrame (superclasses program) (room_of m) g → (FitsPlace (superclasses program) g o → ⊥) → o ≡ Some (merged (superclasses program) o g) → ⊥
  merged-new o g h x n e = n (subst (λ z. FitsPlace (superclasses program) g z) (sym e) (merged-right o g h x))

  -- one flow: frames only rise
  pub record IsFlow (g : FlowFrame) (to : ℕ) (fs : List (Option FlowFrame)) (todo : List ℕ) (gs : List (Option FlowFrame)) (more : List ℕ) : Type 0 where
    pub long : length gs ≡ length fs
    pub rise : (i : ℕ) → FitsThere (superclasses program) (frame_at fs i) (frame_at gs i)
    pub there : FitsPlace (superclasses program) g (frame_at gs to)
    pub frames : (i : ℕ) (f : FlowFrame) → frame_at gs i ≡ Some f → IsFrame (superclasses program) (room_of m) f
    pub least : (hs : List (Option FlowFrame)) → IsAssignment program m hs → ((i : ℕ) → FitsThere (superclasses program) (frame_at fs i) (frame_at hs i)) → FitsPlace (superclasses program) g (frame_at hs to) → (i : ℕ) → FitsThere (superclasses program) (frame_at gs i) (frame_at hs i)
    pub kept : (i : ℕ) → In i todo → In i more
    pub same : (i : ℕ) → In i more ⊎ (frame_at gs i ≡ frame_at fs i)

  rose : (g : FlowFrame) (to : ℕ) (fs : List (Option FlowFrame)) (todo : List ℕ) (gs : List (Option FlowFrame)) (more : List ℕ) → to < length fs → IsAssignment program m fs → IsFrame (superclasses program) (room_of m) g → gs ≡ slice_set fs to (Some (merged (superclasses program) (frame_at fs to) g)) → ((i : ℕ) → In i todo → In i more) → In to more → IsFlow g to fs todo gs more
  rose g to fs todo gs more l a x e keep last =
      let n : FlowFrame = merged (superclasses program) (frame_at fs to) g in
      let at_to : frame_at (slice_set fs to (Some n)) to ≡ Some n = get-set-same fs to (Some n) l in
      subst (λ z. IsFlow g to fs todo z more) (sym e) (record {
        long = set-length fs to (Some n);
        rise = λ i. elim (eqb_tells i to) [
          | inl p ↦ rw (p.1, at_to) (merged-left (frame_at fs to) g (a.frames to) x)
          | inr p ↦ rw (get-set-other fs to i (Some n) (p.1)) (there-refl (frame_at fs i))
        ];
        there = rw at_to (merged-right (frame_at fs to) g (a.frames to) x);
        frames = λ i u q. elim (eqb_tells i to) [
          | inl p ↦ let r : Some n ≡ Some u = sym at_to ∙ subst (λ z. frame_at (slice_set fs to (Some n)) z ≡ Some u) (p.1) q in
              let t : n ≡ u = cc in subst (λ z. IsFrame (superclasses program) (room_of m) z) t (merged-frame (frame_at fs to) g (a.frames to) x)
          | inr p ↦ a.frames i u (sym (get-set-other fs to i (Some n) (p.1)) ∙ q)
        ];
        least = λ hs b h c i. elim (eqb_tells i to) [
          | inl p ↦ rw (p.1, at_to) (merged-least (frame_at fs to) g (frame_at hs to) (b.frames to) (h to) c)
          | inr p ↦ rw (get-set-other fs to i (Some n) (p.1)) (h i)
        ];
        kept = keep;
        same = λ i. elim (eqb_tells i to) [
          | inl p ↦ inl (rw (p.1) last)
          | inr p ↦ inr (get-set-other fs to i (Some n) (p.1))
        ];
      })

  pub flow : (g : FlowFrame) (to : ℕ) (fs : List (Option FlowFrame)) (todo : List ℕ) (gs : List (Option FlowFrame)) (more : List ℕ) → to < length fs → IsAssignment program m fs → IsFrame (superclasses program) (room_of m) g → Flows (superclasses program) g to fs todo gs more → IsFlow g to fs todo gs more
  flow g to fs todo gs more l a x (stays s e f) =
      subst (λ z. IsFlow g to fs todo z more) (sym e) (subst (λ z. IsFlow g to fs todo fs z) (sym f) (record {
        long = refl;
        rise = λ i. there-refl (frame_at fs i);
        there = s;
        frames = a.frames;
        least = λ hs b h c. h;
        kept = λ i h. h;
        same = λ i. inr refl;
      }))
  flow g to fs todo gs more l a x (rises s e f) =
      rose g to fs todo gs more l a x e (λ i h. subst (λ z. In i z) (sym f) (in-left i todo (to ∷ []) h)) (subst (λ z. In to z) (sym f) (in-last to todo))
  flow g to fs todo gs more l a x (waits s e f h) =
      rose g to fs todo gs more l a x e (λ i k. subst (λ z. In i z) (sym f) k) (subst (λ z. In to z) (sym f) h)

  -- what an instruction below a closed assignment gives is below it
  pub given-below : (at j : ℕ) (f : FlowFrame) (e : Edge) (hs : List (Option FlowFrame)) → IsFrame (superclasses program) (room_of m) f → IsClosed program m hs → slice_get (edges program m at) j ≡ Some e → (o : Option FlowFrame) → frame_at hs at ≡ o → FitsPlace (superclasses program) f o → FitsPlace (superclasses program) (given program m at f e) (frame_at hs (target e))
  given-below at j f e hs x c i None q h = absurd h
  given-below at j f e hs x c i (Some u) q h =
      fit-up (given program m at f e) (given program m at u e) (frame_at hs (target e)) (given-mono program tree m im at f u e x (c.assignment.frames at u q) h) (c.each at j u e q i)

  -- a place is taken off the list
  pub off-start : (at : ℕ) (fs : List (Option FlowFrame)) (todo : List ℕ) → IsGoing program m fs (todo ++ (at ∷ [])) → IsTakenOff program m at 0 fs todo
  off-start at fs todo g = record {
    under = g.under;
    others = λ i n. elim (g.rest i) [
      | inl h ↦ elim (in-split i at todo h) [ inl p ↦ inl p | inr p ↦ absurd (n p) ]
      | inr h ↦ inr h
    ];
    own = inr (λ k f e' l i h. absurd (omega arith));
  }

  pub partly-start : (at j : ℕ) (f : FlowFrame) (fs : List (Option FlowFrame)) (todo : List ℕ) → IsTakenOff program m at j fs todo → frame_at fs at ≡ Some f → IsPartly program m at f j fs todo
  partly-start at j f fs todo g e = record {
    under = g.under;
    frame = g.under.assignment.frames at f e;
    base = rw e (frame-refl (superclasses program) tree (room_of m) f);
    others = g.others;
    own = elim g.own [ inl h ↦ inl h | inr h ↦ inr (e, λ k e' l i. h k f e' l e i) ];
  }

  pub partly-off : (at j : ℕ) (f : FlowFrame) (fs : List (Option FlowFrame)) (todo : List ℕ) → IsPartly program m at f j fs todo → IsTakenOff program m at j fs todo
  partly-off at j f fs todo p = record {
    under = p.under;
    others = p.others;
    own = elim p.own [
      | inl h ↦ inl h
      | inr h ↦ inr (λ k g e l r s.
          let t : Some g ≡ Some f = sym r ∙ h.0 in let u : f ≡ g = cc in
          subst (λ z. FitsPlace (superclasses program) (given program m at z e) (frame_at fs (target e))) u ((h.1) k e l s))
    ];
  }

  -- a place without a frame gives nothing
  pub skip : (at j : ℕ) (fs : List (Option FlowFrame)) (todo : List ℕ) → IsTakenOff program m at j fs todo → frame_at fs at ≡ None → IsGoing program m fs todo
  skip at j fs todo g e = record {
    under = g.under;
    rest = λ i. elim (eqb_tells i at) [
      | inl p ↦ inr (λ k f e' q r. let s : frame_at fs at ≡ Some f = subst (λ z. frame_at fs z ≡ Some f) (p.1) q in absurd cc)
      | inr p ↦ g.others i (p.1)
    ];
  }

  settled-up : (i : ℕ) (fs gs : List (Option FlowFrame)) → ((j : ℕ) → FitsThere (superclasses program) (frame_at fs j) (frame_at gs j)) → frame_at gs i ≡ frame_at fs i → Settled program m fs i → Settled program m gs i
  settled-up i fs gs rise e s k f e' p q = place-up _ (frame_at fs (target e')) _ (s k f e' (sym e ∙ p) q) (rise (target e'))

  -- a flow of what every closed assignment takes
  pub partly-flow : (at j to : ℕ) (f g : FlowFrame) (fs gs : List (Option FlowFrame)) (todo more : List ℕ) → IsPartly program m at f j fs todo → ((hs : List (Option FlowFrame)) → IsClosed program m hs → FitsPlace (superclasses program) g (frame_at hs to)) → IsFlow g to fs todo gs more → IsPartly program m at f j gs more
  partly-flow at j to f g fs gs todo more p b w = record {
    under = record {
      assignment = record { long = w.long ∙ p.under.assignment.long; frames = w.frames };
      entry = place-up _ (frame_at fs 0) _ p.under.entry (w.rise 0);
      below = λ hs c. w.least hs c.assignment (p.under.below hs c) (b hs c);
    };
    frame = p.frame;
    base = place-up f (frame_at fs at) _ p.base (w.rise at);
    others = λ k n. elim (p.others k n) [
      | inl h ↦ inl (w.kept k h)
      | inr h ↦ elim (w.same k) [ inl q ↦ inl q | inr q ↦ inr (settled-up k fs gs w.rise q h) ]
    ];
    own = elim p.own [
      | inl h ↦ inl (w.kept at h)
      | inr h ↦ elim (w.same at) [
        | inl q ↦ inl q
        | inr q ↦ inr (q ∙ h.0, λ k e' l r. place-up _ (frame_at fs (target e')) _ ((h.1) k e' l r) (w.rise (target e')))
      ]
    ];
  }

  -- what it gives along the first n ways fits
  pub partly-all : (at j n : ℕ) (f : FlowFrame) (fs : List (Option FlowFrame)) (todo : List ℕ) → IsPartly program m at f j fs todo → ((k : ℕ) (e : Edge) → k < n → slice_get (edges program m at) k ≡ Some e → FitsPlace (superclasses program) (given program m at f e) (frame_at fs (target e))) → IsPartly program m at f n fs todo
  partly-all at j n f fs todo p w = record {
    under = p.under;
    frame = p.frame;
    base = p.base;
    others = p.others;
    own = elim p.own [ inl h ↦ inl h | inr h ↦ inr (h.0, w) ];
  }

  -- one way more
  partly-more : (at j : ℕ) (f : FlowFrame) (e : Edge) (fs : List (Option FlowFrame)) (todo : List ℕ) → IsPartly program m at f j fs todo → slice_get (edges program m at) j ≡ Some e → FitsPlace (superclasses program) (given program m at f e) (frame_at fs (target e)) → IsPartly program m at f (suc j) fs todo
  partly-more at j f e fs todo p i w = record {
    under = p.under;
    frame = p.frame;
    base = p.base;
    others = p.others;
    own = elim p.own [
      | inl h ↦ inl h
      | inr h ↦ inr (
        h.0,
        λ k e' l r. elim (eqb_tells k j) [
          | inl s ↦ let t : Some e' ≡ Some e = sym r ∙ subst (λ z. slice_get (edges program m at) z ≡ Some e) (sym (s.1)) i in
              let u : e ≡ e' = cc in
              subst (λ z. FitsPlace (superclasses program) (given program m at f z) (frame_at fs (target z))) u w
          | inr s ↦ (h.1) k e' (less k j l (s.1)) r
        ],
      )
    ];
  }

  pub partly-step : (at j : ℕ) (f : FlowFrame) (e : Edge) (fs gs : List (Option FlowFrame)) (todo more : List ℕ) → IsPartly program m at f j fs todo → slice_get (edges program m at) j ≡ Some e → IsFlow (given program m at f e) (target e) fs todo gs more → IsPartly program m at f (suc j) gs more
  partly-step at j f e fs gs todo more p i w =
      partly-more at j f e gs more
      (partly-flow at j (target e) f (given program m at f e) fs gs todo more p
      (λ hs c. given-below at j f e hs p.frame c i (frame_at hs at) refl (place-up f (frame_at fs at) _ p.base (p.under.below hs c at))) w)
      i w.there

  pub partly-end : (at j : ℕ) (f : FlowFrame) (fs : List (Option FlowFrame)) (todo : List ℕ) → IsPartly program m at f j fs todo → length (edges program m at) ≤ j → IsGoing program m fs todo
  partly-end at j f fs todo p l = record {
    under = p.under;
    rest = λ i. elim (eqb_tells i at) [
      | inl q ↦ elim p.own [
        | inl h ↦ inl (rw (q.1) h)
        | inr h ↦ inr (rw (q.1) (λ k g e r s.
            let t : Some g ≡ Some f = sym r ∙ h.0 in let u : f ≡ g = cc in
            let v : k < length (edges program m at) = slice_get_within (edges program m at) k e s in
            subst (λ z. FitsPlace (superclasses program) (given program m at z e) (frame_at fs (target e))) u ((h.1) k e (omega arith) s)))
      ]
      | inr q ↦ p.others i (q.1)
    ];
  }

  pub going-end : (fs : List (Option FlowFrame)) → IsGoing program m fs [] → IsLeast program m fs
  going-end fs g = record {
    closed = record {
      assignment = g.under.assignment;
      entry = g.under.entry;
      each = λ i k f e p q. elim (g.rest i) [ inl h ↦ absurd h | inr h ↦ h k f e p q ];
    };
    least = g.under.below;
  }

  pub none-at : (n i : ℕ) → frame_at (replicate n None) i ≡ None
  none-at zero i = refl
  none-at (suc n) zero = refl
  none-at (suc n) (suc i) = none-at n i

  pub start-frame : IsFrame (superclasses program) (room_of m) (entry_frame m)
  start-frame = open-frame (superclasses program) (room_of m) (entry_frame m) refl (record { count = refl; deep = omega arith; locals = im.entry; stack = tt; operands = tt })

  pub going-start : (fs : List (Option FlowFrame)) → fs ≡ slice_set (replicate (length (ops_of program m.number)) None) 0 (Some (entry_frame m)) → IsGoing program m fs (0 ∷ [])
  going-start fs e =
      let blank : List (Option FlowFrame) = replicate (length (ops_of program m.number)) None in
      let few : length blank ≡ length (ops_of program m.number) = length-replicate (length (ops_of program m.number)) None in
      let pos : 0 < length (ops_of program m.number) = im.some in
      let first : frame_at (slice_set blank 0 (Some (entry_frame m))) 0 ≡ Some (entry_frame m) = get-set-same blank 0 (Some (entry_frame m)) (omega arith) in
      let later : (i : ℕ) → (i ≡ 0 → ⊥) → frame_at (slice_set blank 0 (Some (entry_frame m))) i ≡ None = λ i n. get-set-other blank 0 i (Some (entry_frame m)) n ∙ none-at (length (ops_of program m.number)) i in
      subst (λ z. IsGoing program m z (0 ∷ [])) (sym e) (record {
        under = record {
          assignment = record {
            long = set-length blank 0 (Some (entry_frame m)) ∙ few;
            frames = λ i f p. elim (eqb_tells i 0) [
              | inl q ↦ let r : Some (entry_frame m) ≡ Some f = sym first ∙ subst (λ z. frame_at (slice_set blank 0 (Some (entry_frame m))) z ≡ Some f) (q.1) p in
                  let s : entry_frame m ≡ f = cc in subst (λ z. IsFrame (superclasses program) (room_of m) z) s start-frame
              | inr q ↦ let r : None ≡ Some f = sym (later i (q.1)) ∙ p in absurd cc
            ];
          };
          entry = rw first (frame-refl (superclasses program) tree (room_of m) (entry_frame m));
          below = λ gs c i. elim (eqb_tells i 0) [
            | inl q ↦ rw (q.1, first) c.entry
            | inr q ↦ rw (later i (q.1)) tt
          ];
        };
        rest = λ i. elim (eqb_tells i 0) [
          | inl q ↦ inl (inl (q.1))
          | inr q ↦ inr (λ k f e' p r. let s : None ≡ Some f = sym (later i (q.1)) ∙ p in absurd cc)
        ];
      })

  same-place : (o p : Option FlowFrame) → ((f : FlowFrame) → o ≡ Some f → IsFrame (superclasses program) (room_of m) f) → ((f : FlowFrame) → p ≡ Some f → IsFrame (superclasses program) (room_of m) f) → FitsThere (superclasses program) o p → FitsThere (superclasses program) p o → o ≡ p
  same-place None None a b h g = refl
  same-place None (Some x) a b h g = absurd g
  same-place (Some x) None a b h g = absurd h
  same-place (Some x) (Some y) a b h g = ap Some (frame-antisym (superclasses program) tree (room_of m) x y (a x refl) (b y refl) h g)

  -- there is one least closed assignment
  pub one-least : (fs gs : List (Option FlowFrame)) → IsLeast program m fs → IsLeast program m gs → (i : ℕ) → frame_at fs i ≡ frame_at gs i
  one-least fs gs a b i = same-place (frame_at fs i) (frame_at gs i) (a.closed.assignment.frames i) (b.closed.assignment.frames i) (a.least gs b.closed i) (b.least fs a.closed i)

  -- where the least closed assignment breaks a rule there is no typing
  pub no-typing : (rule at : ℕ) (fs gs : List (Option FlowFrame)) → IsBroken program m rule at fs → IsTyping program m gs → ⊥
  no-typing rule at fs gs b t =
      let (f, p, q) = b.here in
      let r : frame_at gs b.place ≡ Some f = sym (one-least fs gs b.least t.least b.place) ∙ p in
      let n : None ≡ Some rule = sym (ap lowest (t.keeps b.place f r)) ∙ q in absurd cc
