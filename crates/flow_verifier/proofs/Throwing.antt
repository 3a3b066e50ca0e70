-- What is thrown to the handlers of a place, one after another.
use Rattle.std.proofs.Common.{◌≡◌, ◌∙◌, sym, ap, subst, refl, ℕ, zero, suc, ◌+◌, ◌<◌, ◌≤◌, Bool, true, List, [], ◌∷◌, ◌++◌, length, slice_get, slice_set, Option, Some, None, inl, inr, arith}
use Rattle.std.specs.Prelude.{get_or}
use Rattle.std.specs.List.{list_any}
use Rattle.std.proofs.Math.ListN.{length-replicate}
use Rattle.std.proofs.lemmas.Bool.Decides.{eqb_tells}
use Rattle.std.proofs.lemmas.Option.{slice_get-get_or, slice_get_within}
use Rattle.code_table.specs.declared.code.Placed.{Placed}
use Rattle.program_image.specs.Program.{Program}
use Rattle.flow_types.specs.Tree.{superclasses, IsTree}
use Rattle.flow_types.specs.Frames.{IsFrame}
use Rattle.flow_types.specs.declared.flow_frame.FlowFrame.{FlowFrame}
use Rattle.flow_types.proofs.TreeLaws.{cases_lt}
use Rattle.flow_types.proofs.FrameLaws.{frame-refl}
use Rattle.flow_verifier.specs.declared.catches.Catch.{Catch}
use Rattle.flow_verifier.specs.declared.catches.Catches.{Catches}
use Rattle.flow_verifier.specs.declared.method.Edge.{Edge}
use Rattle.flow_verifier.specs.declared.method.Handler.{Handler}
use Rattle.flow_verifier.specs.declared.method.Method.{Method}
use Rattle.flow_verifier.specs.declared.rising.Rising.{Rising}
use Rattle.flow_verifier.specs.Methods.{ops_of, room_of, IsMethod}
use Rattle.flow_verifier.specs.Given.{covers, given, target, catching, edges}
use Rattle.flow_verifier.specs.Typing.{frame_at, FitsPlace, FitsThere}
use Rattle.flow_verifier.specs.Worklist.Flowing.{Flows, IsAlike, IsMore}
use Rattle.flow_verifier.specs.Worklist.Ranges.{covers_place, range_at}
use Rattle.flow_verifier.specs.Worklist.Leading.{ways_caught}
use Rattle.flow_verifier.specs.Worklist.Catching.{without_operands, AreCovering, TakenAt, AreTaken, IsCatching, IsUncaught}
use Rattle.flow_verifier.specs.Worklist.Going.{IsGoing, IsPartly, IsTakenOff, IsMarked, IsCatcher, IsPut, IsThrowing}
use Rattle.flow_verifier.specs.Worklist.Potential.{potential}
use Rattle.flow_verifier.proofs.GivenLaws.{given-frame}
use Rattle.flow_verifier.proofs.Worklist.{IsFlow, has-place, get-set-same, get-set-other, set-length, place-up, flow, none-at, off-start, partly-start, partly-off, partly-flow, partly-all}
use Rattle.flow_verifier.proofs.PotentialLaws.{flow-falls}
use Rattle.flow_verifier.proofs.Leads.{caught_way}
use Rattle.flow_verifier.proofs.CatchLaws.{bare_frame, thrown_anywhere, thrown_mono, own_below, catching_up, more_frame, more_bare, more_above, more_below}
use Rattle.flow_verifier.proofs.Ways.{flows-at}
use Rattle.flow_verifier.proofs.Visits.{put-gives, put-stays, alike-frames}

less : (k j : ℕ) → k < j + 1 → (k ≡ j → ⊥) → k < j
less k j l n = elim (cases_lt k j) [ inl h ↦ h | inr h ↦ absurd (n (omega arith)) ]

covered_within : (ops : List Placed) (i : ℕ) (h : Handler) → covers_place ops i h ≡ true → i < length ops
covered_within [] i h e = absurd cc
covered_within (o ∷ ops) zero h e = omega arith
covered_within (o ∷ ops) (suc i) h e = let l : i < length ops = covered_within ops i h e in omega arith

pub same_handler : (hs : List Handler) (k q : ℕ) (h g : Handler) → q ≡ k → slice_get hs k ≡ Some h → slice_get hs q ≡ Some g → h ≡ g
same_handler hs k q h g e i j = let t : Some h ≡ Some g = sym i ∙ (ap (slice_get hs) (sym e) ∙ j) in cc

abbrev pub with_thrown : Catch → FlowFrame → Catch
with_thrown v d = record { at = v.at; caught = v.caught; thrown = d; handlers = v.handlers }

-- what ranges have caught, once one has caught this
abbrev pub with_caught : Catches → ℕ → FlowFrame → Catches
with_caught s at c = record { ranges = s.ranges; frames = slice_set s.frames (range_at s.ranges at) (Some c) }

abbrev pub no_handler : Handler
no_handler = record { start = 0; until = 0; to = 0; class = 0 }

-- the handler at a place of the list
pub handler_at : (hs xs : List Handler) (k : ℕ) → xs ≡ hs → k < length hs → slice_get hs k ≡ Some (get_or xs k no_handler)
handler_at hs xs k e l = slice_get-get_or hs k no_handler l ∙ ap (λ z. Some (get_or z k no_handler)) (sym e)

pub no_frame : (o : Option FlowFrame) (f : FlowFrame) → o ≡ None → o ≡ Some f → ⊥
no_frame o f e i = let q : None ≡ Some f = sym e ∙ i in absurd cc

module _ (p : Program) (tree : IsTree (superclasses p)) (m : Method) (im : IsMethod p m) where
  -- no range has caught anything
  pub none_caught : (fs : List (Option FlowFrame)) (s : Catches) → IsUncaught p m s → IsCatching p m fs s
  none_caught fs s u =
      let none : (r : ℕ) (c : FlowFrame) → frame_at s.frames r ≡ Some c → ⊥ = λ r c e.
      (let f : None ≡ Some c = sym (none-at p tree m im s.ranges.count r) ∙ subst (λ z. frame_at z r ≡ Some c) u.frames e in cc) in record {
        ranges = u.ranges;
        long = ap length u.frames ∙ length-replicate s.ranges.count None;
        frames = λ r c e. absurd (none r c e);
        taken = λ i c e. absurd (none (range_at s.ranges i) c e);
        below = λ gs z i c e. absurd (none (range_at s.ranges i) c e);
      }

  -- each place has what its range has caught
  pub kept_range : (fs : List (Option FlowFrame)) (s : Catches) (at : ℕ) → IsCatching p m fs s → at < length (ops_of p m.number) → range_at s.ranges at < length s.frames
  kept_range fs s at x l =
      let ranges = x.ranges in
      let a : range_at s.ranges at < s.ranges.count = ranges.within at l in
      let b : length s.frames ≡ s.ranges.count = x.long in omega arith

  pub kept_catches : (fs : List (Option FlowFrame)) (s t : Catches) (at : ℕ) (c d : FlowFrame) → t.ranges ≡ s.ranges → t.frames ≡ slice_set s.frames (range_at s.ranges at) (Some d) → d ≡ c → IsCatching p m fs (with_caught s at c) → IsCatching p m fs t
  kept_catches fs s t at c d e f g h =
      subst (λ z. IsCatching p m fs (record { ranges = z; frames = t.frames })) (sym e)
      (subst (λ z. IsCatching p m fs (record { ranges = s.ranges; frames = z })) (sym (f ∙ ap (λ z. slice_set s.frames (range_at s.ranges at) (Some z)) g)) h)

  -- ---- before the first handler

  pub bare_alike : (at : ℕ) (f : FlowFrame) (fs : List (Option FlowFrame)) (todo : List ℕ) (s : Catches) (o : Option FlowFrame) → IsCatching p m fs s → IsGoing p m fs todo → frame_at fs at ≡ Some f → o ≡ frame_at s.frames (range_at s.ranges at) → IsAlike (without_operands f) o
  bare_alike at f fs todo s o x g e q =
      subst (λ z. IsAlike (without_operands f) z) (sym q)
      (alike-frames (superclasses p) (room_of m) (without_operands f) (frame_at s.frames (range_at s.ranges at)) (bare_frame (superclasses p) (room_of m) f (g.under.assignment.frames at f e)) (λ c i. (x.frames (range_at s.ranges at) c i).0))

  -- the handlers have taken what the range catches
  pub taken_off : (at : ℕ) (f : FlowFrame) (fs : List (Option FlowFrame)) (todo : List ℕ) (s : Catches) → IsCatching p m fs s → IsGoing p m fs (todo ++ (at ∷ [])) → frame_at fs at ≡ Some f → FitsPlace (superclasses p) (without_operands f) (frame_at s.frames (range_at s.ranges at)) → IsTakenOff p m at (ways_caught p m at) fs todo
  taken_off at f fs todo s x g e w =
      let first : IsPartly p m at f 0 fs todo = partly-start p tree m im at 0 f fs todo (off-start p tree m im at fs todo g) e in
      partly-off p tree m im at (ways_caught p m at) f fs todo
      (partly-all p tree m im at 0 (ways_caught p m at) f fs todo first
      (λ k a l i. let h = caught_way p m at k a l i in
      subst (λ z. FitsPlace (superclasses p) (given p m at f z) (frame_at fs (target z))) (sym h.leads)
      (taken (frame_at s.frames (range_at s.ranges at)) refl w h.place h.handler h.is_there h.passes)))
    where
      taken : (o : Option FlowFrame) → frame_at s.frames (range_at s.ranges at) ≡ o → FitsPlace (superclasses p) (without_operands f) o → (k : ℕ) (h : Handler) → slice_get m.handlers k ≡ Some h → covers_place (ops_of p m.number) at h ≡ true → FitsPlace (superclasses p) (given p m at f (catching h)) (frame_at fs h.to)
      taken None q n k h i t = absurd n
      taken (Some c) q n k h i t = thrown_mono p tree m im at at f c h (frame_at fs h.to) (g.under.assignment.frames at f e) ((x.frames (range_at s.ranges at) c q).0) n (x.taken at c q k h (slice_get_within m.handlers k h i) i t)

  -- a place with a frame has an instruction
  pub placed_at : (at : ℕ) (f : FlowFrame) (fs : List (Option FlowFrame)) (todo : List ℕ) → IsGoing p m fs todo → frame_at fs at ≡ Some f → at < length (ops_of p m.number)
  placed_at at f fs todo g e =
      let l : at < length fs = has-place fs at f e in
      let n : length fs ≡ length (ops_of p m.number) = g.under.assignment.long in omega arith

  -- a place without a frame throws nothing
  pub nothing_off : (at : ℕ) (fs : List (Option FlowFrame)) (todo : List ℕ) → IsGoing p m fs (todo ++ (at ∷ [])) → ((f : FlowFrame) (k : ℕ) (e : Edge) → frame_at fs at ≡ Some f → slice_get (edges p m at) k ≡ Some e → ⊥) → IsTakenOff p m at (ways_caught p m at) fs todo
  nothing_off at fs todo g n =
      let o = off-start p tree m im at fs todo g in record {
        under = o.under;
        others = o.others;
        own = inr (λ k f e l i j. absurd (n f k e i j));
      }

  pub throw_start : (at address : ℕ) (o : Placed) (f : FlowFrame) (v : Catch) (s : Rising) → slice_get (ops_of p m.number) at ≡ Some o → v.at ≡ at → o.at ≡ address → AreCovering p m at v.handlers → frame_at s.frames at ≡ Some f → IsMarked s → IsCatching p m s.frames s.catches → IsGoing p m s.frames (s.todo ++ (at ∷ [])) → IsMore (superclasses p) (list_any (covers address) m.handlers) (frame_at s.catches.frames (range_at s.catches.ranges at)) f v.caught → IsCatcher v.caught v.thrown → IsThrowing p m v 0 s
  throw_start at address o f v s i a b hs e k x g more c =
      let covered : Bool = list_any (covers address) m.handlers in
      let before : Option FlowFrame = frame_at s.catches.frames (range_at s.catches.ranges at) in
      let own : IsFrame (superclasses p) (room_of m) f = g.under.assignment.frames at f e in
      let old : (c : FlowFrame) → before ≡ Some c → IsFrame (superclasses p) (room_of m) c = λ c q. (x.frames (range_at s.catches.ranges at) c q).0 in
      let bare : (c : FlowFrame) → before ≡ Some c → without_operands c ≡ c = λ c q. (x.frames (range_at s.catches.ranges at) c q).1 in record {
        frame = f;
        caught = record {
          placed = o;
          is_placed = rw a i;
          handlers = subst (λ w. AreCovering p m w v.handlers) (sym a) hs;
          frame = more_frame p tree m im covered before f v.caught old own more;
          bare = more_bare p tree m im covered before f v.caught bare more;
          above = more_above p tree m im covered before f v.caught old own more;
          below = λ gs z. subst (λ w. TakenAt p m w v.caught (length m.handlers) gs) (sym a) (more_below p tree m im at address o before f v.caught gs i b (λ c q. (bare c q, x.below gs z at c q)) z (own_below p tree m im at f gs own z (place-up p tree m im f (Some f) (frame_at gs at) (frame-refl (superclasses p) tree (room_of m) f) (subst (λ w. FitsThere (superclasses p) w (frame_at gs at)) e (g.under.below gs z at)))) more);
          catcher = c;
        };
        partly = subst (λ w. IsPartly p m w f 0 s.frames s.todo) (sym a) (partly-start p tree m im at 0 f s.frames s.todo (off-start p tree m im at s.frames s.todo g) e);
        taken = λ q h l j. absurd (omega arith);
        marked = k;
        catching = x;
      }

  -- ---- one handler

  -- a handler that covers the place is one of the method's
  own_handler : (v : Catch) (k : ℕ) (h : Handler) (s : Rising) → IsThrowing p m v k s → slice_get v.handlers k ≡ Some h → (covers_place (ops_of p m.number) v.at h ≡ true) × ((q : ℕ) × (slice_get m.handlers q ≡ Some h))
  own_handler v k h s x i = let a = x.caught in let c = a.handlers in c.own k h i

  thrown_is : (v : Catch) (k : ℕ) (h : Handler) (d : FlowFrame) (s : Rising) → IsThrowing p m v k s → IsPut v.thrown d h.class → d ≡ given p m v.at v.caught (catching h)
  thrown_is v k h d s x q = let a = x.caught in put-gives p m v.at h.to h.class v.caught v.thrown d a.catcher q

  thrown_frame : (v : Catch) (k : ℕ) (h : Handler) (s : Rising) → IsThrowing p m v k s → slice_get v.handlers k ≡ Some h → IsFrame (superclasses p) (room_of m) (given p m v.at v.caught (catching h))
  thrown_frame v k h s x i =
      let a = x.caught in
      let (q, there) = (own_handler v k h s x i).1 in
      given-frame p tree m im v.at v.caught (catching h) a.frame (im.handlers q h there)

  -- where it leads there is a place
  pub throw_target : (v : Catch) (k : ℕ) (h : Handler) (s : Rising) → IsThrowing p m v k s → slice_get v.handlers k ≡ Some h → h.to < length s.frames
  throw_target v k h s x i =
      let a = x.partly in let b = a.under in let c = b.assignment in
      let (q, there) = (own_handler v k h s x i).1 in
      let n : h.to < length (ops_of p m.number) = (im.handlers q h there).0 in
      let l : length s.frames ≡ length (ops_of p m.number) = c.long in omega arith

  -- with a frame like the one that flows there
  pub throw_alike : (v : Catch) (k : ℕ) (h : Handler) (d : FlowFrame) (s : Rising) → IsThrowing p m v k s → slice_get v.handlers k ≡ Some h → IsPut v.thrown d h.class → IsAlike d (frame_at s.frames h.to)
  throw_alike v k h d s x i q =
      let a = x.partly in let b = a.under in let c = b.assignment in
      subst (λ z. IsAlike z (frame_at s.frames h.to)) (sym (thrown_is v k h d s x q))
      (alike-frames (superclasses p) (room_of m) (given p m v.at v.caught (catching h)) (frame_at s.frames h.to) (thrown_frame v k h s x i) (c.frames h.to))

  throw_flows : (v : Catch) (k : ℕ) (h : Handler) (d : FlowFrame) (s t : Rising) → IsThrowing p m v k s → IsPut v.thrown d h.class → Flows (superclasses p) d h.to s.frames s.todo t.frames t.todo → Flows (superclasses p) (given p m v.at v.caught (catching h)) h.to s.frames s.todo t.frames t.todo
  throw_flows v k h d s t x q w = flows-at (superclasses p) d (given p m v.at v.caught (catching h)) h.to h.to s.frames t.frames s.todo t.todo (thrown_is v k h d s x q) refl w

  -- one handler more
  pub throw_step : (v : Catch) (k : ℕ) (h : Handler) (d : FlowFrame) (s t : Rising) → IsThrowing p m v k s → slice_get v.handlers k ≡ Some h → IsPut v.thrown d h.class → Flows (superclasses p) d h.to s.frames s.todo t.frames t.todo → IsMarked t → t.catches ≡ s.catches → IsThrowing p m (with_thrown v d) (k + 1) t
  throw_step v k h d s t x i q f mk e =
      let a = x.caught in
      let b = x.partly in let u = b.under in
      let g : FlowFrame = given p m v.at v.caught (catching h) in
      let w : IsFlow p tree m im g h.to s.frames s.todo t.frames t.todo = flow p tree m im g h.to s.frames s.todo t.frames t.todo (throw_target v k h s x i) u.assignment (thrown_frame v k h s x i) (throw_flows v k h d s t x q f) in
      let (here, there) = own_handler v k h s x i in
      let (o, own) = there in record {
        frame = x.frame;
        caught = record {
          placed = a.placed;
          is_placed = a.is_placed;
          handlers = a.handlers;
          frame = a.frame;
          bare = a.bare;
          above = a.above;
          below = a.below;
          catcher = put-stays h.class v.caught v.thrown d a.catcher q;
        };
        partly = partly-flow p tree m im v.at 0 h.to x.frame g s.frames t.frames s.todo t.todo b (λ gs z. a.below gs z o h (slice_get_within m.handlers o h own) own here) w;
        taken = λ r y l j. elim (eqb_tells r k) [
          | inl z ↦ subst (λ o. FitsPlace (superclasses p) (given p m v.at v.caught (catching o)) (frame_at t.frames o.to)) (same_handler v.handlers k r h y (z.1) i j) w.there
          | inr z ↦ place-up p tree m im _ (frame_at s.frames y.to) _ (x.taken r y (less r k l (z.1)) j) (w.rise y.to)
        ];
        marked = mk;
        catching = subst (λ z. IsCatching p m t.frames z) (sym e) (catching_up p tree m im s.frames t.frames s.catches w.rise x.catching);
      }

  -- the potential doesn't rise
  pub throw_falls : (v : Catch) (k : ℕ) (h : Handler) (d : FlowFrame) (s t : Rising) → IsThrowing p m v k s → slice_get v.handlers k ≡ Some h → IsPut v.thrown d h.class → Flows (superclasses p) d h.to s.frames s.todo t.frames t.todo → (w : ℕ → ℕ) → potential p m w t.frames t.todo ≤ potential p m w s.frames s.todo
  throw_falls v k h d s t x i q f w =
      let b = x.partly in let u = b.under in
      flow-falls p tree m im w (given p m v.at v.caught (catching h)) h.to s.frames s.todo t.frames t.todo (throw_target v k h s x i) u.assignment (thrown_frame v k h s x i) (throw_flows v k h d s t x q f)

  -- ---- after the last handler

  -- each handler that covers the place has taken what was caught
  all_taken : (v : Catch) (s : Rising) → IsThrowing p m v (length v.handlers) s → TakenAt p m v.at v.caught (length m.handlers) s.frames
  all_taken v s x q h l i t =
      let a = x.caught in
      let c = a.handlers in
      let (k, there) = c.all q h i t in
      x.taken k h (slice_get_within v.handlers k h there) there

  pub throw_end : (v : Catch) (s : Rising) → IsThrowing p m v (length v.handlers) s → IsTakenOff p m v.at (ways_caught p m v.at) s.frames s.todo
  throw_end v s x =
      let a = x.caught in
      let b = x.partly in
      partly-off p tree m im v.at (ways_caught p m v.at) x.frame s.frames s.todo
      (partly-all p tree m im v.at 0 (ways_caught p m v.at) x.frame s.frames s.todo b
      (λ k e l i. let h = caught_way p m v.at k e l i in
      subst (λ z. FitsPlace (superclasses p) (given p m v.at x.frame z) (frame_at s.frames (target z))) (sym h.leads)
      (thrown_mono p tree m im v.at v.at x.frame v.caught h.handler (frame_at s.frames h.handler.to) b.frame a.frame a.above
      (all_taken v s x h.place h.handler (slice_get_within m.handlers h.place h.handler h.is_there) h.is_there h.passes))))

  keep_taken : (s : Catches) (at : ℕ) (c : FlowFrame) (fs gs : List (Option FlowFrame)) → IsCatching p m fs s → at < length (ops_of p m.number) → AreTaken p m s gs → TakenAt p m at c (length m.handlers) gs → AreTaken p m (with_caught s at c) gs
  keep_taken s at c fs gs x n old new i d e k h l j t =
      let ranges = x.ranges in
      elim (eqb_tells (range_at s.ranges i) (range_at s.ranges at)) [
        | inl q ↦
            let inside : range_at s.ranges at < length s.frames = kept_range fs s at x n in
            let f : Some c ≡ Some d = sym (get-set-same s.frames (range_at s.ranges at) (Some c) inside) ∙ subst (λ z. frame_at (slice_set s.frames (range_at s.ranges at) (Some c)) z ≡ Some d) (q.1) e in
            let r : c ≡ d = cc in
            let covered : covers_place (ops_of p m.number) at h ≡ true = sym (ranges.alike i at k h (covered_within (ops_of p m.number) i h t) n (q.1) j) ∙ t in
            subst (λ z. FitsPlace (superclasses p) z (frame_at gs h.to)) (thrown_anywhere p m at i c h ∙ ap (λ z. given p m i z (catching h)) r) (new k h l j covered)
        | inr q ↦ old i d (sym (get-set-other s.frames (range_at s.ranges at) (range_at s.ranges i) (Some c) (q.1)) ∙ e) k h l j t
      ]

  -- the range has caught it
  pub throw_keep : (v : Catch) (s : Rising) → IsThrowing p m v (length v.handlers) s → IsCatching p m s.frames (with_caught s.catches v.at v.caught)
  throw_keep v s x =
      let a = x.caught in
      let b = x.catching in
      let n : v.at < length (ops_of p m.number) = slice_get_within (ops_of p m.number) v.at a.placed a.is_placed in record {
        ranges = b.ranges;
        long = set-length s.catches.frames (range_at s.catches.ranges v.at) (Some v.caught) ∙ b.long;
        frames = λ r c e. elim (eqb_tells r (range_at s.catches.ranges v.at)) [
          | inl q ↦
              let inside : range_at s.catches.ranges v.at < length s.catches.frames = kept_range s.frames s.catches v.at b n in
              let f : Some v.caught ≡ Some c = sym (get-set-same s.catches.frames (range_at s.catches.ranges v.at) (Some v.caught) inside) ∙ subst (λ z. frame_at (slice_set s.catches.frames (range_at s.catches.ranges v.at) (Some v.caught)) z ≡ Some c) (q.1) e in
              let w : v.caught ≡ c = cc in
              subst (λ z. IsFrame (superclasses p) (room_of m) z × (without_operands z ≡ z)) w (a.frame, a.bare)
          | inr q ↦ b.frames r c (sym (get-set-other s.catches.frames (range_at s.catches.ranges v.at) r (Some v.caught) (q.1)) ∙ e)
        ];
        taken = keep_taken s.catches v.at v.caught s.frames s.frames b n b.taken (all_taken v s x);
        below = λ gs z. keep_taken s.catches v.at v.caught s.frames gs b n (b.below gs z) (a.below gs z);
      }
