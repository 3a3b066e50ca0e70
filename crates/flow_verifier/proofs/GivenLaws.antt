-- What instructions give keeps the order of frames, and stays frames of the method.
use Rattle.std.proofs.Common.{◌≡◌, ◌∙◌, sym, ap, subst, refl, ℕ, zero, suc, ◌+◌, ◌<◌, ◌≤◌, Bool, true, false, not, if◌then◌else◌, List, [], ◌∷◌, ◌++◌, length, slice_get, Option, Some, None, ◌⊎◌, inl, inr, arith}
use Rattle.std.specs.Prelude.{map, filter, reverse, ◌&&◌, ◌||◌, nat_lt}
use Rattle.std.proofs.lemmas.Bool.{cases_Bool}
use Rattle.std.proofs.lemmas.Bool.Decides.{nat_tests}
use mathlib.Core.List.{reverse-cons}
use Rattle.code_table.specs.declared.code.Placed.{Placed}
use Rattle.program_image.specs.Program.{Program}
use Rattle.flow_types.specs.Tree.{superclasses, IsTree}
use Rattle.flow_types.specs.Types.{type_fits}
use Rattle.flow_types.specs.TypeLists.{types_fit, AreTypes, AreOperands}
use Rattle.flow_types.specs.Frames.{clash_frame, frame_fits, parts_fit, IsFrame, IsOpen}
use Rattle.flow_types.specs.declared.flow_type.FlowType.{FlowType}
use Rattle.flow_types.specs.declared.flow_type.FlowType.TheVariants.{Long}
use Rattle.flow_types.specs.declared.flow_frame.FlowFrame.{FlowFrame}
use Rattle.flow_types.proofs.TreeLaws.{below-refl}
use Rattle.flow_types.proofs.ListLaws.{and_parts, and_both}
use Rattle.flow_types.proofs.FrameLaws.{frame-kind, clash-frame, open-frame, fits-clash, fits-open, fits-parts}
use Rattle.instruction_table.specs.Needs.{is_long}
use Rattle.instruction_table.specs.Rows.{jumps, falls}
use Rattle.instruction_table.specs.Working.{site_of, slots, type_slots, is_empty, row_rules, next}
use Rattle.instruction_table.specs.Under.{Under, IsWork}
use Rattle.instruction_table.specs.declared.work.Work.{Work}
use Rattle.instruction_table.proofs.FitLists.{append_empty, both_empty, fit-append, types-append, operands-append}
use Rattle.instruction_table.proofs.NeedLaws.{long-same}
use Rattle.instruction_table.proofs.RowLaws.{next-under}
use Rattle.instruction_table.proofs.KeptLaws.{next-kept}
use Rattle.flow_verifier.specs.Methods.{ops_of, place_of, room_of, IsMethod}
use Rattle.flow_verifier.specs.Given.{work_of, frame_of_work, depth_rules, after_rules, last_rules, row_at, is_past, op_rules, place_rules, rules_there, open_rules, next_there, frame_after, frame_caught, given_by, given, jump_edges, fall_edges, covers, catching, edges_there, edges}
use Rattle.flow_verifier.specs.declared.method.Handler.{Handler}
use Rattle.flow_verifier.specs.declared.method.Edge.{Edge}
use Rattle.flow_verifier.specs.declared.method.Edge.TheVariants.{Next, Caught}
use Rattle.flow_verifier.specs.declared.method.Method.{Method}

pick_then : {A : Type 0} (b : Bool) (x y : A) → b ≡ true → (if b then x else y) ≡ x
pick_then b x y e = rw e refl

pick_else : {A : Type 0} (b : Bool) (x y : A) → b ≡ false → (if b then x else y) ≡ y
pick_else b x y e = rw e refl

-- ---- stacks turned about

pub reverse_operands : (xs : List FlowType) → AreOperands xs → AreOperands (reverse xs)
reverse_operands [] h = tt
reverse_operands (x ∷ xs) h = rw (reverse-cons x xs) (operands-append (reverse xs) (x ∷ []) (reverse_operands xs (h.1)) (h.0, tt))

reverse_types : (supers : List (Option ℕ)) (xs : List FlowType) → AreTypes supers xs → AreTypes supers (reverse xs)
reverse_types supers [] h = tt
reverse_types supers (x ∷ xs) h = rw (reverse-cons x xs) (types-append supers (reverse xs) (x ∷ []) (reverse_types supers xs (h.1)) (h.0, tt))

pub reverse_fit : (supers : List (Option ℕ)) (xs ys : List FlowType) → types_fit supers xs ys ≡ true → types_fit supers (reverse xs) (reverse ys) ≡ true
reverse_fit supers [] [] h = refl
reverse_fit supers [] (y ∷ ys) h = absurd cc
reverse_fit supers (x ∷ xs) [] h = absurd cc
reverse_fit supers (x ∷ xs) (y ∷ ys) h =
    let (p, q) = and_parts (type_fits supers x y) (types_fit supers xs ys) h in
    rw (reverse-cons x xs, reverse-cons y ys) (fit-append supers (reverse xs) (reverse ys) (x ∷ []) (y ∷ []) (reverse_fit supers xs ys q) (and_both _ _ p refl))

append_length : (xs ys : List FlowType) → length (xs ++ ys) ≡ length xs + length ys
append_length [] ys = omega arith
append_length (x ∷ xs) ys = let h : length (xs ++ ys) ≡ length xs + length ys = append_length xs ys in omega arith

reverse_length : (xs : List FlowType) → length (reverse xs) ≡ length xs
reverse_length [] = refl
reverse_length (x ∷ xs) =
    let h : length (reverse xs) ≡ length xs = reverse_length xs in
    let k : length (reverse xs ++ (x ∷ [])) ≡ length (reverse xs) + length (x ∷ []) = append_length (reverse xs) (x ∷ []) in
    rw (reverse-cons x xs) (omega arith)

-- ---- depth

one_slot : (t : FlowType) → 1 ≤ type_slots t
one_slot Long = omega arith
one_slot _ = omega arith

few_slots : (xs : List FlowType) → length xs ≤ slots xs
few_slots [] = omega arith
few_slots (x ∷ xs) = let h : length xs ≤ slots xs = few_slots xs in let k : 1 ≤ type_slots x = one_slot x in omega arith

-- a type takes as many slots as an operand above it
slots_by : Bool → ℕ
slots_by true = 2
slots_by false = 1

type-slots : (t : FlowType) → type_slots t ≡ slots_by (is_long t)
unfolding slots_by
type-slots Long = refl
type-slots _ = refl

slots-same : (supers : List (Option ℕ)) (xs ys : List FlowType) → types_fit supers xs ys ≡ true → AreOperands ys → slots xs ≡ slots ys
slots-same supers [] [] h o = refl
slots-same supers [] (y ∷ ys) h o = absurd cc
slots-same supers (x ∷ xs) [] h o = absurd cc
slots-same supers (x ∷ xs) (y ∷ ys) h o =
    let (p, q) = and_parts (type_fits supers x y) (types_fit supers xs ys) h in
    let a : type_slots x ≡ type_slots y = type-slots x ∙ ap slots_by (long-same supers x y p (o.0)) ∙ sym (type-slots y) in
    let b : slots xs ≡ slots ys = slots-same supers xs ys q (o.1) in omega arith

pub not_deep : (max : ℕ) (ts : List FlowType) → depth_rules max ts ≡ [] → slots ts ≤ max
not_deep max ts e =
    elim (cases_Bool (nat_lt max (slots ts))) [
      | inl p ↦ let x : ◌≡◌ {A = List ℕ} (2 ∷ []) [] = rw p at e in absurd cc
      | inr p ↦ grind (arith, nat_tests)
    ]

empty_is : (xs : List ℕ) → xs ≡ [] → is_empty xs ≡ true
empty_is xs e = rw e refl

is_none : (xs : List ℕ) → (xs ≡ []) ⊎ (is_empty xs ≡ false)
is_none [] = inl refl
is_none (x ∷ xs) = inr refl

-- ---- what is given, by the frame

pub given-clash : (p : Program) (m : Method) (at : ℕ) (f : FlowFrame) (e : Edge) → f.clash ≡ true → given p m at f e ≡ clash_frame
unfolding given
given-clash p m at f e c = pick_then f.clash _ _ c

pub given-open : (p : Program) (m : Method) (at : ℕ) (f : FlowFrame) (e : Edge) → f.clash ≡ false → given p m at f e ≡ given_by p m at f e
unfolding given
given-open p m at f e c = pick_else f.clash _ _ c

pub after-whole : (p : Program) (m : Method) (at : ℕ) (f : FlowFrame) → open_rules p m at f ≡ [] → frame_after p m at f ≡ frame_of_work (next_there p m (slice_get (ops_of p m.number) at) (work_of f))
after-whole p m at f e = pick_then (is_empty (open_rules p m at f)) _ _ (empty_is (open_rules p m at f) e)

after-broken : (p : Program) (m : Method) (at : ℕ) (f : FlowFrame) → is_empty (open_rules p m at f) ≡ false → frame_after p m at f ≡ clash_frame
after-broken p m at f e = pick_else (is_empty (open_rules p m at f)) _ _ e

-- what an edge leads to is there
abbrev pub IsEdge : List (Option ℕ) → ℕ → Edge → Type 0
IsEdge supers count (Next to) = to < count
IsEdge supers count (Caught to class) = (to < count) × (class < length supers)

not_missing : (max : ℕ) (rules : List ℕ) (ts : List FlowType) → rules ≡ [] → after_rules max rules ts ≡ depth_rules max ts
not_missing max rules ts e = rw e refl

-- an instruction that breaks no rule: those of its row, and on depth after
pub record Whole (p : Program) (m : Method) (i : ℕ) (o : Placed) (w : Work) : Type 0 where
  pub before : depth_rules m.max_stack w.stack ≡ []
  pub rules : row_rules (site_of p m.number) (row_at p m o) w ≡ []
  pub after : depth_rules m.max_stack (next (site_of p m.number) (row_at p m o) w).stack ≡ []
  pub last : last_rules (is_past p m i o) ≡ []

pub whole-of : (p : Program) (m : Method) (i : ℕ) (o : Placed) (w : Work) → op_rules p m i o w ≡ [] → Whole p m i o w
whole-of p m i o w e =
    let (a, r) = append_empty (depth_rules m.max_stack w.stack) _ e in
    let (b, s) = append_empty (row_rules (site_of p m.number) (row_at p m o) w) _ r in
    let (c, d) = append_empty (after_rules m.max_stack (row_rules (site_of p m.number) (row_at p m o) w) (next (site_of p m.number) (row_at p m o) w).stack) _ s in
    record {
      before = a;
      rules = b;
      after = sym (not_missing m.max_stack (row_rules (site_of p m.number) (row_at p m o) w) (next (site_of p m.number) (row_at p m o) w).stack b) ∙ c;
      last = d;
    }

whole-back : (p : Program) (m : Method) (i : ℕ) (o : Placed) (w : Work) → Whole p m i o w → op_rules p m i o w ≡ []
whole-back p m i o w h =
    both_empty (depth_rules m.max_stack w.stack) _ h.before
    (both_empty (row_rules (site_of p m.number) (row_at p m o) w) _ h.rules
    (both_empty (after_rules m.max_stack (row_rules (site_of p m.number) (row_at p m o) w) (next (site_of p m.number) (row_at p m o) w).stack) _
    (not_missing m.max_stack (row_rules (site_of p m.number) (row_at p m o) w) (next (site_of p m.number) (row_at p m o) w).stack h.rules ∙ h.after) h.last))

module _ (p : Program) (tree : IsTree (superclasses p)) (m : Method) (im : IsMethod p m) where
  start-under : (f g : FlowFrame) → parts_fit (superclasses p) f g ≡ true → Under (superclasses p) (work_of f) (work_of g)
  start-under f g h =
      let (a, b) = and_parts (types_fit (superclasses p) f.locals g.locals) (types_fit (superclasses p) f.stack g.stack && (not f.fresh || g.fresh)) h in
      let (c, d) = and_parts (types_fit (superclasses p) f.stack g.stack) (not f.fresh || g.fresh) b in
      record { locals = a; stack = reverse_fit (superclasses p) f.stack g.stack c; fresh = d }

  start-work : (f : FlowFrame) → IsOpen (superclasses p) (room_of m) f → IsWork (superclasses p) (length m.entry) (work_of f)
  start-work f o = record { count = o.count; locals = o.locals; stack = reverse_types (superclasses p) f.stack o.stack; operands = reverse_operands f.stack o.operands }

  -- the instruction is as whole in the frame below
  op-under : (i : ℕ) (o : Placed) (v w : Work) → slice_get (ops_of p m.number) i ≡ Some o → IsWork (superclasses p) (length m.entry) v → IsWork (superclasses p) (length m.entry) w → Under (superclasses p) v w → op_rules p m i o w ≡ [] → (op_rules p m i o v ≡ []) × Under (superclasses p) (next (site_of p m.number) (row_at p m o) v) (next (site_of p m.number) (row_at p m o) w)
  op-under i o v w at kv kw u e =
      let h : Whole p m i o w = whole-of p m i o w e in
      let (a, b) = next-under (site_of p m.number) tree (row_at p m o) v w kv.stack kw.stack kw.operands u h.rules in
      let k : IsWork (superclasses p) (length m.entry) (next (site_of p m.number) (row_at p m o) w) = next-kept (site_of p m.number) im.site (row_at p m o) (im.rows i o at) (length m.entry) w kw h.rules in
      let c : slots v.stack ≡ slots w.stack = slots-same (superclasses p) v.stack w.stack u.stack kw.operands in
      let d : slots (next (site_of p m.number) (row_at p m o) v).stack ≡ slots (next (site_of p m.number) (row_at p m o) w).stack = slots-same (superclasses p) (next (site_of p m.number) (row_at p m o) v).stack (next (site_of p m.number) (row_at p m o) w).stack b.stack k.operands in (
        whole-back p m i o v (record {
          before = rw c h.before;
          rules = a;
          after = rw d h.after;
          last = h.last;
        }),
        b,
      )

  there-under : (i : ℕ) (q : Option Placed) (v w : Work) → slice_get (ops_of p m.number) i ≡ q → IsWork (superclasses p) (length m.entry) v → IsWork (superclasses p) (length m.entry) w → Under (superclasses p) v w → rules_there p m i q w ≡ [] → (rules_there p m i q v ≡ []) × Under (superclasses p) (next_there p m q v) (next_there p m q w)
  there-under i None v w at kv kw u e = (refl, u)
  there-under i (Some o) v w at kv kw u e = op-under i o v w at kv kw u e

  after-mono : (i : ℕ) (f g : FlowFrame) → IsOpen (superclasses p) (room_of m) f → IsOpen (superclasses p) (room_of m) g → parts_fit (superclasses p) f g ≡ true → frame_fits (superclasses p) (frame_after p m i f) (frame_after p m i g) ≡ true
  after-mono i f g of og h =
      elim (is_none (open_rules p m i g)) [
        | inl e ↦
            let (a, b) = append_empty (place_rules p m i) (rules_there p m i (slice_get (ops_of p m.number) i) (work_of g)) e in
            let (c, d) = there-under i (slice_get (ops_of p m.number) i) (work_of f) (work_of g) refl (start-work f of) (start-work g og) (start-under f g h) b in
            let k : open_rules p m i f ≡ [] = both_empty (place_rules p m i) (rules_there p m i (slice_get (ops_of p m.number) i) (work_of f)) a c in
            let v : Work = next_there p m (slice_get (ops_of p m.number) i) (work_of f) in
            let w : Work = next_there p m (slice_get (ops_of p m.number) i) (work_of g) in
            rw (after-whole p m i f k, after-whole p m i g e) (fits-open (superclasses p) (frame_of_work v) (frame_of_work w) refl refl (and_both _ _ d.locals (and_both _ _ (reverse_fit (superclasses p) v.stack w.stack d.stack) d.fresh)))
        | inr e ↦ fits-clash (superclasses p) (frame_after p m i f) (frame_after p m i g) (ap (λ z. z.clash) (after-broken p m i g e))
      ]

  by-mono : (i : ℕ) (f g : FlowFrame) (e : Edge) → IsOpen (superclasses p) (room_of m) f → IsOpen (superclasses p) (room_of m) g → parts_fit (superclasses p) f g ≡ true → frame_fits (superclasses p) (given_by p m i f e) (given_by p m i g e) ≡ true
  by-mono i f g (Next to) of og h = after-mono i f g of og h
  by-mono i f g (Caught to class) of og h =
      let (a, b) = and_parts (types_fit (superclasses p) f.locals g.locals) (types_fit (superclasses p) f.stack g.stack && (not f.fresh || g.fresh)) h in
      let (c, d) = and_parts (types_fit (superclasses p) f.stack g.stack) (not f.fresh || g.fresh) b in
      fits-open (superclasses p) (frame_caught f class) (frame_caught g class) refl refl (and_both _ _ a (and_both _ _ (and_both _ _ (below-refl (superclasses p) tree class) refl) d))

  -- what is given rises with the frame
  pub given-mono : (i : ℕ) (f g : FlowFrame) (e : Edge) → IsFrame (superclasses p) (room_of m) f → IsFrame (superclasses p) (room_of m) g → frame_fits (superclasses p) f g ≡ true → frame_fits (superclasses p) (given p m i f e) (given p m i g e) ≡ true
  given-mono i f g e x y h =
      elim (frame-kind (superclasses p) (room_of m) g y) [
        | inl k ↦ fits-clash (superclasses p) _ _ (ap (λ z. z.clash) (given-clash p m i g e (ap (λ z. z.clash) k)))
        | inr k ↦ let (c, q) = fits-parts (superclasses p) f g (k.0) h in
            elim (frame-kind (superclasses p) (room_of m) f x) [
              | inl j ↦ let z : f.clash ≡ true = ap (λ z. z.clash) j in absurd cc
              | inr j ↦ rw (given-open p m i f e c, given-open p m i g e (k.0)) (by-mono i f g e (j.1) (k.1) q)
            ]
      ]

  op-frame : (i : ℕ) (o : Placed) (w : Work) → slice_get (ops_of p m.number) i ≡ Some o → IsWork (superclasses p) (length m.entry) w → op_rules p m i o w ≡ [] → IsFrame (superclasses p) (room_of m) (frame_of_work (next (site_of p m.number) (row_at p m o) w))
  op-frame i o w at k e =
      let h : Whole p m i o w = whole-of p m i o w e in
      let n : IsWork (superclasses p) (length m.entry) (next (site_of p m.number) (row_at p m o) w) = next-kept (site_of p m.number) im.site (row_at p m o) (im.rows i o at) (length m.entry) w k h.rules in
      let u : Work = next (site_of p m.number) (row_at p m o) w in
      let a : slots u.stack ≤ m.max_stack = not_deep m.max_stack u.stack h.after in
      let b : length u.stack ≤ slots u.stack = few_slots u.stack in
      let c : length (reverse u.stack) ≡ length u.stack = reverse_length u.stack in
      open-frame (superclasses p) (room_of m) (frame_of_work u) refl (record { count = n.count; deep = omega arith; locals = n.locals; stack = reverse_types (superclasses p) u.stack n.stack; operands = reverse_operands u.stack n.operands })

  after-frame : (i : ℕ) (q : Option Placed) (f : FlowFrame) → slice_get (ops_of p m.number) i ≡ q → IsOpen (superclasses p) (room_of m) f → rules_there p m i q (work_of f) ≡ [] → IsFrame (superclasses p) (room_of m) (frame_of_work (next_there p m q (work_of f)))
  after-frame i None f at o e =
      let k : IsWork (superclasses p) (length m.entry) (work_of f) = start-work f o in
      let d : length f.stack ≤ m.max_stack + 1 = o.deep in
      let n : length (reverse (reverse f.stack)) ≡ length (reverse f.stack) = reverse_length (reverse f.stack) in
      let r : length (reverse f.stack) ≡ length f.stack = reverse_length f.stack in
      open-frame (superclasses p) (room_of m) _ refl (record { count = k.count; deep = omega arith; locals = k.locals; stack = reverse_types (superclasses p) _ k.stack; operands = reverse_operands _ k.operands })
  after-frame i (Some o) f at of e = op-frame i o (work_of f) at (start-work f of) e

  by-frame : (i : ℕ) (f : FlowFrame) (e : Edge) → IsOpen (superclasses p) (room_of m) f → IsEdge (superclasses p) (length (ops_of p m.number)) e → IsFrame (superclasses p) (room_of m) (given_by p m i f e)
  by-frame i f (Next to) o x =
      elim (is_none (open_rules p m i f)) [
        | inl e ↦
            let (a, b) = append_empty (place_rules p m i) (rules_there p m i (slice_get (ops_of p m.number) i) (work_of f)) e in
            rw (after-whole p m i f e) (after-frame i (slice_get (ops_of p m.number) i) f refl o b)
        | inr e ↦ rw (after-broken p m i f e) (clash-frame (superclasses p) (room_of m))
      ]
  by-frame i f (Caught to class) o x = open-frame (superclasses p) (room_of m) (frame_caught f class) refl (record { count = o.count; deep = omega arith; locals = o.locals; stack = (x.1, tt); operands = (refl, tt) })

  -- what is given is a frame of the method
  pub given-frame : (i : ℕ) (f : FlowFrame) (e : Edge) → IsFrame (superclasses p) (room_of m) f → IsEdge (superclasses p) (length (ops_of p m.number)) e → IsFrame (superclasses p) (room_of m) (given p m i f e)
  given-frame i f e x y =
      elim (frame-kind (superclasses p) (room_of m) f x) [
        | inl k ↦ rw (given-clash p m i f e (ap (λ z. z.clash) k)) (clash-frame (superclasses p) (room_of m))
        | inr k ↦ rw (given-open p m i f e (k.0)) (by-frame i f e (k.1) y)
      ]

  abbrev AreEdges : List Edge → Type 0
  AreEdges [] = Unit {0}
  AreEdges (e ∷ es) = IsEdge (superclasses p) (length (ops_of p m.number)) e × AreEdges es

  append-edges : (xs ys : List Edge) → AreEdges xs → AreEdges ys → AreEdges (xs ++ ys)
  append-edges [] ys a b = b
  append-edges (x ∷ xs) ys a b = (a.0, append-edges xs ys (a.1) b)

  falls-edges : (i : ℕ) (o : Placed) → AreEdges (fall_edges (length (ops_of p m.number)) i o)
  falls-edges i o =
      elim (cases_Bool (falls o.op && nat_lt (i + 1) (length (ops_of p m.number)))) [
        | inl e ↦ let (q, r) = and_parts (falls o.op) (nat_lt (i + 1) (length (ops_of p m.number))) e in let l : i + 1 < length (ops_of p m.number) = grind (arith, nat_tests) in rw e (l, tt)
        | inr e ↦ rw e tt
      ]

  jumps-edges : (to : List ℕ) → ((k at : ℕ) → slice_get to k ≡ Some at → place_of (ops_of p m.number) at < length (ops_of p m.number)) → AreEdges (jump_edges (ops_of p m.number) to)
  jumps-edges [] h = tt
  jumps-edges (t ∷ ts) h = (h zero t refl, jumps-edges ts (λ k. h (suc k)))

  table-edges : (at : ℕ) (hs : List Handler) → ((k : ℕ) (h : Handler) → slice_get hs k ≡ Some h → (h.to < length (ops_of p m.number)) × (h.class < length (superclasses p))) → AreEdges (map catching (filter (covers at) hs))
  table-edges at [] k = tt
  table-edges at (h ∷ hs) k =
      elim (cases_Bool (covers at h)) [
        | inl e ↦ rw e (k zero h refl, table-edges at hs (λ i. k (suc i)))
        | inr e ↦ rw e (table-edges at hs (λ i. k (suc i)))
      ]

  there-edges : (i : ℕ) (q : Option Placed) → slice_get (ops_of p m.number) i ≡ q → AreEdges (edges_there (ops_of p m.number) m.handlers i q)
  there-edges i None e = tt
  there-edges i (Some o) e =
      append-edges (map catching (filter (covers o.at) m.handlers)) _ (table-edges o.at m.handlers im.handlers)
      (append-edges (jump_edges (ops_of p m.number) (jumps o.op)) _ (jumps-edges (jumps o.op) (λ k at h. im.targets i k at o e h)) (falls-edges i o))

  all-edges : (i : ℕ) → AreEdges (edges p m i)
  unfolding edges
  all-edges i = there-edges i (slice_get (ops_of p m.number) i) refl

  edge-in : (es : List Edge) (k : ℕ) (e : Edge) → AreEdges es → slice_get es k ≡ Some e → IsEdge (superclasses p) (length (ops_of p m.number)) e
  edge-in [] k e h i = absurd cc
  edge-in (x ∷ xs) zero e h i = let f : x ≡ e = cc in subst (λ z. IsEdge (superclasses p) (length (ops_of p m.number)) z) f (h.0)
  edge-in (x ∷ xs) (suc k) e h i = edge-in xs k e (h.1) i

  pub edge-is : (i k : ℕ) (e : Edge) → slice_get (edges p m i) k ≡ Some e → IsEdge (superclasses p) (length (ops_of p m.number)) e
  edge-is i k e h = edge-in (edges p m i) k e (all-edges i) h
