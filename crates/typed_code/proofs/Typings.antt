-- The typing of one method, as frames at work by addresses.
use Rattle.std.proofs.Common.{◌≡◌, ◌∙◌, sym, ap, subst, refl, ℕ, zero, suc, ◌+◌, ◌<◌, ◌≤◌, Bool, true, false, not, List, [], ◌∷◌, ◌++◌, length, slice_get, Option, Some, None, nat_lt, nat_le, inl, inr, arith}
use Rattle.std.specs.Prelude.{reverse, option_map, option_and_then, ◌==◌, ◌||◌, ◌&&◌, if◌then◌else◌}
use Rattle.std.specs.List.{AllByRecursion, AllPass}
use Rattle.std.proofs.lemmas.Bool.{cases_Bool}
use Rattle.std.proofs.lemmas.Bool.Decides.{nat_tests}
use Rattle.std.proofs.lemmas.List.{reverse-reverse}
use Rattle.std.proofs.lemmas.Option.{slice_get_within}
use Rattle.jvm_base.specs.Words.{from}
use Rattle.jvm_base.specs.declared.code_item.TableItem.{TableItem}
use Rattle.jvm_base.specs.declared.pool.PoolItem.{PoolItem}
use Rattle.code_table.specs.Accepted.{IsEntry, Lands}
use Rattle.code_table.specs.Sequences.{Covers}
use Rattle.code_table.specs.Targets.{targets_of, is_start}
use Rattle.code_table.specs.declared.code.Code.{Code}
use Rattle.code_table.specs.declared.code.Placed.{Placed}
use Rattle.code_table.specs.declared.op.Op.{Op}
use Rattle.code_table.specs.declared.op.Op.TheVariants as op
use Rattle.hierarchy.specs.Walks.{has}
use Rattle.program_image.specs.Handlers.{code_of, entry_target, is_below_target, takes, handler_from, handler_of}
use Rattle.program_image.specs.Places.{target_at}
use Rattle.program_image.specs.Program.{Program, target_of}
use Rattle.program_image.specs.declared.info.ArrayInfo.{ArrayInfo}
use Rattle.program_image.specs.declared.info.Target.{Target}
use Rattle.program_image.specs.declared.info.Target.TheVariants as target
use Rattle.flow_types.specs.Tree.{superclasses}
use Rattle.flow_types.specs.Types.{type_fits}
use Rattle.flow_types.specs.TypeLists.{types_fit, AreOperands}
use Rattle.flow_types.specs.declared.flow_frame.FlowFrame.{FlowFrame}
use Rattle.flow_types.specs.declared.flow_type.FlowType.{FlowType}
use Rattle.flow_types.specs.declared.flow_type.FlowType.TheVariants as flow
use Rattle.flow_types.proofs.FrameLaws.{frame-kind, fits-parts}
use Rattle.flow_types.proofs.ListLaws.{and_parts, and_both, fit-trans}
use Rattle.instruction_table.specs.ClassTypes.{plain, element_type, array_at, class_type}
use Rattle.instruction_table.specs.Rows.{row, jumps, falls, throwable}
use Rattle.instruction_table.specs.Working.{site_of, slots, next, with_stack}
use Rattle.instruction_table.specs.declared.rule.TheConstants as rule
use Rattle.instruction_table.specs.declared.work.Work.{Work}
use Rattle.instruction_table.proofs.FitLists.{append_empty}
use Rattle.flow_verifier.specs.Given.{work_of, frame_of_work, covers, broken, given, place_rules, open_rules, rules_there, last_rules, is_past, next_there, frame_caught, edges}
use Rattle.flow_verifier.specs.Methods.{ops_of, place_of, parameters, class_caught, handler_class, handler, method_with}
use Rattle.flow_verifier.specs.Typing.{frame_at, FitsPlace, entry_frame, IsTyping}
use Rattle.flow_verifier.specs.declared.method.Edge.TheVariants.{Next, Caught}
use Rattle.flow_verifier.specs.declared.method.Handler.{Handler}
use Rattle.flow_verifier.specs.declared.method.Method.{Method}
use Rattle.flow_verifier.proofs.GivenLaws.{reverse_fit, reverse_operands, not_deep, Whole, whole-of, after-whole, given-open}
use Rattle.frame_soundness.specs.AcceptedProgram.{Types, FlowsTo, Instruction, Enters, Subs}
use Rattle.typed_code.specs.Decoding.{IsFine}
use Rattle.typed_code.proofs.Addresses.{at_address, Stands, start_stands, first_at, next_at, found_at, placed_at}
use Rattle.typed_code.proofs.Edges.{IsIn, edge_falls, edge_jumps, edge_caught, Catches, catching_entry}

-- the jumps of an instruction are its targets
same_targets : (o : Op) → jumps o ≡ targets_of o
same_targets (op.IfZero a to) = refl
same_targets (op.IfInts a to) = refl
same_targets (op.IfRefs a to) = refl
same_targets (op.IfNull a to) = refl
same_targets (op.Goto to) = refl
same_targets (op.TableSwitch other low high to) = refl
same_targets (op.LookupSwitch other pairs) = refl
same_targets _ = refl

-- what all items of a list pass, one passes that is in it
passes : (t : ℕ → Bool) (xs : List ℕ) (to : ℕ) → AllPass t xs → has xs to ≡ true → t to ≡ true
passes t [] to all h = absurd cc
passes t (x ∷ xs) to all h = by_test (x == to) refl h (passes t xs to (λ k d l. all (suc k) d (omega arith)))
  where
    by_test : (b : Bool) → (x == to) ≡ b → (b || has xs to) ≡ true → (has xs to ≡ true → t to ≡ true) → t to ≡ true
    by_test true q g again = let s : x ≡ to = grind (arith, nat_tests) in subst (λ (y : ℕ). t y ≡ true) s (all 0 x (omega arith))
    by_test false q g again = again g

at_place : {A : Type 0} (P : A → Type 0) (xs : List A) → AllByRecursion P xs → (i : ℕ) (x : A) → slice_get xs i ≡ Some x → P x
at_place P [] all i x e = absurd cc
at_place P (y ∷ ys) all zero x e = let s : y ≡ x = cc in subst P s (all.0)
at_place P (y ∷ ys) all (suc i) x e = at_place P ys (all.1) i x e

item_at : {A : Type 0} (xs : List A) (i : ℕ) → i < length xs → (x : A) × (slice_get xs i ≡ Some x)
item_at [] i l = absurd (omega arith)
item_at (x ∷ xs) zero l = (x, refl)
item_at (x ∷ xs) (suc i) l = item_at xs i (omega arith)

has_place : (fs : List (Option FlowFrame)) (i : ℕ) (f : FlowFrame) → frame_at fs i ≡ Some f → i < length fs
has_place [] i f e = absurd cc
has_place (x ∷ xs) zero f e = omega arith
has_place (x ∷ xs) (suc i) f e = let h : i < length xs = has_place xs i f e in omega arith

-- one method: its code, where that was decoded from, and its typing; `types` has the typing's frames
-- by addresses
module _ (p : Program) (subs : Subs p) (types : Types) (m : ℕ) (c : Code) (is_code : code_of p m ≡ Some c) (bytes : List ℕ) (pool : List PoolItem) (covers_all : Covers bytes pool c.ops) (lands : AllByRecursion (Lands c.ops) c.ops) (entries : AllByRecursion (IsEntry c.ops (length bytes)) c.table) (fine : (i : ℕ) (o : Placed) → slice_get c.ops i ≡ Some o → IsFine pool o.op) (fs : List (Option FlowFrame)) (typing : IsTyping p (method_with p m c) fs) (typed : (at : ℕ) → types m at ≡ option_and_then (λ (o : Placed). option_map work_of (frame_at fs (place_of c.ops at))) (at_address at c.ops)) where
  abbrev method : Method
  method = method_with p m c

  abbrev supers : List (Option ℕ)
  supers = superclasses p

  is_ops : ops_of p m ≡ c.ops
  is_ops = ap (λ (o : Option Code). from [] (λ k. k.ops) o) is_code

  -- ---- by addresses and by places

  -- the frame of an instruction
  type_at : (i : ℕ) (o : Placed) (f : FlowFrame) → slice_get c.ops i ≡ Some o → frame_at fs i ≡ Some f → types m o.at ≡ Some (work_of f)
  type_at i o f e g =
      let (a, b) = placed_at bytes pool 0 c.ops (length bytes) covers_all i o e in
      typed o.at ∙ ap (option_and_then (λ (q : Placed). option_map work_of (frame_at fs (place_of c.ops o.at)))) a ∙ ap (λ (k : ℕ). option_map work_of (frame_at fs k)) b ∙ ap (option_map work_of) g

  -- an instruction with a frame
  record Typed (at : ℕ) (w : Work) : Type 0 where
    place : ℕ
    placed : Placed
    frame : FlowFrame
    is_placed : slice_get c.ops place ≡ Some placed
    here : placed.at ≡ at
    is_frame : frame_at fs place ≡ Some frame
    is_work : work_of frame ≡ w

  typed_at : (at : ℕ) (w : Work) → types m at ≡ Some w → Typed at w
  typed_at at w e = by_place (at_address at c.ops) refl (sym (typed at) ∙ e)
    where
      by_frame : (o : Placed) → at_address at c.ops ≡ Some o → (g : Option FlowFrame) → frame_at fs (place_of c.ops at) ≡ g → option_map work_of g ≡ Some w → Typed at w
      by_frame o q None r h = absurd cc
      by_frame o q (Some f) r h =
          let (a, b) = found_at bytes pool 0 c.ops (length bytes) covers_all at o q in
          record { place = place_of c.ops at; placed = o; frame = f; is_placed = a; here = b; is_frame = r; is_work = cc }

      by_place : (o : Option Placed) → at_address at c.ops ≡ o → option_and_then (λ (q : Placed). option_map work_of (frame_at fs (place_of c.ops at))) o ≡ Some w → Typed at w
      by_place None q h = absurd cc
      by_place (Some o) q h = by_frame o q (frame_at fs (place_of c.ops at)) refl h

  -- ---- no rule is broken

  -- a frame isn't the clash frame
  unclashed : (i : ℕ) (f : FlowFrame) → frame_at fs i ≡ Some f → f.clash ≡ false
  unfolding broken
  unclashed i f e =
      elim (cases_Bool f.clash) [
        | inl t ↦ let k : broken p method i f ≡ [] = typing.keeps i f e in let z : ◌≡◌ {A = List ℕ} (rule.CLASH ∷ []) [] = rw t at k in absurd cc
        | inr t ↦ t
      ]

  rules_kept : (i : ℕ) (f : FlowFrame) → frame_at fs i ≡ Some f → open_rules p method i f ≡ []
  unfolding broken
  rules_kept i f e = let k : broken p method i f ≡ [] = typing.keeps i f e in rw (unclashed i f e) at k

  there : (i : ℕ) (o : Placed) → slice_get c.ops i ≡ Some o → slice_get (ops_of p m) i ≡ Some o
  there i o e = ap (λ (z : List Placed). slice_get z i) is_ops ∙ e

  whole : (i : ℕ) (o : Placed) (f : FlowFrame) → slice_get c.ops i ≡ Some o → frame_at fs i ≡ Some f → Whole p method i o (work_of f)
  whole i o f e g =
      let (a, b) = append_empty (place_rules p method i) (rules_there p method i (slice_get (ops_of p m) i) (work_of f)) (rules_kept i f g) in
      whole-of p method i o (work_of f) (subst (λ (q : Option Placed). rules_there p method i q (work_of f) ≡ []) (there i o e) b)

  -- ---- what flows

  -- what flows to a place flows to its frame at work
  flows_to : (g : FlowFrame) → g.clash ≡ false → (i : ℕ) (o : Placed) → slice_get c.ops i ≡ Some o → FitsPlace supers g (frame_at fs i) → FlowsTo p (work_of g) (types m o.at)
  flows_to g whole_one i o e fits = by_frame (frame_at fs i) refl fits
    where
      by_frame : (q : Option FlowFrame) → frame_at fs i ≡ q → FitsPlace supers g q → FlowsTo p (work_of g) (types m o.at)
      by_frame None q h = absurd h
      by_frame (Some f) q h =
          let (a, b) = fits-parts supers g f (unclashed i f q) h in
          let (x, r) = and_parts (types_fit supers g.locals f.locals) (types_fit supers g.stack f.stack && (not g.fresh || f.fresh)) b in
          let (y, z) = and_parts (types_fit supers g.stack f.stack) (not g.fresh || f.fresh) r in
          record {
            work = work_of f;
            is_work = type_at i o f e q;
            under = record { locals = x; stack = reverse_fit supers g.stack f.stack y; fresh = z };
            operands = by_kind f q;
          }
        where
          by_kind : (f : FlowFrame) → frame_at fs i ≡ Some f → AreOperands (reverse f.stack)
          by_kind f q =
              elim (frame-kind supers _ f (typing.least.closed.assignment.frames i f q)) [
                | inl k ↦ let z : false ≡ true = sym (unclashed i f q) ∙ ap (λ (x : FlowFrame). x.clash) k in absurd cc
                | inr k ↦ reverse_operands f.stack (k.1).operands
              ]

  -- a frame at work as a frame, and back
  work_back : (w : Work) → work_of (frame_of_work w) ≡ w
  work_back w = ap (λ (ts : List FlowType). record { locals = w.locals; stack = ts; fresh = w.fresh }) (reverse-reverse w.stack)

  -- what an instruction gives to one that it leads to
  given_on : (i : ℕ) (o : Placed) (f : FlowFrame) (to : ℕ) → slice_get c.ops i ≡ Some o → frame_at fs i ≡ Some f → IsIn (Next to) (edges p method i) → (b : Placed) → slice_get c.ops to ≡ Some b → FlowsTo p (next (site_of p m) (row p m o.at o.op) (work_of f)) (types m b.at)
  given_on i o f to e g (k, x) b q =
      let w : Work = next (site_of p m) (row p m o.at o.op) (work_of f) in
      let a : given p method i f (Next to) ≡ frame_of_work w =
      given-open p method i f (Next to) (unclashed i f g) ∙ after-whole p method i f (rules_kept i f g) ∙ ap (λ (z : Option Placed). frame_of_work (next_there p method z (work_of f))) (there i o e) in
      let y : FitsPlace supers (frame_of_work w) (frame_at fs to) = subst (λ (z : FlowFrame). FitsPlace supers z (frame_at fs to)) a (typing.least.closed.each i k f (Next to) g x) in
      subst (λ (z : Work). FlowsTo p z (types m b.at)) (work_back w) (flows_to (frame_of_work w) refl to b q y)

  -- ---- instructions

  same_code : (d : Code) → code_of p m ≡ Some d → c ≡ d
  same_code d e = let s : Some c ≡ Some d = sym is_code ∙ e in cc

  -- control doesn't leave the code
  goes_on : (i : ℕ) (o : Placed) → slice_get c.ops i ≡ Some o → falls o.op ≡ true → last_rules (is_past p method i o) ≡ [] → i + 1 < length c.ops
  goes_on i o e f h =
      let l : i < length c.ops = slice_get_within c.ops i o e in
      let n : (i + 1 == length (ops_of p m)) ≡ false = by_test (i + 1 == length (ops_of p m)) (rw f at h) in
      let s : length (ops_of p m) ≡ length c.ops = ap (λ (z : List Placed). length z) is_ops in
      grind (arith, nat_tests)
    where
      by_test : (t : Bool) → last_rules t ≡ [] → t ≡ false
      by_test true h = absurd cc
      by_test false h = refl

  lands_at : (i : ℕ) (o : Placed) (to : ℕ) → slice_get c.ops i ≡ Some o → has (jumps o.op) to ≡ true → Stands c.ops to
  lands_at i o to e h =
      start_stands c.ops to (passes (is_start c.ops) (targets_of o.op) to (at_place (Lands c.ops) c.ops lands i o e) (subst (λ (xs : List ℕ). has xs to ≡ true) (same_targets o.op) h))

  instruction_here : (i : ℕ) (o : Placed) (f : FlowFrame) → slice_get c.ops i ≡ Some o → frame_at fs i ≡ Some f → Instruction p types m o.at (work_of f)
  instruction_here i o f e g =
      let w : Whole p method i o (work_of f) = whole i o f e g in
      let (found, placed) = placed_at bytes pool 0 c.ops (length bytes) covers_all i o e in
      record {
        placed = o;
        is_placed = ap (option_and_then (λ (k : Code). at_address o.at k.ops)) is_code ∙ found;
        few = (fine i o e).few;
        keeps = w.rules;
        before = λ d q. subst (λ (k : Code). slots (reverse f.stack) ≤ k.max_stack) (same_code d q) (not_deep c.max_stack (reverse f.stack) w.before);
        deep = λ d q. subst (λ (k : Code). slots (next (site_of p m) (row p m o.at o.op) (work_of f)).stack ≤ k.max_stack) (same_code d q) (not_deep c.max_stack _ w.after);
        after = λ h.
            let l : i + 1 < length c.ops = goes_on i o e h w.last in
            let (b, q) = item_at c.ops (i + 1) l in
            let n : b.at ≡ o.next = next_at bytes pool 0 c.ops (length bytes) covers_all i o b e (let s : i + 1 ≡ suc i = omega arith in subst (λ (k : ℕ). slice_get c.ops k ≡ Some b) s q) in
            subst (λ (at : ℕ). FlowsTo p (next (site_of p m) (row p m o.at o.op) (work_of f)) (types m at)) n (given_on i o f (i + 1) e g (edge_falls p method c.ops is_ops i o e h l) b q);
        jumps_to = λ to h.
            let s : Stands c.ops to = lands_at i o to e h in
            let (x, y) = placed_at bytes pool 0 c.ops (length bytes) covers_all s.place s.placed s.is_placed in
            let z : slice_get c.ops (place_of c.ops to) ≡ Some s.placed = subst (λ (k : ℕ). slice_get c.ops k ≡ Some s.placed) (sym (subst (λ (at : ℕ). place_of c.ops at ≡ s.place) s.here y)) s.is_placed in
            subst (λ (at : ℕ). FlowsTo p (next (site_of p m) (row p m o.at o.op) (work_of f)) (types m at)) s.here (given_on i o f (place_of c.ops to) e g (edge_jumps p method c.ops is_ops i o e to h) s.placed z);
      }

  -- an instruction with a frame keeps to it
  pub keeps_instruction : (at : ℕ) (w : Work) → types m at ≡ Some w → Instruction p types m at w
  keeps_instruction at w e =
      let t : Typed at w = typed_at at w e in
      subst (λ (x : Work). Instruction p types m at x) t.is_work
      (subst (λ (k : ℕ). Instruction p types m k (work_of t.frame)) t.here (instruction_here t.place t.placed t.frame t.is_placed t.is_frame))

  -- ---- entry

  -- there is room for the parameters, and their frame flows to the first instruction
  pub keeps_entry : Enters p types m c
  keeps_entry = by_frame (frame_at fs 0) refl typing.least.closed.entry
    where
      roomy : (t : Bool) (a : List ℕ) → ((if t then rule.NO_LOCAL ∷ [] else []) ++ a) ≡ [] → t ≡ false
      roomy true a h = absurd cc
      roomy false a h = refl

      by_frame : (q : Option FlowFrame) → frame_at fs 0 ≡ q → FitsPlace supers (entry_frame method) q → Enters p types m c
      by_frame None q h = absurd h
      by_frame (Some f) q h =
          let l : 0 < length fs = has_place fs 0 f q in
          let n : length fs ≡ length (ops_of p m) = typing.least.closed.assignment.long in
          let s : length (ops_of p m) ≡ length c.ops = ap (λ (z : List Placed). length z) is_ops in
          let (o, e) = item_at c.ops 0 (omega arith) in
          let z : o.at ≡ 0 = first_at bytes pool 0 c.ops (length bytes) covers_all o e in
          let (a, b) = append_empty (place_rules p method 0) (rules_there p method 0 (slice_get (ops_of p m) 0) (work_of f)) (rules_kept 0 f q) in
          let r : nat_lt c.max_locals (length (parameters p m)) ≡ false = roomy (nat_lt c.max_locals (length (parameters p m))) _ a in
          record {
            room = grind (arith, nat_tests);
            flows = subst (λ (at : ℕ). FlowsTo p (work_of (entry_frame method)) (types m at)) z (flows_to (entry_frame method) refl 0 o e (subst (FitsPlace supers (entry_frame method)) (sym q) h));
          }

  -- ---- handlers

  -- what a class's object is that may be thrown
  thrown_class : (e : ℕ) (k : ℕ) → type_fits supers (class_type p e) (flow.Class throwable) ≡ true → type_fits supers (class_type p e) (class_type p k) ≡ true → type_fits supers (class_type p e) (flow.Class (plain p k)) ≡ true
  thrown_class e k t h = by_arrays (array_at p e) (array_at p k) t h
    where
      by_arrays : (x y : Option ArrayInfo) → type_fits supers (from (flow.Class (plain p e)) (λ a. flow.Array a.dims (element_type p a.elem)) x) (flow.Class throwable) ≡ true → type_fits supers (from (flow.Class (plain p e)) (λ a. flow.Array a.dims (element_type p a.elem)) x) (from (flow.Class (plain p k)) (λ a. flow.Array a.dims (element_type p a.elem)) y) ≡ true → type_fits supers (from (flow.Class (plain p e)) (λ a. flow.Array a.dims (element_type p a.elem)) x) (flow.Class (plain p k)) ≡ true
      by_arrays (Some a) y t h = absurd cc
      by_arrays None None t h = h
      by_arrays None (Some b) t h = absurd cc

  below_class : (at e : ℕ) (i : ℕ) (x : TableItem) → type_fits supers (class_type p e) (flow.Class throwable) ≡ true → takes p.classes p.targets m at e i x ≡ true → type_fits supers (class_type p e) (flow.Class (handler_class p m i x)) ≡ true
  below_class at e i x t h =
      let (a, r) = and_parts (nat_le x.start at) (nat_lt at x.end && (x.class == 0 || is_below_target p.classes e (entry_target p.targets m i))) h in
      let (b, d) = and_parts (nat_lt at x.end) (x.class == 0 || is_below_target p.classes e (entry_target p.targets m i)) r in
      by_any (x.class == 0) d
    where
      by_target : (q : Option Target) → is_below_target p.classes e q ≡ true → type_fits supers (class_type p e) (flow.Class (class_caught p q)) ≡ true
      by_target (Some (target.Class k)) g = thrown_class e k t (subs.sub_fits e k g)
      by_target (Some (target.Field k place fixed)) g = absurd cc
      by_target (Some (target.Method k)) g = absurd cc
      by_target (Some (target.Constant v)) g = absurd cc
      by_target None g = absurd cc

      by_room : (n : Bool) → is_below_target p.classes e (if n then target_at p.targets m (65536 + i) else None) ≡ true → type_fits supers (class_type p e) (flow.Class (class_caught p (target_of p m (65536 + i)))) ≡ true
      by_room true g = by_target (target_at p.targets m (65536 + i)) g
      by_room false g = absurd cc

      by_any : (n : Bool) → (n || is_below_target p.classes e (entry_target p.targets m i)) ≡ true → type_fits supers (class_type p e) (flow.Class (if n then throwable else class_caught p (target_of p m (65536 + i)))) ≡ true
      by_any true g = t
      by_any false g = by_room (nat_lt i 4294901760) g

  caught_here : (i : ℕ) (o : Placed) (f : FlowFrame) (e to : ℕ) → slice_get c.ops i ≡ Some o → frame_at fs i ≡ Some f → handler_from p.classes p.targets m o.at e 0 c.table ≡ Some to → type_fits supers (class_type p e) (flow.Class throwable) ≡ true → FlowsTo p (with_stack (work_of f) (class_type p e ∷ [])) (types m to)
  caught_here i o f e to q g h t =
      let k : Catches p m o.at e c.ops 0 c.table to = catching_entry p m o.at e c.ops 0 c.table to h in
      let x : TableItem = k.entry in
      let y : Handler = handler p m c.ops k.index x in
      let (n, is) = k.is_entry in
      let s : Stands c.ops x.handler = start_stands c.ops x.handler ((at_place (IsEntry c.ops (length bytes)) c.table entries n x is).handler) in
      let (a, b) = placed_at bytes pool 0 c.ops (length bytes) covers_all s.place s.placed s.is_placed in
      let z : slice_get c.ops (place_of c.ops x.handler) ≡ Some s.placed = subst (λ (k : ℕ). slice_get c.ops k ≡ Some s.placed) (sym (subst (λ (at : ℕ). place_of c.ops at ≡ s.place) s.here b)) s.is_placed in
      let (j, edge) = edge_caught p method c.ops is_ops i o q y k.among (in_range o.at e k.index x k.takes_it) in
      let r : given p method i f (Caught y.to y.class) ≡ frame_caught f y.class = given-open p method i f (Caught y.to y.class) (unclashed i f g) in
      let fits : FitsPlace supers (frame_caught f y.class) (frame_at fs y.to) = subst (λ (v : FlowFrame). FitsPlace supers v (frame_at fs y.to)) r (typing.least.closed.each i j f (Caught y.to y.class) g edge) in
      let flows : FlowsTo p (work_of (frame_caught f y.class)) (types m s.placed.at) = flows_to (frame_caught f y.class) refl y.to s.placed z fits in
      let u : type_fits supers (class_type p e) (flow.Class y.class) ≡ true = below_class o.at e k.index x t k.takes_it in
      let v : types_fit supers (class_type p e ∷ []) flows.work.stack ≡ true = fit-trans supers subs.tree (class_type p e ∷ []) (flow.Class y.class ∷ []) flows.work.stack (and_both _ _ u refl) flows.under.stack in
      record {
        work = flows.work;
        is_work = ap (types m) (sym k.leads ∙ sym s.here) ∙ flows.is_work;
        under = record { locals = flows.under.locals; stack = v; fresh = flows.under.fresh };
        operands = flows.operands;
      }
    where
      in_range : (at e i : ℕ) (x : TableItem) → takes p.classes p.targets m at e i x ≡ true → covers at (handler p m c.ops i x) ≡ true
      in_range at e i x h =
          let (a, r) = and_parts (nat_le x.start at) (nat_lt at x.end && (x.class == 0 || is_below_target p.classes e (entry_target p.targets m i))) h in
          let (b, d) = and_parts (nat_lt at x.end) (x.class == 0 || is_below_target p.classes e (entry_target p.targets m i)) r in
          and_both _ _ a b

  -- an exception flows to its handler
  pub keeps_handler : (at e to : ℕ) (w : Work) → types m at ≡ Some w → handler_of p m at e ≡ Some to → type_fits supers (class_type p e) (flow.Class throwable) ≡ true → FlowsTo p (with_stack w (class_type p e ∷ [])) (types m to)
  keeps_handler at e to w g h t =
      let x : Typed at w = typed_at at w g in
      let y : handler_from p.classes p.targets m at e 0 c.table ≡ Some to = sym (ap (option_and_then (λ (k : Code). handler_from p.classes p.targets m at e 0 k.table)) is_code) ∙ h in
      subst (λ (v : Work). FlowsTo p (with_stack v (class_type p e ∷ [])) (types m to)) x.is_work
      (caught_here x.place x.placed x.frame e to x.is_placed x.is_frame (subst (λ (k : ℕ). handler_from p.classes p.targets m k e 0 c.table ≡ Some to) (sym x.here) y) t)
