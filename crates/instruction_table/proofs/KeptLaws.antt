-- A row that breaks no rule leaves a frame of the method.
use Rattle.std.proofs.Common.{◌≡◌, ◌∙◌, sym, subst, refl, ℕ, ◌+◌, ◌<◌, ◌^◌, true, List, [], ◌∷◌, ◌++◌, take, drop, length, inl, inr, arith}
use Rattle.std.specs.Prelude.{nat_lt, slice_get, slice_set}
use Rattle.std.proofs.lemmas.Bool.{cases_Bool}
use Rattle.std.proofs.lemmas.Bool.Decides.{nat_tests}
use Rattle.flow_types.specs.Types.{IsType}
use Rattle.flow_types.specs.TypeLists.{is_operand, AreTypes, AreOperands}
use Rattle.flow_types.specs.declared.element.Element.{Element}
use Rattle.flow_types.specs.declared.element.Element.TheVariants.{Primitive, Object}
use Rattle.flow_types.specs.declared.flow_type.FlowType.{FlowType}
use Rattle.flow_types.specs.declared.flow_type.FlowType.TheVariants.{Unusable, Int, Long, High, Null, Class, Array, Fresh, FreshThis}
use Rattle.instruction_table.specs.Needs.{is_long, is_reference, has_part, is_reference_array, judged, need_rules, needs_rules}
use Rattle.instruction_table.specs.Working.{Site, read_type, read_rules, written, first_or, group_count, under, doubled, doubled_types, swapped, part_of, part_type, given, is_same_new, new_type, begun_one, row_rules, next}
use Rattle.instruction_table.specs.Under.{IsWork, IsGiven, IsInitGiven, IsRow, IsSite}
use Rattle.instruction_table.specs.declared.row.Slot.{Slot}
use Rattle.instruction_table.specs.declared.row.Slot.TheVariants as slot
use Rattle.instruction_table.specs.declared.row.Need.{Need}
use Rattle.instruction_table.specs.declared.row.Need.TheVariants as need
use Rattle.instruction_table.specs.declared.row.Gives.{Gives}
use Rattle.instruction_table.specs.declared.row.Gives.TheVariants as gives
use Rattle.instruction_table.specs.declared.row.Row.{Row}
use Rattle.instruction_table.specs.declared.row.Row.TheVariants as row
use Rattle.instruction_table.specs.declared.work.Work.{Work}
use Rattle.instruction_table.proofs.FitLists.{append_empty, types-drop, types-take, types-append, types-set, types-at, types-map, operands-drop, operands-take, operands-append, operands-map, length-set, length-map}
use Rattle.instruction_table.proofs.NeedLaws.{judged-view}
use Rattle.instruction_table.proofs.RowLaws.{doubled-whole, found}
use Rattle.instruction_table.proofs.RowLaws.Found.{single, double}

reference-operand : (t : FlowType) → is_reference t ≡ true → is_operand t ≡ true
reference-operand Null h = refl
reference-operand (Class c) h = refl
reference-operand (Array d e) h = refl
reference-operand (Fresh a) h = refl
reference-operand FreshThis h = refl
reference-operand _ h = absurd cc

module _ (s : Site) (site : IsSite s) where
  part-is : (d : ℕ) (e : Element) → IsType s.supers (Array d e) → has_part d e ≡ true → IsType s.supers (part_of d e) × (is_operand (part_of d e) ≡ true)
  part-is d (Primitive k) t h = ((grind (arith, nat_tests), (let x : d < 2 ^ 8 = t.1 in omega arith), tt), refl)
  part-is d (Object c) t h =
      elim (cases_Bool (nat_lt 1 d)) [
        | inl g ↦ rw g ((grind (arith, nat_tests), (let x : d < 2 ^ 8 = t.1 in omega arith), t.2), refl)
        | inr g ↦ rw g (t.2, refl)
      ]

  part-kept : (t : FlowType) → IsType s.supers t → is_reference_array t ≡ true → IsType s.supers (part_type t) × (is_operand (part_type t) ≡ true)
  part-kept Null i h = (tt, refl)
  part-kept (Array d e) i h = part-is d e i h
  part-kept _ i h = absurd cc

  -- the types that are pushed
  record Pushed (ts : List FlowType) : Type 0 where
    pub types : AreTypes s.supers ts
    pub operands : AreOperands ts

  second-kept : (n : Need) (ts : List FlowType) → AreTypes s.supers ts → needs_rules s.supers s.owner (n ∷ need.References ∷ []) ts ≡ [] → Pushed (given gives.Part ts)
  second-kept n [] i e = absurd cc
  second-kept n (a ∷ []) i e = let (x, y) = append_empty (need_rules s.supers s.owner n a) (3 ∷ []) e in absurd cc
  second-kept n (a ∷ b ∷ ts) i e =
      let (x, y) = append_empty (need_rules s.supers s.owner n a) (judged b (is_reference_array b) 9 ++ []) e in
      let (z, w) = append_empty (judged b (is_reference_array b) 9) [] y in
      let (r, f) = judged-view b (is_reference_array b) 9 z in
      let (p, q) = part-kept b (i.1.0) f in
      record { types = (p, tt); operands = (q, tt) }

  given-kept : (needs : List Need) (g : Gives) (ts : List FlowType) → IsGiven s.supers needs g → AreTypes s.supers ts → needs_rules s.supers s.owner needs ts ≡ [] → Pushed (given g ts)
  given-kept needs gives.Nothing ts k i e = record { types = tt; operands = tt }
  given-kept needs (gives.One t) ts k i e = record { types = (k.0, tt); operands = (k.1, tt) }
  given-kept needs gives.Part ts (n, p) i e = second-kept n ts i (subst (λ z. needs_rules s.supers s.owner z ts ≡ []) p e)

  init-kept : (g : Gives) (ts : List FlowType) → IsInitGiven s.supers g → Pushed (given g ts)
  init-kept gives.Nothing ts k = record { types = tt; operands = tt }
  init-kept (gives.One t) ts k = record { types = (k.0, tt); operands = (k.1, tt) }
  init-kept gives.Part ts k = absurd k

  new-kept : (was : FlowType) → IsType s.supers (new_type s was)
  new-kept (Fresh a) = site.news a
  new-kept FreshThis = site.owner
  new-kept Unusable = site.owner
  new-kept Int = site.owner
  new-kept Long = site.owner
  new-kept High = site.owner
  new-kept Null = site.owner
  new-kept (Class c) = site.owner
  new-kept (Array d e) = site.owner

  new-operand : (was : FlowType) → is_operand (new_type s was) ≡ true
  new-operand (Fresh a) = refl
  new-operand FreshThis = refl
  new-operand Unusable = refl
  new-operand Int = refl
  new-operand Long = refl
  new-operand High = refl
  new-operand Null = refl
  new-operand (Class c) = refl
  new-operand (Array d e) = refl

  begun-type : (was t : FlowType) → IsType s.supers t → IsType s.supers (begun_one was (new_type s was) t)
  begun-type was t i = elim (cases_Bool (is_same_new was t)) [ inl h ↦ rw h (new-kept was) | inr h ↦ rw h i ]

  begun-operand : (was t : FlowType) → is_operand t ≡ true → is_operand (begun_one was (new_type s was) t) ≡ true
  begun-operand was t o = elim (cases_Bool (is_same_new was t)) [ inl h ↦ rw h (new-operand was) | inr h ↦ rw h o ]

  read-kept : (k : Slot) (n : ℕ) (xs : List FlowType) → AreTypes s.supers xs → read_rules k (slice_get xs n) (slice_get xs (n + 1)) ≡ [] → IsType s.supers (read_type k (slice_get xs n)) × (is_operand (read_type k (slice_get xs n)) ≡ true)
  read-kept slot.Int n xs i e = (tt, refl)
  read-kept slot.Long n xs i e = (tt, refl)
  read-kept slot.Reference n xs i e = elim (found slot.Reference (slice_get xs n) (slice_get xs (n + 1)) e) [
    | single t a h z ↦ rw (a, h) (types-at s.supers n xs t i a, reference-operand t h)
    | double t u a b z h j ↦ absurd cc
  ]

  first-kept : (ts : List FlowType) → AreTypes s.supers ts → IsType s.supers (first_or Unusable ts)
  first-kept [] i = tt
  first-kept (t ∷ ts) i = i.0

  written-kept : (k : Slot) (n : ℕ) (t : FlowType) (xs : List FlowType) → AreTypes s.supers xs → IsType s.supers t → AreTypes s.supers (written k n t xs) × (length (written k n t xs) ≡ length xs)
  written-kept slot.Int n t xs i j = (types-set s.supers n xs t i j, length-set n xs t)
  written-kept slot.Reference n t xs i j = (types-set s.supers n xs t i j, length-set n xs t)
  written-kept slot.Long n t xs i j = (types-set s.supers (n + 1) (slice_set xs n t) High (types-set s.supers n xs t i j) tt, length-set (n + 1) (slice_set xs n t) High ∙ length-set n xs t)

  swap-kept : (ts : List FlowType) → AreTypes s.supers ts → AreOperands ts → Pushed (swapped ts)
  swap-kept [] i o = record { types = tt; operands = tt }
  swap-kept (t ∷ []) i o = record { types = i; operands = o }
  swap-kept (t ∷ u ∷ ts) i o = record { types = (i.1.0, (i.0, i.1.1)); operands = (o.1.0, (o.0, o.1.1)) }

  doubled-kept : (k n : ℕ) (ts : List FlowType) → AreTypes s.supers ts → AreOperands ts → Pushed (doubled k n ts)
  doubled-kept k n ts i o =
      let d : AreTypes s.supers (drop k ts) = types-drop s.supers k ts i in
      let e : AreOperands (drop k ts) = operands-drop k ts o in
      record {
        types = types-append s.supers (take k ts) _ (types-take s.supers k ts i) (types-append s.supers (take n (drop k ts)) _ (types-take s.supers n (drop k ts) d) (types-append s.supers (take k ts) _ (types-take s.supers k ts i) (types-drop s.supers n (drop k ts) d)));
        operands = operands-append (take k ts) _ (operands-take k ts o) (operands-append (take n (drop k ts)) _ (operands-take n (drop k ts) e) (operands-append (take k ts) _ (operands-take k ts o) (operands-drop n (drop k ts) e)));
      }

  pub next-kept : (r : Row) → IsRow s.supers r → (room : ℕ) (w : Work) → IsWork s.supers room w → row_rules s r w ≡ [] → IsWork s.supers room (next s r w)
  next-kept (row.Acts needs g) k room w i e =
      let p : Pushed (given g w.stack) = given-kept needs g w.stack k i.stack e in
      record {
        count = i.count;
        locals = i.locals;
        stack = types-append s.supers (given g w.stack) _ p.types (types-drop s.supers (length needs) w.stack i.stack);
        operands = operands-append (given g w.stack) _ p.operands (operands-drop (length needs) w.stack i.operands);
      }
  next-kept (row.Reads a n) k room w i e =
      let (p, q) = read-kept a n w.locals i.locals e in
      record { count = i.count; locals = i.locals; stack = (p, i.stack); operands = (q, i.operands) }
  next-kept (row.Writes a n) k room w i e =
      let (p, q) = written-kept a n (first_or Unusable w.stack) w.locals i.locals (first-kept w.stack i.stack) in
      record { count = q ∙ i.count; locals = p; stack = types-drop s.supers 1 w.stack i.stack; operands = operands-drop 1 w.stack i.operands }
  next-kept (row.Bumps n) k room w i e = i
  next-kept (row.Drops g) k room w i e = record {
    count = i.count;
    locals = i.locals;
    stack = types-drop s.supers (group_count is_long g w.stack) w.stack i.stack;
    operands = operands-drop (group_count is_long g w.stack) w.stack i.operands;
  }
  next-kept (row.Doubles a b) k room w i e =
      let f : doubled_types a b w.stack ≡ doubled (group_count is_long a w.stack) (group_count is_long b (under a w.stack)) w.stack = doubled-whole a b w.stack e in
      let p : Pushed (doubled_types a b w.stack) = subst Pushed (sym f) (doubled-kept (group_count is_long a w.stack) (group_count is_long b (under a w.stack)) w.stack i.stack i.operands) in
      record { count = i.count; locals = i.locals; stack = p.types; operands = p.operands }
  next-kept row.Swaps k room w i e =
      let p : Pushed (swapped w.stack) = swap-kept w.stack i.stack i.operands in
      record { count = i.count; locals = i.locals; stack = p.types; operands = p.operands }
  next-kept (row.Inits needs c g) k room w i e =
      let was = first_or Null (drop (length needs) w.stack) in
      let p : Pushed (given g w.stack) = init-kept g w.stack k in
      record {
        count = length-map (begun_one was (new_type s was)) w.locals ∙ i.count;
        locals = types-map s.supers (begun_one was (new_type s was)) (begun-type was) w.locals i.locals;
        stack = types-append s.supers (given g w.stack) _ p.types (types-map s.supers (begun_one was (new_type s was)) (begun-type was) (drop 1 (drop (length needs) w.stack)) (types-drop s.supers 1 (drop (length needs) w.stack) (types-drop s.supers (length needs) w.stack i.stack)));
        operands = operands-append (given g w.stack) _ p.operands (operands-map (begun_one was (new_type s was)) (begun-operand was) (drop 1 (drop (length needs) w.stack)) (operands-drop 1 (drop (length needs) w.stack) (operands-drop (length needs) w.stack i.operands)));
      }
  next-kept (row.Ends needs fine) k room w i e = record {
    count = i.count;
    locals = i.locals;
    stack = types-drop s.supers (length needs) w.stack i.stack;
    operands = operands-drop (length needs) w.stack i.operands;
  }
