-- Instructions by themselves: the frame fits after, and no operand is missing.
use Rattle.std.proofs.Common.{◌≡◌, ◌∙◌, sym, ap, subst, refl, ℕ, zero, suc, ◌-◌, Bool, true, false, List, [], ◌∷◌, ◌++◌, map, take, drop, length, Option, Some, None, arith}
use Rattle.std.specs.Prelude.{◌&&◌, ◌||◌, ◌==◌, if◌then◌else◌, slice_get, find, ℤ, pos}
use Rattle.std.specs.Int.{Width, w32, w64, int_wrapping_add, int_wrapping_neg}
use Rattle.std.specs.List.{list_any}
use Rattle.std.specs.Ordering.{int_eq}
use Rattle.std.proofs.lemmas.Bool.{eqb-true}
use Rattle.std.proofs.lemmas.Bool.Decides.{nat_tests}
use Rattle.std.proofs.lemmas.List.{length-reverse, length-map}
use Rattle.jvm_base.specs.Words.{from}
use Rattle.jvm_base.specs.declared.desc.Desc.{Desc}
use Rattle.jvm_base.specs.declared.desc.MethodDesc.{MethodDesc}
use Rattle.jvm_base.specs.declared.name.Name.{Name}
use Rattle.jvm_base.specs.declared.value.Value.{Value}
use Rattle.jvm_base.specs.declared.value.Value.TheVariants.{Int, Long, Ref, Null}
use Rattle.code_table.specs.declared.op.Op.{Op}
use Rattle.code_table.specs.declared.op.Op.TheVariants as op
use Rattle.code_table.specs.declared.opcode.TheConstants as code
use Rattle.hierarchy.specs.Walks.{has}
use Rattle.program_image.specs.declared.info.Target.{Target}
use Rattle.program_image.specs.Program.{Program, target_of}
use Rattle.program_image.specs.Subclass.{is_sub_of}
use Rattle.flow_types.specs.Tree.{superclasses, superclass}
use Rattle.flow_types.specs.Tables.{in_table}
use Rattle.flow_types.specs.Types.{type_fits}
use Rattle.flow_types.specs.TypeLists.{is_operand}
use Rattle.flow_types.specs.declared.element.Primitive.{Primitive as PrimitiveType}
use Rattle.flow_types.specs.declared.element.Primitive.TheVariants as primitive
use Rattle.flow_types.specs.declared.flow_type.FlowType.{FlowType}
use Rattle.flow_types.specs.declared.flow_type.FlowType.TheVariants as flow
use Rattle.flow_types.proofs.ListLaws.{and_parts, and_both}
use Rattle.flow_types.proofs.TreeLaws.{below-from}
use Rattle.flow_types.proofs.TypeLaws.{type-refl, type-trans}
use Rattle.instruction_table.specs.ClassTypes.{class_type, value_type, constant_type, desc_type, owner_of, new_class, class_in, field_class_in, method_in, is_initialiser}
use Rattle.instruction_table.specs.Needs.{is_int, need_rules, needs_rules}
use Rattle.instruction_table.specs.Rows.{row, jumps, falls, is_on_ints, number, number_type, value, reference, object_of, load_slot, store_slot, array_loads, array_load, array_stores, array_store, pop_row, dups, dup_row, resize_row, field_row, arguments, result, receiver_class, invoke_row, cast_row}
use Rattle.instruction_table.specs.Working.{site_of, taken_rules, given, read_rules, is_own_or_super, init_rules, inits_rules, row_rules, next}
use Rattle.instruction_table.specs.declared.row.Need.{Need}
use Rattle.instruction_table.specs.declared.row.Need.TheVariants as need
use Rattle.instruction_table.specs.declared.row.Gives.{Gives}
use Rattle.instruction_table.specs.declared.row.Gives.TheVariants as gives
use Rattle.instruction_table.specs.declared.row.Group.TheVariants as group
use Rattle.instruction_table.specs.declared.row.Slot.TheVariants as slot
use Rattle.instruction_table.specs.declared.row.Row.{Row}
use Rattle.instruction_table.specs.declared.row.Row.TheVariants as row_of
use Rattle.instruction_table.specs.declared.rule.TheConstants as rule
use Rattle.instruction_table.specs.declared.work.Work.{Work}
use Rattle.instruction_table.proofs.FitLists.{append_empty, if_empty}
use Rattle.frame_ops.specs.declared.answer.Fault.TheVariants as fault
use Rattle.frame_ops.specs.declared.answer.Given.{Given}
use Rattle.frame_ops.specs.declared.answer.Given.TheVariants as given_as
use Rattle.frame_ops.specs.Moves.{Move, Goes, Jumps, Sets, Raises, Throws, Asks, Calls, Leaves, Stuck}
use Rattle.frame_ops.specs.Narrowing.{as_byte, as_unit, as_short, as_int}
use Rattle.frame_ops.specs.Numbers.{arithmetic, division, bitwise, shifted as shifted_by, shift_count, ordered, compares}
use Rattle.frame_ops.specs.Operands.{one, two, one_int, two_ints, two_longs, long_and_int, two_numbers, is_zero, divides, negates, shifts, resizes, branches, passes_refs, passes_null, table_target, pair_target, is_of_key, local_at, stores, bumps, shuffled, with_reference, unless_null, field_move, call_move, throws, with_sizes, is_negative_size, casts, given_constant, given_fit}
use Rattle.frame_ops.specs.Table.{move_of}
use Rattle.machine_state.specs.Classes.{constant_in}
use Rattle.machine_state.specs.Instructions.{given_to, given_fits}
use Rattle.frame_soundness.specs.AcceptedProgram.{Subs, IsSwitch, next_at}
use Rattle.frame_soundness.specs.Fitting.{Both, Fits}
use Rattle.frame_soundness.specs.Meeting.{met, all_met}
use Rattle.frame_soundness.specs.Moving.{IsThrown, MayAsk, MayCall, Moves, IsPushed, IsTold, MovesLaw}
use Rattle.frame_soundness.specs.Values.{is_there, erased, held, all_held}
use Rattle.frame_soundness.proofs.HeldLaws.{ClassShape, a_class, an_array, class-shape, int-met, met-of, all-met, Reference, nothing_there, object, reference as reference_is}
use Rattle.frame_soundness.proofs.RowLaws.{all_there, all-there, acts-fit, reads-fit, writes-fit, drops-fit, doubles-fit, swaps-fit, bumps-fit, read-some, both-none, both-cons, no-values, held-local}

-- ---- tables by number

-- a property of each row of a table
abbrev pub AllRows : {A : Type 0} → (A → Type 0) → List (ℕ × A) → Type 0
AllRows P [] = Unit {0}
AllRows P (r ∷ rows) = P r.1 × AllRows P rows

-- what holds of each row and of the other thing holds of what the table has
pub in-table : {A : Type 0} (P : A → Type 0) (rows : List (ℕ × A)) (other : A) (n : ℕ) → AllRows P rows → P other → P (in_table rows other n)
in-table P [] other n h k = k
in-table P (r ∷ rows) other n h k = by_test (n == r.0) (in-table P rows other n h.1 k)
  where
    by_test : (b : Bool) → P (in_table rows other n) → P (if b then r.1 else in_table rows other n)
    by_test true x = h.0
    by_test false x = x

pub eqb-refl : (n : ℕ) → (n == n) ≡ true
eqb-refl n = grind (arith, nat_tests)

-- ---- moves that put nothing

-- something is asked (true) or called (false), or raised
abbrev pub Safe : Bool → Move → Type 0
Safe true Asks = Unit {0}
Safe false Calls = Unit {0}
Safe b (Raises k) = Unit {0}
Safe b _ = ⊥

-- a need that only references and null meet
abbrev pub OfReference : Need → Type 0
OfReference need.Int = ⊥
OfReference need.Long = ⊥
OfReference _ = Unit {0}

module _ (image : Program) where
  unless-safe : (b : Bool) (n : Need) (v : Value) (m : Move) → OfReference n → met image n v ≡ true → Safe b m → Safe b (unless_null m v)
  unless-safe b n (Ref o) m r h s = s
  unless-safe true n Null m r h s = tt
  unless-safe false n Null m r h s = tt
  unless-safe b need.Int (Int a) m r h s = absurd r
  unless-safe b need.Long (Long a) m r h s = absurd r
  unless-safe b _ (Int a) m r h s = absurd cc
  unless-safe b _ (Long a) m r h s = absurd cc

  -- an operand that must be a reference is one, or null
  pub safe-reference : (b : Bool) (depth : ℕ) (ns : List Need) (vs : List Value) (n : Need) (m : Move) → all_met image ns vs ≡ true → slice_get ns depth ≡ Some n → OfReference n → Safe b m → Safe b (with_reference depth m vs)
  safe-reference b depth [] vs n m h e r s = absurd cc
  safe-reference b depth (k ∷ ns) [] n m h e r s = absurd cc
  safe-reference b zero (k ∷ ns) (v ∷ vs) n m h e r s = let q : k ≡ n = cc in unless-safe b k v m (subst OfReference (sym q) r) ((and_parts _ _ h).0) s
  safe-reference b (suc d) (k ∷ ns) (v ∷ vs) n m h e r s = safe-reference b d ns vs n m ((and_parts _ _ h).1) e r s

pub get-last : {A : Type 0} (xs : List A) (x : A) (n : ℕ) → length xs ≡ n → slice_get (xs ++ x ∷ []) n ≡ Some x
get-last [] x zero e = refl
get-last [] x (suc n) e = absurd (omega arith)
get-last (y ∷ xs) x zero e = absurd (omega arith)
get-last (y ∷ xs) x (suc n) e = get-last xs x n (omega arith)

pub arguments-length : (image : Program) (ds : List Desc) → length (arguments image ds) ≡ length ds
arguments-length image ds = length-reverse (map (λ d. value rule.REFERENCE (desc_type image d)) ds) ∙ length-map ds (λ d. value rule.REFERENCE (desc_type image d))

-- ---- moves that put values

-- what a move of an instruction that only takes and gives owes: it takes so many operands and puts
-- values of these types
abbrev pub Acted : Program → ℕ → (Name → Bool) → Op → ℕ → List FlowType → List Value → Move → Type 0
Acted image method there o n ts vs (Goes us) = (falls o ≡ true) × (rs : List Value) × (us ≡ rs ++ drop n vs) × Both image method there rs ts
Acted image method there o n ts vs (Jumps to us) = (has (jumps o) to ≡ true) × (rs : List Value) × (us ≡ rs ++ drop n vs) × Both image method there rs ts
Acted image method there o n ts vs (Throws e) = IsThrown image there e
Acted image method there o n ts vs (Raises k) = Unit {0}
Acted image method there o n ts vs _ = ⊥

module _ (image : Program) (method : ℕ) (there : Name → Bool) where
  -- the generic step from what is owed to the frame after
  acted : (o : Op) (needs : List Need) (g : Gives) (ls vs : List Value) (w : Work) (m : Move) → Fits image method there ls vs w → Acted image method there o (length needs) (given g w.stack) vs m → Moves image method there ls o (next (site_of image method) (row_of.Acts needs g) w) m
  acted o needs g ls vs w (Goes us) f (h, rs, e, b) = (h, subst (λ x. Fits image method there ls x (next (site_of image method) (row_of.Acts needs g) w)) (sym e) (acts-fit image method there needs g ls vs rs w f b))
  acted o needs g ls vs w (Jumps to us) f (h, rs, e, b) = (h, subst (λ x. Fits image method there ls x (next (site_of image method) (row_of.Acts needs g) w)) (sym e) (acts-fit image method there needs g ls vs rs w f b))
  acted o needs g ls vs w (Sets i new us) f h = absurd h
  acted o needs g ls vs w (Throws e) f h = h
  acted o needs g ls vs w (Raises k) f h = tt
  acted o needs g ls vs w Asks f h = absurd h
  acted o needs g ls vs w Calls f h = absurd h
  acted o needs g ls vs w (Leaves v) f h = absurd h
  acted o needs g ls vs w Stuck f h = absurd h

  safe-asks : (o : Op) (ls : List Value) (w : Work) (m : Move) → MayAsk o → Safe true m → Moves image method there ls o w m
  safe-asks o ls w Asks k s = k
  safe-asks o ls w (Raises x) k s = tt
  safe-asks o ls w Calls k s = absurd s
  safe-asks o ls w (Goes vs) k s = absurd s
  safe-asks o ls w (Jumps to vs) k s = absurd s
  safe-asks o ls w (Sets i new vs) k s = absurd s
  safe-asks o ls w (Throws e) k s = absurd s
  safe-asks o ls w (Leaves v) k s = absurd s
  safe-asks o ls w Stuck k s = absurd s

  safe-calls : (o : Op) (ls : List Value) (w : Work) (m : Move) → MayCall o → Safe false m → Moves image method there ls o w m
  safe-calls o ls w Calls k s = k
  safe-calls o ls w (Raises x) k s = tt
  safe-calls o ls w Asks k s = absurd s
  safe-calls o ls w (Goes vs) k s = absurd s
  safe-calls o ls w (Jumps to vs) k s = absurd s
  safe-calls o ls w (Sets i new vs) k s = absurd s
  safe-calls o ls w (Throws e) k s = absurd s
  safe-calls o ls w (Leaves v) k s = absurd s
  safe-calls o ls w Stuck k s = absurd s

  -- one value of a type
  single : (v : Value) (t : FlowType) → held image method there v t ≡ true → is_operand t ≡ true → Both image method there (v ∷ []) (t ∷ [])
  single v t h s = both-cons image method there v t [] [] h s (both-none image method there)

  an-int : (a : ℤ) → Both image method there (Int a ∷ []) (flow.Int ∷ [])
  an-int a = single (Int a) flow.Int refl refl

  a-long : (a : ℤ) → Both image method there (Long a ∷ []) (flow.Long ∷ [])
  a-long a = single (Long a) flow.Long refl refl

  -- ---- families

  ints : (o : Op) (f : ℤ → ℤ → ℤ) (vs : List Value) → falls o ≡ true → all_met image (need.Int ∷ need.Int ∷ []) vs ≡ true → Acted image method there o 2 (flow.Int ∷ []) vs (two_ints (λ a b rest. Goes (Int (f a b) ∷ rest)) vs)
  ints o f (Int b ∷ Int a ∷ vs) k h = (k, Int (f a b) ∷ [], refl, an-int (f a b))
  ints o f _ k h = absurd cc

  longs : (o : Op) (f : ℤ → ℤ → ℤ) (vs : List Value) → falls o ≡ true → all_met image (need.Long ∷ need.Long ∷ []) vs ≡ true → Acted image method there o 2 (flow.Long ∷ []) vs (two_longs (λ a b rest. Goes (Long (f a b) ∷ rest)) vs)
  longs o f (Long b ∷ Long a ∷ vs) k h = (k, Long (f a b) ∷ [], refl, a-long (f a b))
  longs o f _ k h = absurd cc

  kinds : (o : Op) (k : ℕ) (f : Width → ℤ → ℤ → ℤ) (vs : List Value) → falls o ≡ true → all_met image (number k ∷ number k ∷ []) vs ≡ true → Acted image method there o 2 (number_type k ∷ []) vs (two_numbers k f vs)
  kinds o k f vs h = by_test (is_on_ints k)
    where
      by_test : (b : Bool) → all_met image ((if b then need.Int else need.Long) ∷ (if b then need.Int else need.Long) ∷ []) vs ≡ true → Acted image method there o 2 ((if b then flow.Int else flow.Long) ∷ []) vs (if b then two_ints (λ a b rest. Goes (Int (f w32 a b) ∷ rest)) vs else two_longs (λ a b rest. Goes (Long (f w64 a b) ∷ rest)) vs)
      by_test true m = ints o (f w32) vs h m
      by_test false m = longs o (f w64) vs h m

  divide : (k : ℕ) (vs : List Value) → all_met image (number k ∷ number k ∷ []) vs ≡ true → Acted image method there (op.Divide k) 2 (number_type k ∷ []) vs (divides k (division k) vs)
  divide k [] m = absurd cc
  divide k (b ∷ vs) m = by_test (is_zero b)
    where
      by_test : (t : Bool) → Acted image method there (op.Divide k) 2 (number_type k ∷ []) (b ∷ vs) (if t then Raises fault.Arithmetic else two_numbers k (division k) (b ∷ vs))
      by_test true = tt
      by_test false = kinds (op.Divide k) k (division k) (b ∷ vs) refl m

  negate : (k : ℕ) (vs : List Value) → all_met image (number k ∷ []) vs ≡ true → Acted image method there (op.Negate k) 1 (number_type k ∷ []) vs (negates vs)
  negate k vs = by_test (is_on_ints k) vs
    where
      by_test : (b : Bool) (vs : List Value) → all_met image ((if b then need.Int else need.Long) ∷ []) vs ≡ true → Acted image method there (op.Negate k) 1 ((if b then flow.Int else flow.Long) ∷ []) vs (negates vs)
      by_test true (Int a ∷ vs) m = (refl, Int (int_wrapping_neg w32 a) ∷ [], refl, an-int (int_wrapping_neg w32 a))
      by_test false (Long a ∷ vs) m = (refl, Long (int_wrapping_neg w64 a) ∷ [], refl, a-long (int_wrapping_neg w64 a))
      by_test true _ m = absurd cc
      by_test false _ m = absurd cc

  shift : (k : ℕ) (vs : List Value) → all_met image (need.Int ∷ number k ∷ []) vs ≡ true → Acted image method there (op.Shift k) 2 (number_type k ∷ []) vs (shifts k vs)
  shift k vs = by_test (is_on_ints k) vs
    where
      by_test : (b : Bool) (vs : List Value) → all_met image (need.Int ∷ (if b then need.Int else need.Long) ∷ []) vs ≡ true → Acted image method there (op.Shift k) 2 ((if b then flow.Int else flow.Long) ∷ []) vs (if b then two_ints (λ a b rest. Goes (Int (shifted_by k w32 a (shift_count 32 b)) ∷ rest)) vs else long_and_int (λ a b rest. Goes (Long (shifted_by k w64 a (shift_count 64 b)) ∷ rest)) vs)
      by_test true vs m = ints (op.Shift k) (λ a b. shifted_by k w32 a (shift_count 32 b)) vs refl m
      by_test false (Int b ∷ Long a ∷ vs) m = (refl, Long (shifted_by k w64 a (shift_count 64 b)) ∷ [], refl, a-long _)
      by_test false _ m = absurd cc

  compare : (vs : List Value) → all_met image (need.Long ∷ need.Long ∷ []) vs ≡ true → Acted image method there op.Lcmp 2 (flow.Int ∷ []) vs (two_longs (λ a b rest. Goes (Int (ordered a b) ∷ rest)) vs)
  compare (Long b ∷ Long a ∷ vs) m = (refl, Int (ordered a b) ∷ [], refl, an-int (ordered a b))
  compare _ m = absurd cc

  -- ---- ways

  pub first-among : (n : ℕ) (ns : List ℕ) → has (n ∷ ns) n ≡ true
  first-among n ns = rw (eqb-refl n) refl

  branch : (o : Op) (to : ℕ) (n : ℕ) (vs us : List Value) (b : Bool) → us ≡ drop n vs → falls o ≡ true → has (jumps o) to ≡ true → Acted image method there o n [] vs (branches b to us)
  branch o to n vs us true e f h = (h, [], e, both-none image method there)
  branch o to n vs us false e f h = (f, [], e, both-none image method there)

  pair-among : (other : ℕ) (pairs : List (ℤ × ℕ)) (k : ℤ) → has (other ∷ map (λ p. p.1) pairs) (pair_target other pairs k) ≡ true
  pair-among other [] k = first-among other []
  pair-among other (p ∷ ps) k = by_test (int_eq p.0 k) (pair-among other ps k)
    where
      later : (x y : Bool) (t : Bool) → (x || y) ≡ true → (x || (t || y)) ≡ true
      later true y t h = refl
      later false true true h = refl
      later false true false h = refl
      later false false t h = absurd cc

      chosen : (x : Bool) → (x || true) ≡ true
      chosen true = refl
      chosen false = refl

      by_test : (b : Bool) → has (other ∷ map (λ p. p.1) ps) (pair_target other ps k) ≡ true → has (other ∷ p.1 ∷ map (λ p. p.1) ps) (from other (λ p. p.1) (if b then Some p else find (is_of_key k) ps)) ≡ true
      by_test true h = rw (eqb-refl p.1) (chosen (other == p.1))
      by_test false h = later (other == pair_target other ps k) _ (p.1 == pair_target other ps k) h

  if-zero : (k to : ℕ) (vs : List Value) → all_met image (need.Int ∷ []) vs ≡ true → Acted image method there (op.IfZero k to) 1 [] vs (one_int (λ a rest. branches (compares (k - code.IFEQ) a (pos 0)) to rest) vs)
  if-zero k to (Int a ∷ vs) m = branch (op.IfZero k to) to 1 (Int a ∷ vs) vs (compares (k - code.IFEQ) a (pos 0)) refl refl (first-among to [])
  if-zero k to _ m = absurd cc

  if-ints : (k to : ℕ) (vs : List Value) → all_met image (need.Int ∷ need.Int ∷ []) vs ≡ true → Acted image method there (op.IfInts k to) 2 [] vs (two_ints (λ a b rest. branches (compares (k - code.IF_ICMPEQ) a b) to rest) vs)
  if-ints k to (Int b ∷ Int a ∷ vs) m = branch (op.IfInts k to) to 2 (Int b ∷ Int a ∷ vs) vs (compares (k - code.IF_ICMPEQ) a b) refl refl (first-among to [])
  if-ints k to _ m = absurd cc

  table-switch : (other : ℕ) (low high : ℤ) (to : List ℕ) (vs : List Value) → IsSwitch (op.TableSwitch other low high to) → all_met image (need.Int ∷ []) vs ≡ true → Acted image method there (op.TableSwitch other low high to) 1 [] vs (one_int (λ k rest. Jumps (table_target other low high to k) rest) vs)
  table-switch other low high to (Int k ∷ vs) s m = (s k, [], refl, both-none image method there)
  table-switch other low high to _ s m = absurd cc

  pair-switch : (other : ℕ) (pairs : List (ℤ × ℕ)) (vs : List Value) → all_met image (need.Int ∷ []) vs ≡ true → Acted image method there (op.LookupSwitch other pairs) 1 [] vs (one_int (λ k rest. Jumps (pair_target other pairs k) rest) vs)
  pair-switch other pairs (Int k ∷ vs) m = (pair-among other pairs k, [], refl, both-none image method there)
  pair-switch other pairs _ m = absurd cc

  if-refs : (k to : ℕ) (vs : List Value) → all_met image (reference ∷ reference ∷ []) vs ≡ true → Acted image method there (op.IfRefs k to) 2 [] vs (two (λ a b rest. branches (passes_refs k a b) to rest) vs)
  if-refs k to [] m = absurd cc
  if-refs k to (b ∷ []) m = let (p, q) = and_parts (met image reference b) false m in absurd cc
  if-refs k to (b ∷ a ∷ vs) m = branch (op.IfRefs k to) to 2 (b ∷ a ∷ vs) vs _ refl refl (first-among to [])

  if-null : (k to : ℕ) (vs : List Value) → all_met image (reference ∷ []) vs ≡ true → Acted image method there (op.IfNull k to) 1 [] vs (one (λ a rest. branches (passes_null k a) to rest) vs)
  if-null k to [] m = absurd cc
  if-null k to (a ∷ vs) m = branch (op.IfNull k to) to 1 (a ∷ vs) vs _ refl refl (first-among to [])

  -- ---- values that an instruction names, and casts

  shape-operand : (t : FlowType) → ClassShape t → is_operand t ≡ true
  shape-operand t (a_class c e) = rw e refl
  shape-operand t (an_array d x e) = rw e refl

  shape-erased : (t : FlowType) → ClassShape t → erased image method t ≡ t
  shape-erased t (a_class c e) = rw e refl
  shape-erased t (an_array d x e) = rw e refl

  shape-null : (t : FlowType) → ClassShape t → type_fits (superclasses image) flow.Null t ≡ true
  shape-null t (a_class c e) = rw e refl
  shape-null t (an_array d x e) = rw e refl

  module _ (subs : Subs image) where
    pub class-held : (n : Name) (c : ℕ) → there n ≡ true → type_fits (superclasses image) (class_type image n.class) (class_type image c) ≡ true → Both image method there (Ref n ∷ []) (class_type image c ∷ [])
    class-held n c k h = single (Ref n) (class_type image c) (and_both _ _ k (subst (λ x. type_fits (superclasses image) (class_type image n.class) x ≡ true) (sym (shape-erased _ (class-shape image c))) h)) (shape-operand _ (class-shape image c))

    pub null-held : (c : ℕ) → Both image method there (Null ∷ []) (class_type image c ∷ [])
    null-held c = single Null (class_type image c) (subst (λ x. type_fits (superclasses image) flow.Null x ≡ true) (sym (shape-erased _ (class-shape image c))) (shape-null _ (class-shape image c))) (shape-operand _ (class-shape image c))

    pub own-type : (v : Value) → is_there there v ≡ true → Both image method there (v ∷ []) (value_type image v ∷ [])
    own-type (Int a) k = an-int a
    own-type (Long a) k = a-long a
    own-type Null k = single Null flow.Null refl refl
    own-type (Ref n) k = class-held n n.class k (type-refl (superclasses image) subs.tree (class_type image n.class))

    -- the values on the stack meet the needs of a row
    needs-met : (needs : List Need) (ls vs : List Value) (w : Work) → Fits image method there ls vs w → needs_rules (superclasses image) (owner_of image method) needs w.stack ≡ [] → all_met image needs vs ≡ true
    needs-met needs ls vs w f h = all-met image subs.tree method there needs vs w.stack f.stack.held h

    -- ---- casts

    abbrev cast_of : Option Target → Bool → Row
    cast_of t b = if b then row_of.Acts (reference ∷ []) (gives.One (class_type image (class_in t))) else row_of.Acts (reference ∷ []) (gives.One flow.Int)

    cast-met : (t : Option Target) (ls vs : List Value) (w : Work) → Fits image method there ls vs w → (b : Bool) → row_rules (site_of image method) (cast_of t b) w ≡ [] → all_met image (reference ∷ []) vs ≡ true
    cast-met t ls vs w f true h = needs-met (reference ∷ []) ls vs w f h
    cast-met t ls vs w f false h = needs-met (reference ∷ []) ls vs w f h

    cast-move : (k i : ℕ) (t : Option Target) (ls vs : List Value) (w : Work) → Fits image method there ls vs w → row_rules (site_of image method) (cast_row k (class_type image (class_in t))) w ≡ [] → all_there there vs ≡ true → all_met image (reference ∷ []) vs ≡ true → Moves image method there ls (op.Cast k i) (next (site_of image method) (cast_row k (class_type image (class_in t))) w) (casts k (given_fit (given_fits image t vs)) vs)
    cast-move k i t ls [] w f h r m = absurd cc
    cast-move k i t ls (Int a ∷ vs) w f h r m = absurd cc
    cast-move k i t ls (Long a ∷ vs) w f h r m = absurd cc
    cast-move k i t ls (Null ∷ vs) w f h r m = by_test (k == code.CHECKCAST)
      where
        by_test : (b : Bool) → Moves image method there ls (op.Cast k i) (next (site_of image method) (cast_of t b) w) (if b then Goes (Null ∷ vs) else Goes (Int (pos 0) ∷ vs))
        by_test true = acted (op.Cast k i) (reference ∷ []) (gives.One (class_type image (class_in t))) ls (Null ∷ vs) w (Goes (Null ∷ vs)) f (refl, Null ∷ [], refl, null-held (class_in t))
        by_test false = acted (op.Cast k i) (reference ∷ []) (gives.One flow.Int) ls (Null ∷ vs) w (Goes (Int (pos 0) ∷ vs)) f (refl, Int (pos 0) ∷ [], refl, an-int (pos 0))
    cast-move k i t ls (Ref n ∷ vs) w f h r m = by_test (k == code.CHECKCAST) (is_sub_of image.classes n.class (class_in t)) refl
      where
        by_test : (b x : Bool) → is_sub_of image.classes n.class (class_in t) ≡ x → Moves image method there ls (op.Cast k i) (next (site_of image method) (cast_of t b) w) (if b then (if x then Goes (Ref n ∷ vs) else Raises fault.ClassCast) else Goes (Int (pos (if x then 1 else 0)) ∷ vs))
        by_test true true e = acted (op.Cast k i) (reference ∷ []) (gives.One (class_type image (class_in t))) ls (Ref n ∷ vs) w (Goes (Ref n ∷ vs)) f (refl, Ref n ∷ [], refl, class-held n (class_in t) ((and_parts _ _ r).0) (subs.sub_fits n.class (class_in t) e))
        by_test true false e = tt
        by_test false x e = acted (op.Cast k i) (reference ∷ []) (gives.One flow.Int) ls (Ref n ∷ vs) w (Goes (Int (pos (if x then 1 else 0)) ∷ vs)) f (refl, Int (pos (if x then 1 else 0)) ∷ [], refl, an-int (pos (if x then 1 else 0)))

    -- ---- locals

    store : (k i : ℕ) (ls vs : List Value) (w : Work) → Fits image method there ls vs w → row_rules (site_of image method) (row_of.Writes (store_slot k) i) w ≡ [] → Moves image method there ls (op.Store k i) (next (site_of image method) (row_of.Writes (store_slot k) i) w) (stores i vs)
    store k i ls [] w f h = absurd (by_stack w.stack f.stack ((append_empty (taken_rules (store_slot k) w.stack) _ h).0))
      where
        by_stack : (ts : List FlowType) → Both image method there [] ts → taken_rules (store_slot k) ts ≡ [] → ⊥
        by_stack [] b h = cc
        by_stack (t ∷ ts) b h = no-values image method there t ts b
    store k i ls (v ∷ vs) w f h = (refl, writes-fit image method there (store_slot k) i ls v vs w f h)

    int-there : (v : Value) → met image need.Int v ≡ true → (a : ℤ) × (v ≡ Int a)
    int-there (Int a) h = (a, refl)
    int-there _ h = absurd cc

    int-local : (i : ℕ) (ls : List Value) (w : Work) → all_held image method there ls w.locals ≡ true → read_rules slot.Int (slice_get w.locals i) None ≡ [] → (a : ℤ) × (local_at ls i ≡ Int a)
    int-local i ls w h e =
        let (t, q, z) = read-some image method there slot.Int (slice_get w.locals i) None e in
        let x : held image method there (local_at ls i) t ≡ true = held-local image method there i t ls w.locals h q in
        by_type t x z
      where
        by_type : (t : FlowType) → held image method there (local_at ls i) t ≡ true → is_int t ≡ true → (a : ℤ) × (local_at ls i ≡ Int a)
        by_type flow.Int x z = int-there (local_at ls i) (int-met image subs.tree method there (local_at ls i) ((and_parts _ _ x).1))
        by_type _ x z = absurd cc

    bump : (i : ℕ) (by : ℤ) (ls vs : List Value) (w : Work) → Fits image method there ls vs w → row_rules (site_of image method) (row_of.Bumps i) w ≡ [] → Moves image method there ls (op.Iinc i by) (next (site_of image method) (row_of.Bumps i) w) (bumps i by ls vs)
    bump i by ls vs w f h =
        let (a, q) = int-local i ls w f.locals_held h in
        subst (λ v. Moves image method there ls (op.Iinc i by) w (one_int (λ a rest. Sets i (Int (int_wrapping_add w32 a by) ∷ []) vs) (v ∷ []))) (sym q) (refl, bumps-fit image method there i ls vs w (int_wrapping_add w32 a by) f h)

    -- ---- conversions

    abbrev resized_by : Bool → Bool → Row
    resized_by b c = if b then row_of.Acts (need.Int ∷ []) (gives.One flow.Long) else (if c then row_of.Acts (need.Long ∷ []) (gives.One flow.Int) else row_of.Acts (need.Int ∷ []) (gives.One flow.Int))

    resize : (k : ℕ) (ls vs : List Value) (w : Work) → Fits image method there ls vs w → row_rules (site_of image method) (resize_row k) w ≡ [] → Moves image method there ls (op.Resize k) (next (site_of image method) (resize_row k) w) (resizes k vs)
    resize k ls (Int a ∷ vs) w f h = by_test (k == code.I2L) (k == code.L2I) h
      where
        by_test : (b c : Bool) → row_rules (site_of image method) (resized_by b c) w ≡ [] → Moves image method there ls (op.Resize k) (next (site_of image method) (resized_by b c) w) (Goes ((if b then Long a else (if k == code.I2B then Int (as_byte a) else (if k == code.I2C then Int (pos (as_unit a)) else Int (as_short a)))) ∷ vs))
        by_test true c h = acted (op.Resize k) (need.Int ∷ []) (gives.One flow.Long) ls (Int a ∷ vs) w (Goes (Long a ∷ vs)) f (refl, Long a ∷ [], refl, a-long a)
        by_test false true h = let x : all_met image (need.Long ∷ []) (Int a ∷ vs) ≡ true = needs-met (need.Long ∷ []) ls (Int a ∷ vs) w f h in absurd cc
        by_test false false h = acted (op.Resize k) (need.Int ∷ []) (gives.One flow.Int) ls (Int a ∷ vs) w (Goes ((if k == code.I2B then Int (as_byte a) else (if k == code.I2C then Int (pos (as_unit a)) else Int (as_short a))) ∷ vs)) f (refl, (if k == code.I2B then Int (as_byte a) else (if k == code.I2C then Int (pos (as_unit a)) else Int (as_short a))) ∷ [], refl, narrowed (k == code.I2B) (k == code.I2C))
          where
            narrowed : (x y : Bool) → Both image method there ((if x then Int (as_byte a) else (if y then Int (pos (as_unit a)) else Int (as_short a))) ∷ []) (flow.Int ∷ [])
            narrowed true y = an-int _
            narrowed false true = an-int _
            narrowed false false = an-int _
    resize k ls (Long a ∷ vs) w f h = by_test (k == code.I2L) (k == code.L2I) h
      where
        by_test : (b c : Bool) → row_rules (site_of image method) (resized_by b c) w ≡ [] → Moves image method there ls (op.Resize k) (next (site_of image method) (resized_by b c) w) (Goes (Int (as_int a) ∷ vs))
        by_test true c h = let x : all_met image (need.Int ∷ []) (Long a ∷ vs) ≡ true = needs-met (need.Int ∷ []) ls (Long a ∷ vs) w f h in absurd cc
        by_test false true h = acted (op.Resize k) (need.Long ∷ []) (gives.One flow.Int) ls (Long a ∷ vs) w (Goes (Int (as_int a) ∷ vs)) f (refl, Int (as_int a) ∷ [], refl, an-int (as_int a))
        by_test false false h = let x : all_met image (need.Int ∷ []) (Long a ∷ vs) ≡ true = needs-met (need.Int ∷ []) ls (Long a ∷ vs) w f h in absurd cc
    resize k ls vs w f h = absurd (by_test (k == code.I2L) (k == code.L2I) h)
      where
        by_test : (b c : Bool) → row_rules (site_of image method) (resized_by b c) w ≡ [] → ⊥
        by_test true c h = let x : all_met image (need.Int ∷ []) vs ≡ true = needs-met (need.Int ∷ []) ls vs w f h in cc
        by_test false true h = let x : all_met image (need.Long ∷ []) vs ≡ true = needs-met (need.Long ∷ []) ls vs w f h in cc
        by_test false false h = let x : all_met image (need.Int ∷ []) vs ≡ true = needs-met (need.Int ∷ []) ls vs w f h in cc

    -- ---- operands moved about

    abbrev Shuffled : Op → List Value → List Value → Work → Row → Type 0
    Shuffled o ls vs w r = row_rules (site_of image method) r w ≡ [] → Moves image method there ls o (next (site_of image method) r w) (Goes (shuffled r vs))

    pop : (k : ℕ) (ls vs : List Value) (w : Work) → Fits image method there ls vs w → Shuffled (op.Pop k) ls vs w (pop_row k)
    pop k ls vs w f = in-table (Shuffled (op.Pop k) ls vs w) ((code.POP, row_of.Drops group.One) ∷ []) (row_of.Drops group.Wide) k ((λ h. (refl, drops-fit image method there group.One ls vs w f)), tt) (λ h. (refl, drops-fit image method there group.Wide ls vs w f))

    dup : (k : ℕ) (ls vs : List Value) (w : Work) → Fits image method there ls vs w → Shuffled (op.Dup k) ls vs w (dup_row k)
    dup k ls vs w f = in-table (Shuffled (op.Dup k) ls vs w) dups (row_of.Doubles group.Wide group.Wide) k (
      (λ h. (refl, doubles-fit image method there group.One group.Nothing ls vs w f h)),
      (
        (λ h. (refl, doubles-fit image method there group.One group.One ls vs w f h)),
        (
          (λ h. (refl, doubles-fit image method there group.One group.Wide ls vs w f h)),
          (
            (λ h. (refl, doubles-fit image method there group.Wide group.Nothing ls vs w f h)),
            (
              (λ h. (refl, doubles-fit image method there group.Wide group.One ls vs w f h)),
              tt,
            ),
          ),
        ),
      ),
    ) (λ h. (refl, doubles-fit image method there group.Wide group.Wide ls vs w f h))

    -- ---- references

    -- an instruction that asks for what its operands name is so far safe
    abbrev SafeAt : Bool → ℕ → Move → List Value → List Value → Work → Row → Type 0
    SafeAt b depth m ls vs w r = row_rules (site_of image method) r w ≡ [] → Safe b (with_reference depth m vs)

    safe-acts : (b : Bool) (depth : ℕ) (m : Move) → Safe b m → (ls vs : List Value) (w : Work) → Fits image method there ls vs w → (needs : List Need) (g : Gives) (n : Need) → slice_get needs depth ≡ Some n → OfReference n → SafeAt b depth m ls vs w (row_of.Acts needs g)
    safe-acts b depth m s ls vs w f needs g n e r h = safe-reference image b depth needs vs n m (needs-met needs ls vs w f h) e r s

    load-safe : (k : ℕ) (ls vs : List Value) (w : Work) → Fits image method there ls vs w → SafeAt true 1 Asks ls vs w (array_load k)
    load-safe k ls vs w f = in-table (SafeAt true 1 Asks ls vs w) array_loads (row_of.Acts (need.Int ∷ need.References ∷ []) gives.Part) k (one primitive.Int (gives.One flow.Int), (one primitive.Long (gives.One flow.Long), (one primitive.Byte (gives.One flow.Int), (one primitive.Char (gives.One flow.Int), (one primitive.Short (gives.One flow.Int), tt)))))
        (safe-acts true 1 Asks tt ls vs w f (need.Int ∷ need.References ∷ []) gives.Part need.References refl tt)
      where
        one : (j : PrimitiveType) (g : Gives) → SafeAt true 1 Asks ls vs w (row_of.Acts (need.Int ∷ need.Primitives j ∷ []) g)
        one j g = safe-acts true 1 Asks tt ls vs w f (need.Int ∷ need.Primitives j ∷ []) g (need.Primitives j) refl tt

    store-safe : (k : ℕ) (ls vs : List Value) (w : Work) → Fits image method there ls vs w → SafeAt true 2 Asks ls vs w (array_store k)
    store-safe k ls vs w f = in-table (SafeAt true 2 Asks ls vs w) array_stores (row_of.Acts (reference ∷ need.Int ∷ need.References ∷ []) gives.Nothing) k (one primitive.Int need.Int, (one primitive.Long need.Long, (one primitive.Byte need.Int, (one primitive.Char need.Int, (one primitive.Short need.Int, tt)))))
        (safe-acts true 2 Asks tt ls vs w f (reference ∷ need.Int ∷ need.References ∷ []) gives.Nothing need.References refl tt)
      where
        one : (j : PrimitiveType) (v : Need) → SafeAt true 2 Asks ls vs w (row_of.Acts (v ∷ need.Int ∷ need.Primitives j ∷ []) gives.Nothing)
        one j v = safe-acts true 2 Asks tt ls vs w f (v ∷ need.Int ∷ need.Primitives j ∷ []) gives.Nothing (need.Primitives j) refl tt

    field-safe : (k : ℕ) (t : FlowType) (c : ℕ) (ls vs : List Value) (w : Work) → Fits image method there ls vs w → row_rules (site_of image method) (field_row image k t c) w ≡ [] → Safe true (field_move k vs)
    field-safe k t c ls vs w f h = by_test (k == code.GETFIELD) h
      where
        by_test : (b : Bool) → row_rules (site_of image method) (if b then row_of.Acts (object_of image c ∷ []) (gives.One t) else row_of.Acts (value rule.REFERENCE t ∷ need.Own c ∷ []) gives.Nothing) w ≡ [] → Safe true (with_reference (if b then 0 else 1) Asks vs)
        by_test true h = safe-acts true 0 Asks tt ls vs w f (object_of image c ∷ []) (gives.One t) (object_of image c) refl tt h
        by_test false h = safe-acts true 1 Asks tt ls vs w f (value rule.REFERENCE t ∷ need.Own c ∷ []) gives.Nothing (need.Own c) refl tt h

    sizes-safe : (n : ℕ) (vs : List Value) → Safe true (with_sizes n vs)
    sizes-safe n vs = by_test (list_any is_negative_size (take n vs))
      where
        by_test : (b : Bool) → Safe true (if b then Raises fault.NegativeSize else Asks)
        by_test true = tt
        by_test false = tt

    throw-move : (ls vs : List Value) (w : Work) → all_there there vs ≡ true → all_met image (need.Fitting rule.REFERENCE (flow.Class 8) ∷ []) vs ≡ true → Moves image method there ls op.Athrow w (throws vs)
    throw-move ls [] w r m = absurd cc
    throw-move ls (Int a ∷ vs) w r m = absurd cc
    throw-move ls (Long a ∷ vs) w r m = absurd cc
    throw-move ls (Null ∷ vs) w r m = tt
    throw-move ls (Ref n ∷ vs) w r m = record { is_here = (and_parts _ _ r).0; fits = (and_parts _ _ m).0 }

    -- ---- calls

    -- the class of the initialiser is the method's own, or its superclass
    own-above : (c : ℕ) → is_own_or_super (site_of image method) c ≡ true → type_fits (superclasses image) (flow.Class (owner_of image method)) (flow.Class c) ≡ true
    own-above c h = by_same (c == owner_of image method) refl h
      where
        by_super : (o : Option ℕ) → superclass (superclasses image) (owner_of image method) ≡ o → from false (λ up. c == up) o ≡ true → type_fits (superclasses image) (flow.Class (owner_of image method)) (flow.Class c) ≡ true
        by_super None e h = absurd cc
        by_super (Some up) e h = below-from (superclasses image) subs.tree 1 (owner_of image method) c (c, (e ∙ ap Some (sym (eqb-true c up h))), refl)

        by_same : (b : Bool) → (c == owner_of image method) ≡ b → (b || from false (λ up. c == up) (superclass (superclasses image) (owner_of image method))) ≡ true → type_fits (superclasses image) (flow.Class (owner_of image method)) (flow.Class c) ≡ true
        by_same true e h = subst (λ x. type_fits (superclasses image) (flow.Class (owner_of image method)) (flow.Class x) ≡ true) (sym (eqb-true c (owner_of image method) e)) (type-refl (superclasses image) subs.tree (flow.Class (owner_of image method)))
        by_same false e h = by_super (superclass (superclasses image) (owner_of image method)) refl h

    by-reference : (c r : ℕ) (v : Value) → Reference image subs.tree method there (flow.Class c) v → met image (need.Fitting r (flow.Class c)) v ≡ true
    by-reference c r v (nothing_there e) = rw e refl
    by-reference c r v (object n e g) = rw e g

    -- the object of a call of an initialiser is of its class
    started : (c r : ℕ) (v : Value) (t : FlowType) → held image method there v t ≡ true → init_rules (site_of image method) c t ≡ [] → met image (need.Fitting r (flow.Class c)) v ≡ true
    started c r v (flow.Fresh a) h k =
        let q : new_class image method a ≡ c = eqb-true _ c (if_empty (new_class image method a == c) 11 k) in
        by-reference c r v (reference_is image subs.tree method there v (flow.Class c) (refl, refl) (subst (λ x. type_fits (superclasses image) (value_type image v) (flow.Class x) ≡ true) q ((and_parts _ _ h).1)))
    started c r v flow.FreshThis h k =
        by-reference c r v (reference_is image subs.tree method there v (flow.Class c) (refl, refl) (type-trans (superclasses image) subs.tree (value_type image v) (flow.Class (owner_of image method)) (flow.Class c) ((and_parts _ _ h).1) (own-above c (if_empty (is_own_or_super (site_of image method) c) 11 k))))
    started c r v _ h k = absurd cc

    pub init-met : (c r : ℕ) (needs : List Need) (vs : List Value) (ts : List FlowType) → all_held image method there vs ts ≡ true → needs_rules (superclasses image) (owner_of image method) needs ts ≡ [] → inits_rules (site_of image method) c (drop (length needs) ts) ≡ [] → all_met image (needs ++ need.Fitting r (flow.Class c) ∷ []) vs ≡ true
    init-met c r [] (v ∷ vs) (t ∷ ts) h m k = and_both _ _ (started c r v t ((and_parts _ _ h).0) k) refl
    init-met c r [] vs [] h m k = absurd cc
    init-met c r [] [] (t ∷ ts) h m k = absurd cc
    init-met c r (n ∷ ns) vs [] h m k = absurd cc
    init-met c r (n ∷ ns) [] (t ∷ ts) h m k = absurd cc
    init-met c r (n ∷ ns) (v ∷ vs) (t ∷ ts) h m k =
        let (p, q) = and_parts _ _ h in
        let (x, y) = append_empty (need_rules (superclasses image) (owner_of image method) n t) (needs_rules (superclasses image) (owner_of image method) ns ts) m in
        and_both _ _ (met-of image subs.tree method there n v t ((and_parts _ _ p).1) x) (init-met c r ns vs ts q y k)

    pub call-safe : (k : ℕ) (d : MethodDesc) (m : ℕ) (ls vs : List Value) (w : Work) → Fits image method there ls vs w → row_rules (site_of image method) (invoke_row image (owner_of image method) k d m) w ≡ [] → Safe false (call_move k (length d.args) vs)
    call-safe k d m ls vs w f h = by_static (k == code.INVOKESTATIC) (k == code.INVOKESPECIAL && is_initialiser image m) h
      where
        needs_of : Need → List Need
        needs_of n = arguments image d.args ++ n ∷ []

        last : (n : Need) → slice_get (arguments image d.args ++ n ∷ []) (length d.args) ≡ Some n
        last n = get-last (arguments image d.args) n (length d.args) (arguments-length image d.args)

        by_static : (a b : Bool) → row_rules (site_of image method) (if a then row_of.Acts (arguments image d.args) (result image d.ret) else (if b then row_of.Inits (arguments image d.args) (owner_of image m) (result image d.ret) else row_of.Acts (arguments image d.args ++ object_of image (receiver_class image (owner_of image method) k m) ∷ []) (result image d.ret))) w ≡ [] → Safe false (if a then Calls else with_reference (length d.args) Calls vs)
        by_static true b h = tt
        by_static false true h =
            let (x, y) = append_empty (needs_rules (superclasses image) (owner_of image method) (arguments image d.args) w.stack) _ h in
            safe-reference image false (length d.args) (arguments image d.args ++ need.Fitting 8 (flow.Class (owner_of image m)) ∷ []) vs _ Calls (init-met (owner_of image m) 8 (arguments image d.args) vs w.stack f.stack.held x y) (last _) tt tt
        by_static false false h = safe-acts false (length d.args) Calls tt ls vs w f (arguments image d.args ++ object_of image (receiver_class image (owner_of image method) k m) ∷ []) (result image d.ret) _ (last _) tt h

    -- ---- all instructions

    push : (o : Op) (t : Option Target) (g : Given) (ls vs : List Value) (w : Work) → Fits image method there ls vs w → falls o ≡ true → IsPushed there t → g ≡ given_as.Constant (constant_in t) → Moves image method there ls o (next (site_of image method) (row_of.Acts [] (gives.One (constant_type image t))) w) (Goes (given_constant g ∷ vs))
    push o t g ls vs w f k (v, e, h) q = rw (q, e) (acted o [] (gives.One (value_type image v)) ls vs w (Goes (v ∷ vs)) f (k, v ∷ [], refl, own-type v h))

    pub all-moves : (at : ℕ) (o : Op) (ls vs : List Value) (w : Work) → IsSwitch o → IsTold there o (target_of image method at) → Fits image method there ls vs w → row_rules (site_of image method) (row image method at o) w ≡ [] → Moves image method there ls o (next_at image method at o w) (move_of o (given_to image o (target_of image method at) vs) ls vs)
    all-moves at op.Nop ls vs w s k f h = acted op.Nop [] gives.Nothing ls vs w (Goes vs) f (refl, [], refl, both-none image method there)
    all-moves at op.AconstNull ls vs w s k f h = acted op.AconstNull [] (gives.One flow.Null) ls vs w (Goes (Null ∷ vs)) f (refl, Null ∷ [], refl, own-type Null refl)
    all-moves at (op.Iconst n) ls vs w s k f h = acted (op.Iconst n) [] (gives.One flow.Int) ls vs w (Goes (Int n ∷ vs)) f (refl, Int n ∷ [], refl, an-int n)
    all-moves at (op.Lconst n) ls vs w s k f h = acted (op.Lconst n) [] (gives.One flow.Long) ls vs w (Goes (Long n ∷ vs)) f (refl, Long n ∷ [], refl, a-long n)
    all-moves at (op.Push n) ls vs w s k f h = acted (op.Push n) [] (gives.One flow.Int) ls vs w (Goes (Int n ∷ vs)) f (refl, Int n ∷ [], refl, an-int n)
    all-moves at (op.Ldc i) ls vs w s k f h = push (op.Ldc i) (target_of image method at) _ ls vs w f refl k refl
    all-moves at (op.Ldc2 i) ls vs w s k f h = push (op.Ldc2 i) (target_of image method at) _ ls vs w f refl k refl
    all-moves at (op.Load k i) ls vs w s k0 f h = (refl, reads-fit image method there (load_slot k) i ls vs w f h)
    all-moves at (op.ArrayLoad k) ls vs w s k0 f h = safe-asks (op.ArrayLoad k) ls _ _ tt (load-safe k ls vs w f h)
    all-moves at (op.Store k i) ls vs w s k0 f h = store k i ls vs w f h
    all-moves at (op.ArrayStore k) ls vs w s k0 f h = safe-asks (op.ArrayStore k) ls _ _ tt (store-safe k ls vs w f h)
    all-moves at (op.Pop k) ls vs w s k0 f h = pop k ls vs w f h
    all-moves at (op.Dup k) ls vs w s k0 f h = dup k ls vs w f h
    all-moves at op.Swap ls vs w s k f h = (refl, swaps-fit image method there ls vs w f)
    all-moves at (op.Arith k) ls vs w s k0 f h = acted (op.Arith k) (number k ∷ number k ∷ []) (gives.One (number_type k)) ls vs w _ f (kinds (op.Arith k) k (arithmetic k) vs refl (needs-met (number k ∷ number k ∷ []) ls vs w f h))
    all-moves at (op.Divide k) ls vs w s k0 f h = acted (op.Divide k) (number k ∷ number k ∷ []) (gives.One (number_type k)) ls vs w _ f (divide k vs (needs-met (number k ∷ number k ∷ []) ls vs w f h))
    all-moves at (op.Negate k) ls vs w s k0 f h = acted (op.Negate k) (number k ∷ []) (gives.One (number_type k)) ls vs w _ f (negate k vs (needs-met (number k ∷ []) ls vs w f h))
    all-moves at (op.Shift k) ls vs w s k0 f h = acted (op.Shift k) (need.Int ∷ number k ∷ []) (gives.One (number_type k)) ls vs w _ f (shift k vs (needs-met (need.Int ∷ number k ∷ []) ls vs w f h))
    all-moves at (op.Bits k) ls vs w s k0 f h = acted (op.Bits k) (number k ∷ number k ∷ []) (gives.One (number_type k)) ls vs w _ f (kinds (op.Bits k) k (bitwise k) vs refl (needs-met (number k ∷ number k ∷ []) ls vs w f h))
    all-moves at (op.Iinc i by) ls vs w s k f h = bump i by ls vs w f h
    all-moves at (op.Resize k) ls vs w s k0 f h = resize k ls vs w f h
    all-moves at op.Lcmp ls vs w s k f h = acted op.Lcmp (need.Long ∷ need.Long ∷ []) (gives.One flow.Int) ls vs w _ f (compare vs (needs-met (need.Long ∷ need.Long ∷ []) ls vs w f h))
    all-moves at (op.IfZero k to) ls vs w s k0 f h = acted (op.IfZero k to) (need.Int ∷ []) gives.Nothing ls vs w _ f (if-zero k to vs (needs-met (need.Int ∷ []) ls vs w f h))
    all-moves at (op.IfInts k to) ls vs w s k0 f h = acted (op.IfInts k to) (need.Int ∷ need.Int ∷ []) gives.Nothing ls vs w _ f (if-ints k to vs (needs-met (need.Int ∷ need.Int ∷ []) ls vs w f h))
    all-moves at (op.IfRefs k to) ls vs w s k0 f h = acted (op.IfRefs k to) (reference ∷ reference ∷ []) gives.Nothing ls vs w _ f (if-refs k to vs (needs-met (reference ∷ reference ∷ []) ls vs w f h))
    all-moves at (op.IfNull k to) ls vs w s k0 f h = acted (op.IfNull k to) (reference ∷ []) gives.Nothing ls vs w _ f (if-null k to vs (needs-met (reference ∷ []) ls vs w f h))
    all-moves at (op.Goto to) ls vs w s k f h = acted (op.Goto to) [] gives.Nothing ls vs w (Jumps to vs) f (first-among to [], [], refl, both-none image method there)
    all-moves at (op.TableSwitch other low high to) ls vs w s k f h = acted (op.TableSwitch other low high to) (need.Int ∷ []) gives.Nothing ls vs w _ f (table-switch other low high to vs s (needs-met (need.Int ∷ []) ls vs w f h))
    all-moves at (op.LookupSwitch other pairs) ls vs w s k f h = acted (op.LookupSwitch other pairs) (need.Int ∷ []) gives.Nothing ls vs w _ f (pair-switch other pairs vs (needs-met (need.Int ∷ []) ls vs w f h))
    all-moves at (op.Return k) ls vs w s k0 f h = tt
    all-moves at (op.Static k i d) ls vs w s k0 f h = tt
    all-moves at (op.Field k i d) ls vs w s k0 f h = safe-asks (op.Field k i d) ls _ _ tt (field-safe k (desc_type image d) (field_class_in (target_of image method at)) ls vs w f h)
    all-moves at (op.Invoke k i d) ls vs w s k0 f h = safe-calls (op.Invoke k i d) ls _ _ tt (call-safe k d (method_in (target_of image method at)) ls vs w f h)
    all-moves at (op.New i) ls vs w s k f h = tt
    all-moves at (op.NewArray k) ls vs w s k0 f h = safe-asks (op.NewArray k) ls _ _ tt (sizes-safe 1 vs)
    all-moves at (op.AnewArray i) ls vs w s k f h = safe-asks (op.AnewArray i) ls _ _ tt (sizes-safe 1 vs)
    all-moves at op.ArrayLength ls vs w s k f h = safe-asks op.ArrayLength ls _ _ tt (safe-acts true 0 Asks tt ls vs w f (need.Array ∷ []) (gives.One flow.Int) need.Array refl tt h)
    all-moves at op.Athrow ls vs w s k f h = throw-move ls vs _ (all-there image method there vs w.stack f.stack.held) (needs-met (need.Fitting rule.REFERENCE (flow.Class 8) ∷ []) ls vs w f h)
    all-moves at (op.Cast k i) ls vs w s k0 f h = cast-move k i (target_of image method at) ls vs w f h (all-there image method there vs w.stack f.stack.held) (cast-met (target_of image method at) ls vs w f (k == code.CHECKCAST) h)
    all-moves at (op.Monitor k) ls vs w s k0 f h = safe-asks (op.Monitor k) ls _ _ tt (safe-acts true 0 Asks tt ls vs w f (reference ∷ []) gives.Nothing reference refl tt h)
    all-moves at (op.MultiNewArray i n) ls vs w s k f h = safe-asks (op.MultiNewArray i n) ls _ _ tt (sizes-safe n vs)

pub moves-fit : MovesLaw
moves-fit image subs there m at o ls vs w s k f h = all-moves image m there subs at o ls vs w s k f h
