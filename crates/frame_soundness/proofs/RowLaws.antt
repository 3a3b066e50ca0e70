-- What each shape of row does to values of types: once for a shape, for all instructions.
use Rattle.std.proofs.Common.{◌≡◌, ◌∙◌, sym, ap, subst, refl, ℕ, zero, suc, ◌+◌, Bool, true, false, List, [], ◌∷◌, ◌++◌, take, drop, length, Option, Some, None}
use Rattle.std.specs.Prelude.{◌&&◌, if◌then◌else◌, slice_get, slice_set, ℤ, pos}
use Rattle.std.proofs.lemmas.Bool.{eqb-true}
use Rattle.jvm_base.specs.declared.name.Name.{Name}
use Rattle.jvm_base.specs.declared.value.Value.{Value}
use Rattle.jvm_base.specs.declared.value.Value.TheVariants.{Int, Long, Ref, Null}
use Rattle.program_image.specs.Program.{Program}
use Rattle.flow_types.specs.Tree.{superclasses}
use Rattle.flow_types.specs.Types.{type_fits}
use Rattle.flow_types.specs.TypeLists.{is_operand}
use Rattle.flow_types.specs.declared.flow_type.FlowType.{FlowType}
use Rattle.flow_types.specs.declared.flow_type.FlowType.TheVariants as flow
use Rattle.flow_types.proofs.ListLaws.{and_parts, and_both}
use Rattle.instruction_table.specs.ClassTypes.{value_type, new_class}
use Rattle.instruction_table.specs.Needs.{is_int, is_long, is_reference}
use Rattle.instruction_table.specs.Working.{site_of, fills, read_rules, read_type, taken_rules, written, first_or, wide_count, group_count, doubled, swapped, under as under_types, doubled_types, given, is_same_new, new_type, begun_one, begun, inits_rules, row_rules, next}
use Rattle.instruction_table.specs.declared.row.Need.{Need}
use Rattle.instruction_table.specs.declared.row.Gives.{Gives}
use Rattle.instruction_table.specs.declared.row.Slot.{Slot}
use Rattle.instruction_table.specs.declared.row.Slot.TheVariants as slot
use Rattle.instruction_table.specs.declared.row.Group.{Group}
use Rattle.instruction_table.specs.declared.row.Group.TheVariants as group
use Rattle.instruction_table.specs.declared.row.Row.TheVariants as row
use Rattle.instruction_table.specs.declared.work.Work.{Work}
use Rattle.instruction_table.proofs.FitLists.{append_empty, if_empty, operands-drop, operands-take, operands-append}
use Rattle.instruction_table.proofs.RowLaws.{doubled-whole, found, IsNew, init-new}
use Rattle.instruction_table.proofs.RowLaws.Found.{single, double}
use Rattle.frame_ops.specs.Moves.{locals_set}
use Rattle.frame_ops.specs.Operands.{is_wide, local_at, local_slots, under}
use Rattle.frame_soundness.specs.Values.{is_there, erased, typed, held, all_held}
use Rattle.frame_soundness.specs.Fitting.{Both, Fits}
use Rattle.frame_soundness.proofs.HeldLaws.{ClassShape, a_class, an_array, class-shape}

-- the objects of all these values are there
abbrev pub all_there : (Name → Bool) → List Value → Bool
all_there there [] = true
all_there there (v ∷ vs) = is_there there v && all_there there vs

pub reference-operand : (t : FlowType) → is_reference t ≡ true → is_operand t ≡ true
reference-operand flow.Null h = refl
reference-operand (flow.Class c) h = refl
reference-operand (flow.Array d e) h = refl
reference-operand (flow.Fresh a) h = refl
reference-operand flow.FreshThis h = refl
reference-operand _ h = absurd cc

pub fills-operand : (k : Slot) (t : FlowType) → fills k t ≡ true → is_operand t ≡ true
fills-operand slot.Int flow.Int h = refl
fills-operand slot.Int _ h = absurd cc
fills-operand slot.Long flow.Long h = refl
fills-operand slot.Long _ h = absurd cc
fills-operand slot.Reference t h = reference-operand t h

drop-more : {A : Type 0} (n : ℕ) (xs : List A) (y : A) (ys : List A) → drop n xs ≡ y ∷ ys → drop (suc n) xs ≡ ys
drop-more zero (x ∷ xs) y ys e = cc
drop-more zero [] y ys e = absurd cc
drop-more (suc n) [] y ys e = absurd cc
drop-more (suc n) (x ∷ xs) y ys e = drop-more n xs y ys e

module _ (image : Program) (method : ℕ) (there : Name → Bool) where
  pub all-there : (vs : List Value) (ts : List FlowType) → all_held image method there vs ts ≡ true → all_there there vs ≡ true
  all-there [] [] h = refl
  all-there (v ∷ vs) (t ∷ ts) h = let (p, q) = and_parts _ _ h in and_both _ _ ((and_parts _ _ p).0) (all-there vs ts q)
  all-there [] (t ∷ ts) h = absurd cc
  all-there (v ∷ vs) [] h = absurd cc

  pub held-append : (vs us : List Value) (ts ss : List FlowType) → all_held image method there vs ts ≡ true → all_held image method there us ss ≡ true → all_held image method there (vs ++ us) (ts ++ ss) ≡ true
  held-append [] us [] ss p q = q
  held-append (v ∷ vs) us (t ∷ ts) ss p q = let (a, b) = and_parts _ _ p in and_both _ _ a (held-append vs us ts ss b q)
  held-append [] us (t ∷ ts) ss p q = absurd cc
  held-append (v ∷ vs) us [] ss p q = absurd cc

  pub held-drop : (n : ℕ) (vs : List Value) (ts : List FlowType) → all_held image method there vs ts ≡ true → all_held image method there (drop n vs) (drop n ts) ≡ true
  held-drop zero vs ts p = p
  held-drop (suc n) [] [] p = refl
  held-drop (suc n) (v ∷ vs) (t ∷ ts) p = let (a, b) = and_parts _ _ p in held-drop n vs ts b
  held-drop (suc n) [] (t ∷ ts) p = absurd cc
  held-drop (suc n) (v ∷ vs) [] p = absurd cc

  pub held-take : (n : ℕ) (vs : List Value) (ts : List FlowType) → all_held image method there vs ts ≡ true → all_held image method there (take n vs) (take n ts) ≡ true
  held-take zero vs ts p = refl
  held-take (suc n) [] [] p = refl
  held-take (suc n) (v ∷ vs) (t ∷ ts) p = let (a, b) = and_parts _ _ p in and_both _ _ a (held-take n vs ts b)
  held-take (suc n) [] (t ∷ ts) p = absurd cc
  held-take (suc n) (v ∷ vs) [] p = absurd cc

  pub held-set : (n : ℕ) (v : Value) (t : FlowType) (vs : List Value) (ts : List FlowType) → held image method there v t ≡ true → all_held image method there vs ts ≡ true → all_held image method there (slice_set vs n v) (slice_set ts n t) ≡ true
  held-set n v t [] [] h p = refl
  held-set zero v t (x ∷ vs) (s ∷ ts) h p = let (a, b) = and_parts _ _ p in and_both _ _ h b
  held-set (suc n) v t (x ∷ vs) (s ∷ ts) h p = let (a, b) = and_parts _ _ p in and_both _ _ a (held-set n v t vs ts h b)
  held-set n v t [] (s ∷ ts) h p = absurd cc
  held-set n v t (x ∷ vs) [] h p = absurd cc

  pub held-local : (n : ℕ) (t : FlowType) (vs : List Value) (ts : List FlowType) → all_held image method there vs ts ≡ true → slice_get ts n ≡ Some t → held image method there (local_at vs n) t ≡ true
  held-local n t [] [] p e = absurd cc
  held-local zero t (v ∷ vs) (s ∷ ts) p e = let q : s ≡ t = cc in subst (λ x. held image method there v x ≡ true) q ((and_parts _ _ p).0)
  held-local (suc n) t (v ∷ vs) (s ∷ ts) p e = held-local n t vs ts ((and_parts _ _ p).1) e
  held-local n t [] (s ∷ ts) p e = absurd cc
  held-local n t (v ∷ vs) [] p e = absurd cc

  -- ---- shuffles: no rule is needed, since values and types are wide alike

  wide-class : (t u : FlowType) → ClassShape t → is_operand u ≡ true → type_fits (superclasses image) t (erased image method u) ≡ true → is_long u ≡ false
  wide-class t flow.Long (a_class c e) s h = let g : false ≡ true = rw e at h in absurd cc
  wide-class t flow.Long (an_array d f e) s h = let g : false ≡ true = rw e at h in absurd cc
  wide-class t _ k s h = refl

  pub wide-alike : (v : Value) (u : FlowType) → is_operand u ≡ true → typed image method v u ≡ true → is_wide v ≡ is_long u
  wide-alike (Ref n) u s h = sym (wide-class _ u (class-shape image n.class) s h)
  wide-alike (Int a) flow.Long s h = absurd cc
  wide-alike (Int a) _ s h = refl
  wide-alike Null flow.Long s h = absurd cc
  wide-alike Null _ s h = refl
  wide-alike (Long a) flow.Long s h = refl
  wide-alike (Long a) flow.Unusable s h = absurd cc
  wide-alike (Long a) flow.High s h = absurd cc
  wide-alike (Long a) _ s h = absurd cc

  pub both-none : Both image method there [] []
  both-none = record { held = refl; operands = tt }

  pub both-cons : (v : Value) (t : FlowType) (vs : List Value) (ts : List FlowType) → held image method there v t ≡ true → is_operand t ≡ true → Both image method there vs ts → Both image method there (v ∷ vs) (t ∷ ts)
  both-cons v t vs ts h s b = record { held = and_both _ _ h b.held; operands = (s, b.operands) }

  pub both-append : (vs us : List Value) (ts ss : List FlowType) → Both image method there vs ts → Both image method there us ss → Both image method there (vs ++ us) (ts ++ ss)
  both-append vs us ts ss a b = record { held = held-append vs us ts ss a.held b.held; operands = operands-append ts ss a.operands b.operands }

  pub both-drop : (n : ℕ) (vs : List Value) (ts : List FlowType) → Both image method there vs ts → Both image method there (drop n vs) (drop n ts)
  both-drop n vs ts b = record { held = held-drop n vs ts b.held; operands = operands-drop n ts b.operands }

  -- the first and the others of operands
  pub record Uncons (v : Value) (vs : List Value) (t : FlowType) (ts : List FlowType) : Type 0 where
    pub one : held image method there v t ≡ true
    pub solid : is_operand t ≡ true
    pub rest : Both image method there vs ts

  pub uncons : (v : Value) (vs : List Value) (t : FlowType) (ts : List FlowType) → Both image method there (v ∷ vs) (t ∷ ts) → Uncons v vs t ts
  uncons v vs t ts b = let (p, q) = and_parts _ _ b.held in record { one = p; solid = b.operands.0; rest = record { held = q; operands = b.operands.1 } }

  pub no-values : (t : FlowType) (ts : List FlowType) → Both image method there [] (t ∷ ts) → ⊥
  no-values t ts b = let h : false ≡ true = b.held in cc

  pub no-types : (v : Value) (vs : List Value) → Both image method there (v ∷ vs) [] → ⊥
  no-types v vs b = let h : false ≡ true = b.held in cc

  both-take : (n : ℕ) (vs : List Value) (ts : List FlowType) → Both image method there vs ts → Both image method there (take n vs) (take n ts)
  both-take n vs ts b = record { held = held-take n vs ts b.held; operands = operands-take n ts b.operands }

  wide-alike-count : (vs : List Value) (ts : List FlowType) → Both image method there vs ts → wide_count is_wide vs ≡ wide_count is_long ts
  wide-alike-count [] [] b = refl
  wide-alike-count (v ∷ vs) (t ∷ ts) b = let u = uncons v vs t ts b in ap (λ x. if x then 1 else 2) (wide-alike v t u.solid ((and_parts _ _ u.one).1))
  wide-alike-count [] (t ∷ ts) b = absurd (no-values t ts b)
  wide-alike-count (v ∷ vs) [] b = absurd (no-types v vs b)

  pub count-alike : (g : Group) (vs : List Value) (ts : List FlowType) → Both image method there vs ts → group_count is_wide g vs ≡ group_count is_long g ts
  count-alike group.Nothing vs ts b = refl
  count-alike group.One vs ts b = refl
  count-alike group.Wide vs ts b = wide-alike-count vs ts b

  under-both : (g : Group) (vs : List Value) (ts : List FlowType) → Both image method there vs ts → Both image method there (under g vs) (under_types g ts)
  under-both g vs ts b = rw (count-alike g vs ts b) (both-drop (group_count is_long g ts) vs ts b)

  doubled-both : (k n : ℕ) (vs : List Value) (ts : List FlowType) → Both image method there vs ts → Both image method there (doubled k n vs) (doubled k n ts)
  doubled-both k n vs ts b =
      let d : Both image method there (drop k vs) (drop k ts) = both-drop k vs ts b in
      let t : Both image method there (take k vs) (take k ts) = both-take k vs ts b in
      both-append _ _ _ _ t (both-append _ _ _ _ (both-take n (drop k vs) (drop k ts) d) (both-append _ _ _ _ t (both-drop n (drop k vs) (drop k ts) d)))

  swap-both : (vs : List Value) (ts : List FlowType) → Both image method there vs ts → Both image method there (swapped vs) (swapped ts)
  swap-both (v ∷ u ∷ vs) (t ∷ s ∷ ts) b =
      let x = uncons v (u ∷ vs) t (s ∷ ts) b in
      let y = uncons u vs s ts x.rest in
      both-cons u s _ _ y.one y.solid (both-cons v t _ _ x.one x.solid y.rest)
  swap-both [] [] b = b
  swap-both (v ∷ []) (t ∷ []) b = b
  swap-both (v ∷ u ∷ vs) (t ∷ []) b = absurd (no-types u vs (uncons v (u ∷ vs) t [] b).rest)
  swap-both (v ∷ []) (t ∷ s ∷ ts) b = absurd (no-values s ts (uncons v [] t (s ∷ ts) b).rest)
  swap-both [] (t ∷ ts) b = absurd (no-values t ts b)
  swap-both (v ∷ vs) [] b = absurd (no-types v vs b)

  -- ---- the shapes

  pub acts-fit : (needs : List Need) (g : Gives) (ls vs rs : List Value) (w : Work) → Fits image method there ls vs w → Both image method there rs (given g w.stack) → Fits image method there ls (rs ++ drop (length needs) vs) (next (site_of image method) (row.Acts needs g) w)
  acts-fit needs g ls vs rs w f b = record { locals_held = f.locals_held; stack = both-append rs _ _ _ b (both-drop (length needs) vs w.stack f.stack) }

  pub drops-fit : (g : Group) (ls vs : List Value) (w : Work) → Fits image method there ls vs w → Fits image method there ls (under g vs) (next (site_of image method) (row.Drops g) w)
  drops-fit g ls vs w f = record { locals_held = f.locals_held; stack = under-both g vs w.stack f.stack }

  pub doubles-fit : (a b : Group) (ls vs : List Value) (w : Work) → Fits image method there ls vs w → row_rules (site_of image method) (row.Doubles a b) w ≡ [] → Fits image method there ls (doubled (group_count is_wide a vs) (group_count is_wide b (under a vs)) vs) (next (site_of image method) (row.Doubles a b) w)
  doubles-fit a b ls vs w f h =
      let x : group_count is_wide a vs ≡ group_count is_long a w.stack = count-alike a vs w.stack f.stack in
      let y : group_count is_wide b (under a vs) ≡ group_count is_long b (under_types a w.stack) = count-alike b (under a vs) (under_types a w.stack) (under-both a vs w.stack f.stack) in
      let z : doubled_types a b w.stack ≡ doubled (group_count is_long a w.stack) (group_count is_long b (under_types a w.stack)) w.stack = doubled-whole a b w.stack h in
      let d : Both image method there (doubled (group_count is_long a w.stack) (group_count is_long b (under_types a w.stack)) vs) (doubled (group_count is_long a w.stack) (group_count is_long b (under_types a w.stack)) w.stack) = doubled-both (group_count is_long a w.stack) (group_count is_long b (under_types a w.stack)) vs w.stack f.stack in
      let e : doubled (group_count is_wide a vs) (group_count is_wide b (under a vs)) vs ≡ doubled (group_count is_long a w.stack) (group_count is_long b (under_types a w.stack)) vs = ap (λ k. doubled k (group_count is_wide b (under a vs)) vs) x ∙ ap (λ k. doubled (group_count is_long a w.stack) k vs) y in
      record { locals_held = f.locals_held; stack = subst (λ us. Both image method there us (doubled_types a b w.stack)) (sym e) (subst (λ ts. Both image method there (doubled (group_count is_long a w.stack) (group_count is_long b (under_types a w.stack)) vs) ts) (sym z) d) }

  pub swaps-fit : (ls vs : List Value) (w : Work) → Fits image method there ls vs w → Fits image method there ls (swapped vs) (next (site_of image method) row.Swaps w)
  swaps-fit ls vs w f = record { locals_held = f.locals_held; stack = swap-both vs w.stack f.stack }

  -- a local that is read is of the type that its kind gives
  read-one : (k : Slot) (t : FlowType) → fills k t ≡ true → read_type k (Some t) ≡ t
  read-one slot.Int flow.Int h = refl
  read-one slot.Int _ h = absurd cc
  read-one slot.Long flow.Long h = refl
  read-one slot.Long _ h = absurd cc
  read-one slot.Reference t h = rw h refl

  pub read-some : (k : Slot) (o p : Option FlowType) → read_rules k o p ≡ [] → (t : FlowType) × (o ≡ Some t) × (fills k t ≡ true)
  read-some k o p h = elim (found k o p h) [
    | single t a e z ↦ (t, a, e)
    | double t u a b z e i ↦ (t, a, rw z e)
  ]

  pub reads-fit : (k : Slot) (n : ℕ) (ls vs : List Value) (w : Work) → Fits image method there ls vs w → row_rules (site_of image method) (row.Reads k n) w ≡ [] → Fits image method there ls (local_at ls n ∷ vs) (next (site_of image method) (row.Reads k n) w)
  reads-fit k n ls vs w f h =
      let (t, e, z) = read-some k (slice_get w.locals n) (slice_get w.locals (n + 1)) h in
      let q : read_type k (slice_get w.locals n) ≡ t = ap (read_type k) e ∙ read-one k t z in
      record { locals_held = f.locals_held; stack = subst (λ x. Both image method there (local_at ls n ∷ vs) (x ∷ w.stack)) (sym q) (both-cons (local_at ls n) t vs w.stack (held-local n t ls w.locals f.locals_held e) (fills-operand k t z) f.stack) }

  -- a value's locals: for a long the next one too
  written-held : (k : Slot) (n : ℕ) (v : Value) (t : FlowType) (ls : List Value) (ts : List FlowType) → fills k t ≡ true → held image method there v t ≡ true → all_held image method there ls ts ≡ true → all_held image method there (locals_set n (local_slots v) ls) (written k n t ts) ≡ true
  written-held k n v t ls ts z h p = by_value v k h (wide-alike v t (fills-operand k t z) ((and_parts _ _ h).1)) z
    where
      by_value : (v : Value) (k : Slot) → held image method there v t ≡ true → is_wide v ≡ is_long t → fills k t ≡ true → all_held image method there (locals_set n (local_slots v) ls) (written k n t ts) ≡ true
      by_value (Long a) slot.Long h e z = held-set (n + 1) (Int (pos 0)) flow.High _ _ refl (held-set n (Long a) t ls ts h p)
      by_value (Long a) slot.Int h e z = absurd (not-both t e z)
        where
          not-both : (t : FlowType) → true ≡ is_long t → is_int t ≡ true → ⊥
          not-both flow.Int e z = cc
          not-both _ e z = cc
      by_value (Long a) slot.Reference h e z = absurd (not-both t e z)
        where
          not-both : (t : FlowType) → true ≡ is_long t → is_reference t ≡ true → ⊥
          not-both flow.Long e z = cc
          not-both _ e z = cc
      by_value (Int a) slot.Long h e z = absurd (let x : false ≡ true = e ∙ z in cc)
      by_value (Ref a) slot.Long h e z = absurd (let x : false ≡ true = e ∙ z in cc)
      by_value Null slot.Long h e z = absurd (let x : false ≡ true = e ∙ z in cc)
      by_value (Int a) slot.Int h e z = held-set n (Int a) t ls ts h p
      by_value (Int a) slot.Reference h e z = held-set n (Int a) t ls ts h p
      by_value (Ref a) slot.Int h e z = held-set n (Ref a) t ls ts h p
      by_value (Ref a) slot.Reference h e z = held-set n (Ref a) t ls ts h p
      by_value Null slot.Int h e z = held-set n Null t ls ts h p
      by_value Null slot.Reference h e z = held-set n Null t ls ts h p

  taken-fills : (k : Slot) (t : FlowType) (ts : List FlowType) → taken_rules k (t ∷ ts) ≡ [] → fills k t ≡ true
  taken-fills k t ts e = if_empty (fills k t) 4 e

  pub writes-fit : (k : Slot) (n : ℕ) (ls : List Value) (v : Value) (vs : List Value) (w : Work) → Fits image method there ls (v ∷ vs) w → row_rules (site_of image method) (row.Writes k n) w ≡ [] → Fits image method there (locals_set n (local_slots v) ls) vs (next (site_of image method) (row.Writes k n) w)
  writes-fit k n ls v vs w f h = by_stack w.stack f.stack ((append_empty (taken_rules k w.stack) _ h).0)
    where
      by_stack : (ts : List FlowType) → Both image method there (v ∷ vs) ts → taken_rules k ts ≡ [] → Fits image method there (locals_set n (local_slots v) ls) vs (next (site_of image method) (row.Writes k n) (record w { stack = ts }))
      by_stack [] b e = absurd (no-types v vs b)
      by_stack (t ∷ ts) b e = let u = uncons v vs t ts b in record { locals_held = written-held k n v t ls w.locals (taken-fills k t ts e) u.one f.locals_held; stack = u.rest }

  -- ---- initialising

  same-new : (was t : FlowType) → is_same_new was t ≡ true → IsNew was → erased image method (new_type (site_of image method) was) ≡ erased image method t
  same-new (flow.Fresh a) (flow.Fresh b) e i = ap (λ x. flow.Class (new_class image method x)) (eqb-true a b e)
  same-new flow.FreshThis flow.FreshThis e i = refl
  same-new (flow.Fresh a) _ e i = absurd cc
  same-new flow.FreshThis _ e i = absurd cc
  same-new _ t e i = absurd i

  -- an initialised object is of the class that it was of before
  begun-same : (was t : FlowType) → IsNew was → erased image method (begun_one was (new_type (site_of image method) was) t) ≡ erased image method t
  begun-same was t i = by_test (is_same_new was t) refl
    where
      by_test : (x : Bool) → is_same_new was t ≡ x → erased image method (if x then new_type (site_of image method) was else t) ≡ erased image method t
      by_test true e = same-new was t e i
      by_test false e = refl

  new-operand : (was : FlowType) → is_operand (new_type (site_of image method) was) ≡ true
  new-operand (flow.Fresh a) = refl
  new-operand _ = refl

  begun-operand : (was t : FlowType) → is_operand t ≡ true → is_operand (begun_one was (new_type (site_of image method) was) t) ≡ true
  begun-operand was t h = by_test (is_same_new was t)
    where
      by_test : (x : Bool) → is_operand (if x then new_type (site_of image method) was else t) ≡ true
      by_test true = new-operand was
      by_test false = h

  pub begun-held : (was : FlowType) → IsNew was → (vs : List Value) (ts : List FlowType) → all_held image method there vs ts ≡ true → all_held image method there vs (begun was (new_type (site_of image method) was) ts) ≡ true
  begun-held was i [] [] h = refl
  begun-held was i (v ∷ vs) (t ∷ ts) h =
      let (p, q) = and_parts _ _ h in
      and_both _ _ (subst (λ x. (is_there there v && type_fits (superclasses image) (value_type image v) x) ≡ true) (sym (begun-same was t i)) p) (begun-held was i vs ts q)
  begun-held was i [] (t ∷ ts) h = absurd cc
  begun-held was i (v ∷ vs) [] h = absurd cc

  pub bumps-fit : (n : ℕ) (ls vs : List Value) (w : Work) (a : ℤ) → Fits image method there ls vs w → row_rules (site_of image method) (row.Bumps n) w ≡ [] → Fits image method there (slice_set ls n (Int a)) vs (next (site_of image method) (row.Bumps n) w)
  bumps-fit n ls vs w a f h = let (t, e, z) = read-some slot.Int (slice_get w.locals n) None h in record { locals_held = int-set n t ls w.locals f.locals_held e z; stack = f.stack }
    where
      int-held : (v : Value) (t : FlowType) → is_int t ≡ true → held image method there (Int a) t ≡ true
      int-held v flow.Int z = refl
      int-held v _ z = absurd cc

      int-set : (n : ℕ) (t : FlowType) (ls : List Value) (ts : List FlowType) → all_held image method there ls ts ≡ true → slice_get ts n ≡ Some t → is_int t ≡ true → all_held image method there (slice_set ls n (Int a)) ts ≡ true
      int-set n t [] [] p e z = refl
      int-set zero t (v ∷ ls) (s ∷ ts) p e z = let q : s ≡ t = cc in and_both _ _ (int-held v s (subst (λ x. is_int x ≡ true) (sym q) z)) ((and_parts _ _ p).1)
      int-set (suc n) t (v ∷ ls) (s ∷ ts) p e z = let (x, y) = and_parts _ _ p in and_both _ _ x (int-set n t ls ts y e z)
      int-set n t [] (s ∷ ts) p e z = absurd cc
      int-set n t (v ∷ ls) [] p e z = absurd cc

  -- the call of an initialiser: the object's copies are initialised
  pub inits-held : (needs : List Need) (c : ℕ) (g : Gives) (ls vs rs : List Value) (w : Work) → Fits image method there ls vs w → row_rules (site_of image method) (row.Inits needs c g) w ≡ [] → all_held image method there rs (given g w.stack) ≡ true → (all_held image method there ls (next (site_of image method) (row.Inits needs c g) w).locals ≡ true) × (all_held image method there (rs ++ drop (suc (length needs)) vs) (next (site_of image method) (row.Inits needs c g) w).stack ≡ true)
  inits-held needs c g ls vs rs w f h b = by_below (drop (length needs) w.stack) refl (drop (length needs) vs) refl (held-drop (length needs) vs w.stack f.stack.held) ((append_empty _ _ h).1)
    where
      by_below : (ts : List FlowType) → drop (length needs) w.stack ≡ ts → (us : List Value) → drop (length needs) vs ≡ us → all_held image method there us ts ≡ true → inits_rules (site_of image method) c ts ≡ [] → (all_held image method there ls (begun (first_or flow.Null ts) (new_type (site_of image method) (first_or flow.Null ts)) w.locals) ≡ true) × (all_held image method there (rs ++ drop (suc (length needs)) vs) (given g w.stack ++ begun (first_or flow.Null ts) (new_type (site_of image method) (first_or flow.Null ts)) (drop 1 ts)) ≡ true)
      by_below [] q us r p e = absurd cc
      by_below (t ∷ ts) q [] r p e = absurd cc
      by_below (t ∷ ts) q (u ∷ us) r p e =
          let i : IsNew t = init-new (site_of image method) c t e in
          let d : drop (suc (length needs)) vs ≡ us = drop-more (length needs) vs u us r in
          (begun-held t i ls w.locals f.locals_held, held-append rs _ (given g w.stack) _ b (rw d (begun-held t i us ts ((and_parts _ _ p).1))))
