-- A row that breaks no rule in a frame breaks none in one below it, and gives one below.
use Rattle.std.proofs.Common.{◌≡◌, ◌∙◌, sym, ap, subst, refl, ℕ, ◌+◌, Bool, true, false, not, List, [], ◌∷◌, take, drop, length, Option, Some, None, inl, inr}
use Rattle.std.specs.Prelude.{◌&&◌, ◌||◌, ◌==◌, slice_get, slice_set}
use Rattle.std.proofs.lemmas.Bool.{cases_Bool}
use Rattle.flow_types.specs.Tree.{IsTree}
use Rattle.flow_types.specs.Types.{type_fits, IsType}
use Rattle.flow_types.specs.TypeLists.{types_fit, AreTypes, AreOperands}
use Rattle.flow_types.specs.declared.flow_type.FlowType.{FlowType}
use Rattle.flow_types.specs.declared.flow_type.FlowType.TheVariants.{Unusable, Int, Long, High, Null, Class, Array, Fresh, FreshThis}
use Rattle.flow_types.proofs.TypeLaws.{only-same, top, type-refl}
use Rattle.flow_types.proofs.ListLaws.{and_parts, and_both, fit-length}
use Rattle.instruction_table.specs.Needs.{is_long, is_high, is_reference, needs_rules}
use Rattle.instruction_table.specs.Working.{Site, fills, slot_count, read_rules, read_type, read_reference, taken_rules, room_rules, written, first_or, group_count, under, one_rules, wide_rules, group_rules, both_rules, doubled, doubled_types, swapped, given, is_same_new, new_type, begun_one, begun, init_rules, inits_rules, is_fresh_this, end_rules, row_rules, with_stack, begun_all, giving, next}
use Rattle.instruction_table.specs.Under.{Under}
use Rattle.instruction_table.specs.declared.row.Slot.{Slot}
use Rattle.instruction_table.specs.declared.row.Slot.TheVariants as slot
use Rattle.instruction_table.specs.declared.row.Need.{Need}
use Rattle.instruction_table.specs.declared.row.Gives.{Gives}
use Rattle.instruction_table.specs.declared.row.Gives.TheVariants as gives
use Rattle.instruction_table.specs.declared.row.Group.{Group}
use Rattle.instruction_table.specs.declared.row.Group.TheVariants as group
use Rattle.instruction_table.specs.declared.row.Row.{Row}
use Rattle.instruction_table.specs.declared.row.Row.TheVariants as row
use Rattle.instruction_table.specs.declared.work.Work.{Work}
use Rattle.instruction_table.proofs.FitLists.{append_empty, both_empty, if_empty, then_empty, fit-take, fit-drop, fit-append, fit-set, fit-at, fit-map, types-drop, operands-drop}
use Rattle.instruction_table.proofs.NeedLaws.{fills-under, high-under, long-same, reference-under, needs-under, part-under}

-- ---- groups

one-same : (supers : List (Option ℕ)) (ts us : List FlowType) → types_fit supers ts us ≡ true → AreOperands us → one_rules ts ≡ one_rules us
one-same supers [] [] f o = refl
one-same supers [] (u ∷ us) f o = absurd cc
one-same supers (t ∷ ts) [] f o = absurd cc
one-same supers (t ∷ ts) (u ∷ us) f o = let (p, q) = and_parts (type_fits supers t u) (types_fit supers ts us) f in rw (long-same supers t u p (o.0)) refl

wide-same : (supers : List (Option ℕ)) (ts us : List FlowType) → types_fit supers ts us ≡ true → AreOperands us → wide_rules ts ≡ wide_rules us
wide-same supers [] [] f o = refl
wide-same supers [] (u ∷ us) f o = absurd cc
wide-same supers (t ∷ ts) [] f o = absurd cc
wide-same supers (t ∷ ts) (u ∷ us) f o =
    let (p, q) = and_parts (type_fits supers t u) (types_fit supers ts us) f in
    rw (long-same supers t u p (o.0), one-same supers ts us q (o.1)) refl

group-same : (supers : List (Option ℕ)) (g : Group) (ts us : List FlowType) → types_fit supers ts us ≡ true → AreOperands us → group_rules g ts ≡ group_rules g us
group-same supers group.Nothing ts us f o = refl
group-same supers group.One ts us f o = one-same supers ts us f o
group-same supers group.Wide ts us f o = wide-same supers ts us f o

count-same : (supers : List (Option ℕ)) (g : Group) (ts us : List FlowType) → types_fit supers ts us ≡ true → AreOperands us → group_count is_long g ts ≡ group_count is_long g us
count-same supers group.Nothing ts us f o = refl
count-same supers group.One ts us f o = refl
count-same supers group.Wide [] [] f o = refl
count-same supers group.Wide [] (u ∷ us) f o = absurd cc
count-same supers group.Wide (t ∷ ts) [] f o = absurd cc
count-same supers group.Wide (t ∷ ts) (u ∷ us) f o = let (p, q) = and_parts (type_fits supers t u) (types_fit supers ts us) f in rw (long-same supers t u p (o.0)) refl

under-fit : (supers : List (Option ℕ)) (g : Group) (ts us : List FlowType) → types_fit supers ts us ≡ true → AreOperands us → types_fit supers (under g ts) (under g us) ≡ true
under-fit supers g ts us f o = rw (count-same supers g ts us f o) (fit-drop supers (group_count is_long g us) ts us f)

both-same : (supers : List (Option ℕ)) (a b : Group) (ts us : List FlowType) → types_fit supers ts us ≡ true → AreOperands us → both_rules a b ts ≡ both_rules a b us
both-same supers a b ts us f o =
    let g : types_fit supers (under a ts) (under a us) ≡ true = under-fit supers a ts us f o in
    rw (group-same supers a ts us f o, group-same supers b (under a ts) (under a us) g (operands-drop (group_count is_long a us) us o)) refl

doubled-fit : (supers : List (Option ℕ)) (k n : ℕ) (ts us : List FlowType) → types_fit supers ts us ≡ true → types_fit supers (doubled k n ts) (doubled k n us) ≡ true
doubled-fit supers k n ts us f =
    let d : types_fit supers (drop k ts) (drop k us) ≡ true = fit-drop supers k ts us f in
    fit-append supers (take k ts) (take k us) _ _ (fit-take supers k ts us f) (fit-append supers (take n (drop k ts)) (take n (drop k us)) _ _ (fit-take supers n (drop k ts) (drop k us) d) (fit-append supers (take k ts) (take k us) _ _ (fit-take supers k ts us f) (fit-drop supers n (drop k ts) (drop k us) d)))

pub doubled-whole : (a b : Group) (ts : List FlowType) → both_rules a b ts ≡ [] → doubled_types a b ts ≡ doubled (group_count is_long a ts) (group_count is_long b (under a ts)) ts
doubled-whole a b ts e = rw e refl

doubles-under : (supers : List (Option ℕ)) (a b : Group) (ts us : List FlowType) → types_fit supers ts us ≡ true → AreOperands us → both_rules a b us ≡ [] → types_fit supers (doubled_types a b ts) (doubled_types a b us) ≡ true
doubles-under supers a b ts us f o e =
    let g : both_rules a b ts ≡ [] = both-same supers a b ts us f o ∙ e in
    let x : group_count is_long a ts ≡ group_count is_long a us = count-same supers a ts us f o in
    let y : group_count is_long b (under a ts) ≡ group_count is_long b (under a us) = count-same supers b (under a ts) (under a us) (under-fit supers a ts us f o) (operands-drop (group_count is_long a us) us o) in
    let d : types_fit supers (doubled (group_count is_long a us) (group_count is_long b (under a us)) ts) (doubled (group_count is_long a us) (group_count is_long b (under a us)) us) ≡ true = doubled-fit supers (group_count is_long a us) (group_count is_long b (under a us)) ts us f in
    let left : doubled_types a b ts ≡ doubled (group_count is_long a us) (group_count is_long b (under a us)) ts = doubled-whole a b ts g ∙ ap (λ k. doubled k (group_count is_long b (under a ts)) ts) x ∙ ap (λ k. doubled (group_count is_long a us) k ts) y in
    let right : doubled_types a b us ≡ doubled (group_count is_long a us) (group_count is_long b (under a us)) us = doubled-whole a b us e in
    subst (λ z. types_fit supers z (doubled_types a b us) ≡ true) (sym left) (subst (λ z. types_fit supers (doubled (group_count is_long a us) (group_count is_long b (under a us)) ts) z ≡ true) (sym right) d)

swap-fit : (supers : List (Option ℕ)) (ts us : List FlowType) → types_fit supers ts us ≡ true → types_fit supers (swapped ts) (swapped us) ≡ true
swap-fit supers [] [] f = refl
swap-fit supers [] (u ∷ us) f = absurd cc
swap-fit supers (t ∷ ts) [] f = absurd cc
swap-fit supers (t ∷ []) (u ∷ []) f = f
swap-fit supers (t ∷ []) (u ∷ v ∷ us) f = let (p, q) = and_parts (type_fits supers t u) (types_fit supers [] (v ∷ us)) f in absurd cc
swap-fit supers (t ∷ s ∷ ts) (u ∷ []) f = let (p, q) = and_parts (type_fits supers t u) (types_fit supers (s ∷ ts) []) f in absurd cc
swap-fit supers (t ∷ s ∷ ts) (u ∷ v ∷ us) f =
    let (p, q) = and_parts (type_fits supers t u) (types_fit supers (s ∷ ts) (v ∷ us)) f in
    let (x, y) = and_parts (type_fits supers s v) (types_fit supers ts us) q in
    and_both _ _ x (and_both _ _ p y)

-- ---- locals

-- what a read that breaks no rule finds
pub data Found (k : Slot) (a b : Option FlowType) : Type 0 where
  single : (t : FlowType) → a ≡ Some t → fills k t ≡ true → (k ≡ slot.Long → ⊥) → Found k a b
  double : (t u : FlowType) → a ≡ Some t → b ≡ Some u → k ≡ slot.Long → fills slot.Long t ≡ true → is_high u ≡ true → Found k a b

pub found : (k : Slot) (a b : Option FlowType) → read_rules k a b ≡ [] → Found k a b
found k None b e = absurd cc
found slot.Long (Some t) None e = absurd cc
found slot.Long (Some t) (Some u) e = let (p, q) = and_parts (is_long t) (is_high u) (if_empty (is_long t && is_high u) 6 e) in double t u refl refl refl p q
found slot.Int (Some t) b e = single t refl (if_empty (fills slot.Int t) 6 e) (λ z. absurd cc)
found slot.Reference (Some t) b e = single t refl (if_empty (fills slot.Reference t) 6 e) (λ z. absurd cc)

reads : (k : Slot) (t : FlowType) (b : Option FlowType) → (k ≡ slot.Long → ⊥) → fills k t ≡ true → read_rules k (Some t) b ≡ []
reads slot.Long t b n h = absurd (n refl)
reads slot.Int t b n h = then_empty (fills slot.Int t) 6 h
reads slot.Reference t b n h = then_empty (fills slot.Reference t) 6 h

module _ (supers : List (Option ℕ)) where
  read-under : (k : Slot) (n : ℕ) (xs ys : List FlowType) → types_fit supers xs ys ≡ true → read_rules k (slice_get ys n) (slice_get ys (n + 1)) ≡ [] → read_rules k (slice_get xs n) (slice_get xs (n + 1)) ≡ []
  read-under k n xs ys f e = elim (found k (slice_get ys n) (slice_get ys (n + 1)) e) [
    | single t a h z ↦ let (s, b, g) = fit-at supers n xs ys t f a in rw b (reads k s (slice_get xs (n + 1)) z (fills-under supers k s t g h))
    | double t u a b z h i ↦
        let (s, c, g) = fit-at supers n xs ys t f a in
        let (r, d, j) = fit-at supers (n + 1) xs ys u f b in
        rw (z, c, d) (then_empty (is_long s && is_high r) 6 (and_both _ _ (fills-under supers slot.Long s t g h) (high-under supers r u j i)))
  ]

  reference-read : (t u : FlowType) → type_fits supers t u ≡ true → is_reference u ≡ true → type_fits supers (read_reference t) (read_reference u) ≡ true
  reference-read t u f h = rw (reference-under supers t u f h, h) f

  read-fits : (k : Slot) (n : ℕ) (xs ys : List FlowType) → types_fit supers xs ys ≡ true → read_rules k (slice_get ys n) (slice_get ys (n + 1)) ≡ [] → type_fits supers (read_type k (slice_get xs n)) (read_type k (slice_get ys n)) ≡ true
  read-fits slot.Int n xs ys f e = refl
  read-fits slot.Long n xs ys f e = refl
  read-fits slot.Reference n xs ys f e = elim (found slot.Reference (slice_get ys n) (slice_get ys (n + 1)) e) [
    | single t a h z ↦ let (s, b, g) = fit-at supers n xs ys t f a in rw (a, b) (reference-read s t g h)
    | double t u a b z h i ↦ absurd cc
  ]

  bump-under : (n : ℕ) (xs ys : List FlowType) → types_fit supers xs ys ≡ true → read_rules slot.Int (slice_get ys n) None ≡ [] → read_rules slot.Int (slice_get xs n) None ≡ []
  bump-under n xs ys f e = elim (found slot.Int (slice_get ys n) None e) [
    | single t a h z ↦ let (s, b, g) = fit-at supers n xs ys t f a in rw b (reads slot.Int s None z (fills-under supers slot.Int s t g h))
    | double t u a b z h i ↦ absurd cc
  ]

  taken-under : (k : Slot) (ts us : List FlowType) → types_fit supers ts us ≡ true → taken_rules k us ≡ [] → (taken_rules k ts ≡ []) × (type_fits supers (first_or Unusable ts) (first_or Unusable us) ≡ true)
  taken-under k ts [] f e = absurd cc
  taken-under k [] (u ∷ us) f e = absurd cc
  taken-under k (t ∷ ts) (u ∷ us) f e =
      let (p, q) = and_parts (type_fits supers t u) (types_fit supers ts us) f in
      (then_empty (fills k t) 4 (fills-under supers k t u p (if_empty (fills k u) 4 e)), p)

  written-fit : (k : Slot) (n : ℕ) (t u : FlowType) (xs ys : List FlowType) → types_fit supers xs ys ≡ true → type_fits supers t u ≡ true → types_fit supers (written k n t xs) (written k n u ys) ≡ true
  written-fit slot.Int n t u xs ys f g = fit-set supers n xs ys t u f g
  written-fit slot.Reference n t u xs ys f g = fit-set supers n xs ys t u f g
  written-fit slot.Long n t u xs ys f g = fit-set supers (n + 1) (slice_set xs n t) (slice_set ys n u) High High (fit-set supers n xs ys t u f g) refl

-- ---- what is pushed, and initialising

-- an uninitialised type
abbrev pub IsNew : FlowType → Type 0
IsNew (Fresh a) = Unit {0}
IsNew FreshThis = Unit {0}
IsNew _ = ⊥

module _ (supers : List (Option ℕ)) (tree : IsTree supers) where
  first-fits : (ts us : List FlowType) → types_fit supers ts us ≡ true → type_fits supers (first_or Null ts) (first_or Null us) ≡ true
  first-fits [] [] f = refl
  first-fits [] (u ∷ us) f = absurd cc
  first-fits (t ∷ ts) [] f = absurd cc
  first-fits (t ∷ ts) (u ∷ us) f = let (p, q) = and_parts (type_fits supers t u) (types_fit supers ts us) f in p

  pub first-type : (ts : List FlowType) → AreTypes supers ts → IsType supers (first_or Null ts)
  first-type [] h = tt
  first-type (t ∷ ts) h = h.0

  given-fit : (g : Gives) (ts us : List FlowType) → AreTypes supers ts → AreTypes supers us → types_fit supers ts us ≡ true → types_fit supers (given g ts) (given g us) ≡ true
  given-fit gives.Nothing ts us i j f = refl
  given-fit (gives.One t) ts us i j f = and_both _ _ (type-refl supers tree t) refl
  given-fit gives.Part ts us i j f =
      and_both _ _ (part-under supers tree (first_or Null (drop 1 ts)) (first_or Null (drop 1 us)) (first-type (drop 1 ts) (types-drop supers 1 ts i)) (first-type (drop 1 us) (types-drop supers 1 us j)) (first-fits (drop 1 ts) (drop 1 us) (fit-drop supers 1 ts us f))) refl

  new-below : (was t u : FlowType) → IsNew was → type_fits supers t u ≡ true → is_same_new was u ≡ true → t ≡ u
  new-below (Fresh a) t (Fresh b) i f h = only-same supers t (Fresh b) tt f
  new-below FreshThis t FreshThis i f h = only-same supers t FreshThis tt f
  new-below (Fresh a) t _ i f h = absurd cc
  new-below FreshThis t _ i f h = absurd cc
  new-below _ t u i f h = absurd i

  above-new : (was t u : FlowType) → IsNew was → type_fits supers t u ≡ true → is_same_new was t ≡ true → is_same_new was u ≡ false → u ≡ Unusable
  above-new (Fresh a) (Fresh b) Unusable i f h g = refl
  above-new (Fresh a) (Fresh b) (Fresh c) i f h g = let e : Fresh b ≡ Fresh c = only-same supers (Fresh b) (Fresh c) tt f in let k : (a == b) ≡ false = subst (λ z. is_same_new (Fresh a) z ≡ false) (sym e) g in absurd cc
  above-new (Fresh a) (Fresh b) _ i f h g = absurd cc
  above-new (Fresh a) _ u i f h g = absurd cc
  above-new FreshThis FreshThis Unusable i f h g = refl
  above-new FreshThis FreshThis _ i f h g = absurd cc
  above-new FreshThis _ u i f h g = absurd cc
  above-new _ t u i f h g = absurd i

  begun-fits : (was now t u : FlowType) → IsNew was → type_fits supers t u ≡ true → type_fits supers (begun_one was now t) (begun_one was now u) ≡ true
  begun-fits was now t u i f =
      elim (cases_Bool (is_same_new was u)) [
        | inl h ↦ let e : t ≡ u = new-below was t u i f h in rw (e, h) (type-refl supers tree now)
        | inr h ↦ elim (cases_Bool (is_same_new was t)) [
          | inl g ↦ let e : u ≡ Unusable = above-new was t u i f g h in subst (λ z. type_fits supers (begun_one was now t) z ≡ true) (sym (ap (begun_one was now) e ∙ unusable-stays was now i)) (top supers (begun_one was now t))
          | inr g ↦ rw (h, g) f
        ]
      ]
    where
      unusable-stays : (was now : FlowType) → IsNew was → begun_one was now Unusable ≡ Unusable
      unusable-stays (Fresh a) now i = refl
      unusable-stays FreshThis now i = refl
      unusable-stays _ now i = absurd i

  begun-fit : (was now : FlowType) (xs ys : List FlowType) → IsNew was → types_fit supers xs ys ≡ true → types_fit supers (begun was now xs) (begun was now ys) ≡ true
  begun-fit was now xs ys i f = fit-map supers (begun_one was now) (begun_one was now) (λ t u g. begun-fits was now t u i g) xs ys f

-- only an uninitialised object is initialised
pub init-new : (s : Site) (c : ℕ) (u : FlowType) → init_rules s c u ≡ [] → IsNew u
init-new s c (Fresh a) e = tt
init-new s c FreshThis e = tt
init-new s c Unusable e = absurd cc
init-new s c Int e = absurd cc
init-new s c Long e = absurd cc
init-new s c High e = absurd cc
init-new s c Null e = absurd cc
init-new s c (Class d) e = absurd cc
init-new s c (Array d f) e = absurd cc

new-only : (supers : List (Option ℕ)) (t u : FlowType) → IsNew u → type_fits supers t u ≡ true → t ≡ u
new-only supers t (Fresh a) i f = only-same supers t (Fresh a) tt f
new-only supers t FreshThis i f = only-same supers t FreshThis tt f
new-only supers t _ i f = absurd i

not_both : (f g h : Bool) → (not f || g) ≡ true → (not (f && h) || (g && h)) ≡ true
not_both true true true e = refl
not_both true true false e = refl
not_both true false h e = absurd cc
not_both false true true e = refl
not_both false true false e = refl
not_both false false true e = refl
not_both false false false e = refl

module _ (s : Site) (tree : IsTree s.supers) where
  acts-under : (needs : List Need) (g : Gives) (v w : Work) → AreTypes s.supers v.stack → AreTypes s.supers w.stack → Under s.supers v w → needs_rules s.supers s.owner needs w.stack ≡ [] → (needs_rules s.supers s.owner needs v.stack ≡ []) × Under s.supers (next s (row.Acts needs g) v) (next s (row.Acts needs g) w)
  acts-under needs g v w i j u e = (
    needs-under s.supers tree s.owner needs v.stack w.stack u.stack e,
    record {
      locals = u.locals;
      stack = fit-append s.supers (given g v.stack) (given g w.stack) _ _ (given-fit s.supers tree g v.stack w.stack i j u.stack) (fit-drop s.supers (length needs) v.stack w.stack u.stack);
      fresh = u.fresh;
    },
  )

  -- the object below the arguments, and what lies below it
  init-parts : (c : ℕ) (ts us : List FlowType) → types_fit s.supers ts us ≡ true → inits_rules s c us ≡ [] → (inits_rules s c ts ≡ []) × IsNew (first_or Null us) × (first_or Null ts ≡ first_or Null us)
  init-parts c ts [] f e = absurd cc
  init-parts c [] (u ∷ us) f e = absurd cc
  init-parts c (t ∷ ts) (u ∷ us) f e =
      let (p, q) = and_parts (type_fits s.supers t u) (types_fit s.supers ts us) f in
      let n : IsNew u = init-new s c u e in
      let g : t ≡ u = new-only s.supers t u n p in
      (subst (λ z. init_rules s c z ≡ []) (sym g) e, n, g)

  inits-under : (needs : List Need) (c : ℕ) (g : Gives) (v w : Work) → AreTypes s.supers v.stack → AreTypes s.supers w.stack → Under s.supers v w → row_rules s (row.Inits needs c g) w ≡ [] → (row_rules s (row.Inits needs c g) v ≡ []) × Under s.supers (next s (row.Inits needs c g) v) (next s (row.Inits needs c g) w)
  inits-under needs c g v w i j u e =
      let (x, y) = append_empty (needs_rules s.supers s.owner needs w.stack) (inits_rules s c (drop (length needs) w.stack)) e in
      let d : types_fit s.supers (drop (length needs) v.stack) (drop (length needs) w.stack) ≡ true = fit-drop s.supers (length needs) v.stack w.stack u.stack in
      let (a, n, k) = init-parts c (drop (length needs) v.stack) (drop (length needs) w.stack) d y in
      let was = first_or Null (drop (length needs) w.stack) in
      let below : types_fit s.supers (begun was (new_type s was) (drop 1 (drop (length needs) v.stack))) (begun was (new_type s was) (drop 1 (drop (length needs) w.stack))) ≡ true = begun-fit s.supers tree was (new_type s was) (drop 1 (drop (length needs) v.stack)) (drop 1 (drop (length needs) w.stack)) n (fit-drop s.supers 1 (drop (length needs) v.stack) (drop (length needs) w.stack) d) in (
        both_empty (needs_rules s.supers s.owner needs v.stack) (inits_rules s c (drop (length needs) v.stack)) (needs-under s.supers tree s.owner needs v.stack w.stack u.stack x) a,
        subst (λ z. Under s.supers (giving g v.stack (begun_all s z (with_stack v (drop 1 (drop (length needs) v.stack))))) (next s (row.Inits needs c g) w)) (sym k) (record {
          locals = begun-fit s.supers tree was (new_type s was) v.locals w.locals n u.locals;
          stack = fit-append s.supers (given g v.stack) (given g w.stack) _ _ (given-fit s.supers tree g v.stack w.stack i j u.stack) below;
          fresh = not_both v.fresh w.fresh (not (is_fresh_this was)) u.fresh;
        }),
      )

  fresh-none : (f g fine : Bool) → (not f || g) ≡ true → end_rules fine g ≡ [] → end_rules fine f ≡ []
  fresh-none false false fine u e = e
  fresh-none true false fine u e = absurd cc
  fresh-none f true true u e = absurd cc
  fresh-none f true false u e = absurd cc

  ends-under : (needs : List Need) (fine : Bool) (v w : Work) → Under s.supers v w → row_rules s (row.Ends needs fine) w ≡ [] → (row_rules s (row.Ends needs fine) v ≡ []) × Under s.supers (next s (row.Ends needs fine) v) (next s (row.Ends needs fine) w)
  ends-under needs fine v w u e =
      let (x, y) = append_empty (needs_rules s.supers s.owner needs w.stack) (end_rules fine w.fresh) e in (
        both_empty (needs_rules s.supers s.owner needs v.stack) (end_rules fine v.fresh) (needs-under s.supers tree s.owner needs v.stack w.stack u.stack x) (fresh-none v.fresh w.fresh fine u.fresh y),
        record { locals = u.locals; stack = fit-drop s.supers (length needs) v.stack w.stack u.stack; fresh = u.fresh },
      )

  writes-under : (k : Slot) (n : ℕ) (v w : Work) → Under s.supers v w → row_rules s (row.Writes k n) w ≡ [] → (row_rules s (row.Writes k n) v ≡ []) × Under s.supers (next s (row.Writes k n) v) (next s (row.Writes k n) w)
  writes-under k n v w u e =
      let (x, y) = append_empty (taken_rules k w.stack) (room_rules (n + slot_count k) w.locals) e in
      let (a, b) = taken-under s.supers k v.stack w.stack u.stack x in
      let l : length v.locals ≡ length w.locals = fit-length s.supers tree v.locals w.locals u.locals in (
        both_empty (taken_rules k v.stack) (room_rules (n + slot_count k) v.locals) a (rw l y),
        record { locals = written-fit s.supers k n (first_or Unusable v.stack) (first_or Unusable w.stack) v.locals w.locals u.locals b; stack = fit-drop s.supers 1 v.stack w.stack u.stack; fresh = u.fresh },
      )

  pub next-under : (r : Row) (v w : Work) → AreTypes s.supers v.stack → AreTypes s.supers w.stack → AreOperands w.stack → Under s.supers v w → row_rules s r w ≡ [] → (row_rules s r v ≡ []) × Under s.supers (next s r v) (next s r w)
  next-under (row.Acts needs g) v w i j o u e = acts-under needs g v w i j u e
  next-under (row.Reads k n) v w i j o u e = (
    read-under s.supers k n v.locals w.locals u.locals e,
    record { locals = u.locals; stack = and_both _ _ (read-fits s.supers k n v.locals w.locals u.locals e) u.stack; fresh = u.fresh },
  )
  next-under (row.Writes k n) v w i j o u e = writes-under k n v w u e
  next-under (row.Bumps n) v w i j o u e = (bump-under s.supers n v.locals w.locals u.locals e, u)
  next-under (row.Drops g) v w i j o u e = (
    group-same s.supers g v.stack w.stack u.stack o ∙ e,
    record { locals = u.locals; stack = under-fit s.supers g v.stack w.stack u.stack o; fresh = u.fresh },
  )
  next-under (row.Doubles a b) v w i j o u e = (
    both-same s.supers a b v.stack w.stack u.stack o ∙ e,
    record { locals = u.locals; stack = doubles-under s.supers a b v.stack w.stack u.stack o e; fresh = u.fresh },
  )
  next-under row.Swaps v w i j o u e = (
    both-same s.supers group.One group.One v.stack w.stack u.stack o ∙ e,
    record { locals = u.locals; stack = swap-fit s.supers v.stack w.stack u.stack; fresh = u.fresh },
  )
  next-under (row.Inits needs c g) v w i j o u e = inits-under needs c g v w i j u e
  next-under (row.Ends needs fine) v w i j o u e = ends-under needs fine v w u e
