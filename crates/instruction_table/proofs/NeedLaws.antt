-- What fits below an operand that serves serves too.
use Rattle.std.proofs.Common.{◌≡◌, ◌∙◌, sym, subst, refl, ℕ, ◌-◌, ◌<◌, Bool, true, false, List, [], ◌∷◌, Option, ◌⊎◌, inl, inr, arith}
use Rattle.std.specs.Prelude.{◌&&◌, ◌||◌, ◌==◌, nat_lt, if◌then◌else◌}
use Rattle.std.proofs.lemmas.Bool.{cases_Bool}
use Rattle.std.proofs.lemmas.Bool.Decides.{nat_tests}
use Rattle.flow_types.specs.Tree.{IsTree}
use Rattle.flow_types.specs.Types.{type_fits, elem_fits, is_object, IsType}
use Rattle.flow_types.specs.TypeLists.{types_fit, is_operand}
use Rattle.flow_types.specs.declared.element.Element.{Element}
use Rattle.flow_types.specs.declared.element.Element.TheVariants.{Primitive, Object}
use Rattle.flow_types.specs.declared.element.Primitive.{Primitive as PrimitiveType}
use Rattle.flow_types.specs.declared.flow_type.FlowType.{FlowType}
use Rattle.flow_types.specs.declared.flow_type.FlowType.TheVariants.{Unusable, Int, Long, High, Null, Class, Array, Fresh, FreshThis}
use Rattle.flow_types.proofs.TypeLaws.{only-same, top, type-trans, ArrayFits, array-view, array-back, primitive-is}
use Rattle.flow_types.proofs.ListLaws.{and_parts, and_both}
use Rattle.instruction_table.specs.Needs.{is_int, is_long, is_high, is_reference, is_uninitialised, holds, is_array_of, has_part, is_reference_array, is_array, judged, own_rules, need_rules, needs_rules}
use Rattle.instruction_table.specs.Working.{part_of, part_type, fills}
use Rattle.instruction_table.specs.declared.row.Slot.{Slot}
use Rattle.instruction_table.specs.declared.row.Slot.TheVariants as slot
use Rattle.instruction_table.specs.declared.row.Need.{Need}
use Rattle.instruction_table.specs.declared.row.Need.TheVariants as need
use Rattle.instruction_table.proofs.FitLists.{append_empty, both_empty, if_empty, then_empty}

int-is : (t : FlowType) → is_int t ≡ true → t ≡ Int
int-is Int h = refl
int-is _ h = absurd cc

long-is : (t : FlowType) → is_long t ≡ true → t ≡ Long
long-is Long h = refl
long-is _ h = absurd cc

pub high-is : (t : FlowType) → is_high t ≡ true → t ≡ High
high-is High h = refl
high-is _ h = absurd cc

pub int-under : (supers : List (Option ℕ)) (t u : FlowType) → type_fits supers t u ≡ true → is_int u ≡ true → is_int t ≡ true
int-under supers t u f h = let e : u ≡ Int = int-is u h in let g : t ≡ Int = only-same supers t Int tt (subst (λ z. type_fits supers t z ≡ true) e f) in rw g refl

pub long-under : (supers : List (Option ℕ)) (t u : FlowType) → type_fits supers t u ≡ true → is_long u ≡ true → is_long t ≡ true
long-under supers t u f h = let e : u ≡ Long = long-is u h in let g : t ≡ Long = only-same supers t Long tt (subst (λ z. type_fits supers t z ≡ true) e f) in rw g refl

pub high-under : (supers : List (Option ℕ)) (t u : FlowType) → type_fits supers t u ≡ true → is_high u ≡ true → is_high t ≡ true
high-under supers t u f h = let e : u ≡ High = high-is u h in let g : t ≡ High = only-same supers t High tt (subst (λ z. type_fits supers t z ≡ true) e f) in rw g refl

above-long : (supers : List (Option ℕ)) (u : FlowType) → type_fits supers Long u ≡ true → is_operand u ≡ true → is_long u ≡ false → ⊥
above-long supers Long f o h = absurd cc
above-long supers Unusable f o h = absurd cc
above-long supers _ f o h = absurd cc

-- below an operand a long is a long and nothing else
pub long-same : (supers : List (Option ℕ)) (t u : FlowType) → type_fits supers t u ≡ true → is_operand u ≡ true → is_long t ≡ is_long u
long-same supers t u f o =
    elim (cases_Bool (is_long u)) [
      | inl h ↦ long-under supers t u f h ∙ sym h
      | inr h ↦ elim (cases_Bool (is_long t)) [
        | inl g ↦ let e : t ≡ Long = long-is t g in absurd (above-long supers u (subst (λ z. type_fits supers z u ≡ true) e f) o h)
        | inr g ↦ g ∙ sym h
      ]
    ]

-- a reference that is initialised
abbrev pub IsReady : FlowType → Type 0
IsReady t = (is_reference t ≡ true) × (is_uninitialised t ≡ false)

pub ready-under : (supers : List (Option ℕ)) (t u : FlowType) → type_fits supers t u ≡ true → IsReady u → IsReady t
ready-under supers t Null f r = let e : t ≡ Null = only-same supers t Null tt f in subst IsReady (sym e) (refl, refl)
ready-under supers Null (Class c) f r = (refl, refl)
ready-under supers (Class a) (Class c) f r = (refl, refl)
ready-under supers (Array d e) (Class c) f r = (refl, refl)
ready-under supers Null (Array u e) f r = (refl, refl)
ready-under supers (Array d e) (Array u g) f r = (refl, refl)
ready-under supers _ (Class c) f r = absurd cc
ready-under supers _ (Array u e) f r = absurd cc
ready-under supers t (Fresh a) f r = let x : true ≡ false = r.1 in absurd cc
ready-under supers t FreshThis f r = let x : true ≡ false = r.1 in absurd cc
ready-under supers t _ f r = let x : false ≡ true = r.0 in absurd cc

pub reference-under : (supers : List (Option ℕ)) (t u : FlowType) → type_fits supers t u ≡ true → is_reference u ≡ true → is_reference t ≡ true
reference-under supers t Null f r = let e : t ≡ Null = only-same supers t Null tt f in rw e refl
reference-under supers t (Class c) f r = (ready-under supers t (Class c) f (refl, refl)).0
reference-under supers t (Array d e) f r = (ready-under supers t (Array d e) f (refl, refl)).0
reference-under supers t (Fresh a) f r = let e : t ≡ Fresh a = only-same supers t (Fresh a) tt f in rw e refl
reference-under supers t FreshThis f r = let e : t ≡ FreshThis = only-same supers t FreshThis tt f in rw e refl
reference-under supers t _ f r = absurd cc

pub fills-under : (supers : List (Option ℕ)) (k : Slot) (t u : FlowType) → type_fits supers t u ≡ true → fills k u ≡ true → fills k t ≡ true
fills-under supers slot.Int t u f h = int-under supers t u f h
fills-under supers slot.Long t u f h = long-under supers t u f h
fills-under supers slot.Reference t u f h = reference-under supers t u f h

pub judged-view : (t : FlowType) (fine : Bool) (r : ℕ) → judged t fine r ≡ [] → IsReady t × (fine ≡ true)
judged-view t fine r e =
    elim (cases_Bool (is_reference t)) [
      | inl h ↦ elim (cases_Bool (is_uninitialised t)) [
        | inl g ↦ let x : ◌≡◌ {A = List ℕ} (10 ∷ []) [] = rw (h, g) at e in absurd cc
        | inr g ↦ let x : ◌≡◌ {A = List ℕ} (if fine then [] else r ∷ []) [] = rw (h, g) at e in ((h, g), if_empty fine r x)
      ]
      | inr h ↦ let x : ◌≡◌ {A = List ℕ} (4 ∷ []) [] = rw h at e in absurd cc
    ]

judged-back : (t : FlowType) (fine : Bool) (r : ℕ) → IsReady t → fine ≡ true → judged t fine r ≡ []
judged-back t fine r h f = rw (h.0, h.1, f) refl

judged-under : (supers : List (Option ℕ)) (t u : FlowType) (f g : Bool) (r : ℕ) → type_fits supers t u ≡ true → (IsReady u → g ≡ true → f ≡ true) → judged u g r ≡ [] → judged t f r ≡ []
judged-under supers t u f g r h k e = let (x, y) = judged-view u g r e in judged-back t f r (ready-under supers t u h x) (k x y)

or_true : (a b : Bool) → (a || b) ≡ true → (a ≡ true) ⊎ (b ≡ true)
or_true true b h = inl refl
or_true false b h = inr h

module _ (supers : List (Option ℕ)) (tree : IsTree supers) where
  elem-holds : (k : PrimitiveType) (e f : Element) → elem_fits supers e f ≡ true → holds k f ≡ true → holds k e ≡ true
  elem-holds k (Primitive a) (Primitive b) h g = let e : a ≡ b = primitive-is a b h in rw e g
  elem-holds k (Object a) (Primitive b) h g = absurd cc
  elem-holds k e (Object b) h g = absurd cc

  no-object : (k : PrimitiveType) (f : Element) → is_object f ≡ true → holds k f ≡ true → ⊥
  no-object k (Primitive b) h g = absurd cc
  no-object k (Object b) h g = absurd cc

  one-fits : (k : PrimitiveType) (d : ℕ) (e : Element) (u : ℕ) (f : Element) → ArrayFits supers d e u f → (u == 1) ≡ true → holds k f ≡ true → (d == 1 && holds k e) ≡ true
  one-fits k d e u f (inl p) h g =
      let x : d ≡ u = p.0 in and_both (d == 1) (holds k e) (subst (λ z. (z == 1) ≡ true) (sym x) h) (elem-holds k e f (p.1) g)
  one-fits k d e u f (inr p) h g = absurd (no-object k f (p.1) g)

  array-of-under : (k : PrimitiveType) (t u : FlowType) → type_fits supers t u ≡ true → is_array_of k u ≡ true → is_array_of k t ≡ true
  array-of-under k t Null f h = let e : t ≡ Null = only-same supers t Null tt f in rw e refl
  array-of-under k Null (Array u g) f h = refl
  array-of-under k (Array d e) (Array u g) f h = let (p, q) = and_parts (u == 1) (holds k g) h in one-fits k d e u g (array-view supers d e u g f) p q
  array-of-under k _ (Array u g) f h = absurd cc
  array-of-under k t _ f h = absurd cc

  part-there : (d : ℕ) (e : Element) (u : ℕ) (f : Element) → ArrayFits supers d e u f → has_part u f ≡ true → has_part d e ≡ true
  part-there d (Primitive a) u (Primitive b) (inl p) h = let x : d ≡ u = p.0 in rw x h
  part-there d (Primitive a) u (Object b) (inl p) h = let x : false ≡ true = p.1 in absurd cc
  part-there d (Object a) u (Primitive b) (inl p) h = let x : false ≡ true = p.1 in absurd cc
  part-there d (Object a) u (Object b) (inl p) h = let x : d ≡ u = p.0 in rw x h
  part-there d e u (Primitive b) (inr p) h = let x : false ≡ true = p.1 in absurd cc
  part-there d (Primitive a) u (Object b) (inr p) h = grind (arith, nat_tests)
  part-there d (Object a) u (Object b) (inr p) h = grind (arith, nat_tests)

  references-under : (t u : FlowType) → type_fits supers t u ≡ true → is_reference_array u ≡ true → is_reference_array t ≡ true
  references-under t Null f h = let e : t ≡ Null = only-same supers t Null tt f in rw e refl
  references-under Null (Array u g) f h = refl
  references-under (Array d e) (Array u g) f h = part-there d e u g (array-view supers d e u g f) h
  references-under _ (Array u g) f h = absurd cc
  references-under t _ f h = absurd cc

  array-under : (t u : FlowType) → type_fits supers t u ≡ true → is_array u ≡ true → is_array t ≡ true
  array-under t Null f h = let e : t ≡ Null = only-same supers t Null tt f in rw e refl
  array-under Null (Array u g) f h = refl
  array-under (Array d e) (Array u g) f h = refl
  array-under _ (Array u g) f h = absurd cc
  array-under t _ f h = absurd cc

  not-new : (owner c : ℕ) (t : FlowType) → IsReady t → own_rules supers owner c t ≡ judged t (type_fits supers t (Class c)) 8
  not-new owner c Null r = refl
  not-new owner c (Class a) r = refl
  not-new owner c (Array d e) r = refl
  not-new owner c FreshThis r = let x : true ≡ false = r.1 in absurd cc
  not-new owner c (Fresh a) r = let x : true ≡ false = r.1 in absurd cc
  not-new owner c _ r = let x : false ≡ true = r.0 in absurd cc

  own-judged : (owner c : ℕ) (t u : FlowType) → type_fits supers t u ≡ true → judged u (type_fits supers u (Class c)) 8 ≡ [] → own_rules supers owner c t ≡ []
  own-judged owner c t u f h =
      let (x, y) = judged-view u (type_fits supers u (Class c)) 8 h in
      let r : IsReady t = ready-under supers t u f x in
      not-new owner c t r ∙ judged-back t (type_fits supers t (Class c)) 8 r (type-trans supers tree t u (Class c) f y)

  own-under : (owner c : ℕ) (t u : FlowType) → type_fits supers t u ≡ true → own_rules supers owner c u ≡ [] → own_rules supers owner c t ≡ []
  own-under owner c t FreshThis f h = let e : t ≡ FreshThis = only-same supers t FreshThis tt f in rw e h
  own-under owner c t Null f h = own-judged owner c t Null f h
  own-under owner c t (Class a) f h = own-judged owner c t (Class a) f h
  own-under owner c t (Array d e) f h = own-judged owner c t (Array d e) f h
  own-under owner c t _ f h = absurd cc

  pub need-under : (owner : ℕ) (n : Need) (t u : FlowType) → type_fits supers t u ≡ true → need_rules supers owner n u ≡ [] → need_rules supers owner n t ≡ []
  need-under owner need.Int t u f h = then_empty (is_int t) 4 (int-under supers t u f (if_empty (is_int u) 4 h))
  need-under owner need.Long t u f h = then_empty (is_long t) 4 (long-under supers t u f (if_empty (is_long u) 4 h))
  need-under owner (need.Fitting r wanted) t u f h = judged-under supers t u (type_fits supers t wanted) (type_fits supers u wanted) r f (λ _ g. type-trans supers tree t u wanted f g) h
  need-under owner (need.Primitives k) t u f h = judged-under supers t u (is_array_of k t) (is_array_of k u) 9 f (λ _ g. array-of-under k t u f g) h
  need-under owner need.References t u f h = judged-under supers t u (is_reference_array t) (is_reference_array u) 9 f (λ _ g. references-under t u f g) h
  need-under owner need.Array t u f h = judged-under supers t u (is_array t) (is_array u) 9 f (λ _ g. array-under t u f g) h
  need-under owner (need.Own c) t u f h = own-under owner c t u f h

  pub needs-under : (owner : ℕ) (ns : List Need) (ts us : List FlowType) → types_fit supers ts us ≡ true → needs_rules supers owner ns us ≡ [] → needs_rules supers owner ns ts ≡ []
  needs-under owner [] ts us f h = refl
  needs-under owner (n ∷ ns) ts [] f h = absurd cc
  needs-under owner (n ∷ ns) [] (u ∷ us) f h = absurd cc
  needs-under owner (n ∷ ns) (t ∷ ts) (u ∷ us) f h =
      let (p, q) = and_parts (type_fits supers t u) (types_fit supers ts us) f in
      let (x, y) = append_empty (need_rules supers owner n u) (needs_rules supers owner ns us) h in
      both_empty (need_rules supers owner n t) (needs_rules supers owner ns ts) (need-under owner n t u p x) (needs-under owner ns ts us q y)

  null-part : (d : ℕ) (e : Element) → type_fits supers Null (part_of d e) ≡ true
  null-part d (Primitive k) = refl
  null-part d (Object c) = elim (cases_Bool (nat_lt 1 d)) [ inl h ↦ rw h refl | inr h ↦ rw h refl ]

  part-fits : (d : ℕ) (e : Element) (u : ℕ) (f : Element) → 0 < u → IsType supers (Array d e) → ArrayFits supers d e u f → type_fits supers (part_of d e) (part_of u f) ≡ true
  part-fits d (Primitive a) u (Primitive b) z t (inl p) = let x : d ≡ u = p.0 in rw x (array-back supers (u - 1) (Primitive a) (u - 1) (Primitive b) (inl (refl, p.1)))
  part-fits d (Primitive a) u (Object b) z t (inl p) = let x : false ≡ true = p.1 in absurd cc
  part-fits d (Object a) u (Primitive b) z t (inl p) = let x : false ≡ true = p.1 in absurd cc
  part-fits d (Object a) u (Object b) z t (inl p) =
      let x : d ≡ u = p.0 in
      elim (cases_Bool (nat_lt 1 u)) [
        | inl h ↦ rw (x, h) (array-back supers (u - 1) (Object a) (u - 1) (Object b) (inl (refl, p.1)))
        | inr h ↦ rw (x, h) (p.1)
      ]
  part-fits d e u (Primitive b) z t (inr p) = let x : false ≡ true = p.1 in absurd cc
  part-fits d (Primitive a) u (Object b) z t (inr p) =
      elim (cases_Bool (nat_lt 1 u)) [
        | inl h ↦ rw h (array-back supers (d - 1) (Primitive a) (u - 1) (Object b) (inr (grind (arith, nat_tests), p.1)))
        | inr h ↦ rw h (p.1)
      ]
  part-fits d (Object a) u (Object b) z t (inr p) =
      let l : nat_lt 1 d ≡ true = grind (arith, nat_tests) in
      elim (cases_Bool (nat_lt 1 u)) [
        | inl h ↦ rw (l, h) (array-back supers (d - 1) (Object a) (u - 1) (Object b) (inr (grind (arith, nat_tests), p.1)))
        | inr h ↦ rw (l, h) (p.1)
      ]

  -- a part of what lies below is below the part
  pub part-under : (t u : FlowType) → IsType supers t → IsType supers u → type_fits supers t u ≡ true → type_fits supers (part_type t) (part_type u) ≡ true
  part-under t Unusable i j f = top supers (part_type t)
  part-under t Int i j f = top supers (part_type t)
  part-under t Long i j f = top supers (part_type t)
  part-under t High i j f = top supers (part_type t)
  part-under t (Class c) i j f = top supers (part_type t)
  part-under t (Fresh a) i j f = top supers (part_type t)
  part-under t FreshThis i j f = top supers (part_type t)
  part-under t Null i j f = let e : t ≡ Null = only-same supers t Null tt f in rw e refl
  part-under Null (Array u g) i j f = null-part u g
  part-under (Array d e) (Array u g) i j f = part-fits d e u g (j.0) i (array-view supers d e u g f)
  part-under _ (Array u g) i j f = absurd cc
