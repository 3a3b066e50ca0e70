-- Values of types: what fits stays, and what a type shows of its values.
use Rattle.std.proofs.Common.{◌≡◌, ◌∙◌, sym, subst, refl, ℕ, ◌-◌, ◌<◌, Bool, true, false, List, [], ◌∷◌, Option, Some, None, ◌⊎◌, inl, inr, arith}
use Rattle.std.specs.Prelude.{◌&&◌, ◌==◌, nat_lt}
use Rattle.std.proofs.lemmas.Bool.{cases_Bool, eqb-true}
use Rattle.std.proofs.lemmas.Bool.Decides.{nat_tests}
use Rattle.jvm_base.specs.Words.{from}
use Rattle.jvm_base.specs.declared.name.Name.{Name}
use Rattle.jvm_base.specs.declared.value.Value.{Value}
use Rattle.jvm_base.specs.declared.value.Value.TheVariants.{Int, Long, Ref, Null}
use Rattle.program_image.specs.declared.info.ArrayInfo.{ArrayInfo}
use Rattle.program_image.specs.Program.{Program}
use Rattle.flow_types.specs.Tree.{superclasses, IsTree}
use Rattle.flow_types.specs.Types.{type_fits, elem_fits, is_object}
use Rattle.flow_types.specs.TypeLists.{types_fit}
use Rattle.flow_types.specs.declared.element.Element.{Element}
use Rattle.flow_types.specs.declared.element.Element.TheVariants.{Primitive, Object}
use Rattle.flow_types.specs.declared.element.Primitive.{Primitive as PrimitiveType}
use Rattle.flow_types.specs.declared.flow_type.FlowType.{FlowType}
use Rattle.flow_types.specs.declared.flow_type.FlowType.TheVariants as flow
use Rattle.flow_types.proofs.ListLaws.{and_parts, and_both}
use Rattle.flow_types.proofs.TypeLaws.{top, only-same, type-refl, type-trans, ArrayFits, array-view, array-back, primitive-is}
use Rattle.instruction_table.specs.ClassTypes.{plain, element_type, class_type, array_at, value_type, owner_of, new_class}
use Rattle.instruction_table.specs.Needs.{is_int, is_long, holds, is_array_of, has_part, is_reference_array, is_array, need_rules, needs_rules}
use Rattle.instruction_table.specs.Working.{part_of}
use Rattle.instruction_table.specs.declared.row.Need.{Need}
use Rattle.instruction_table.specs.declared.row.Need.TheVariants as need
use Rattle.instruction_table.proofs.FitLists.{append_empty, if_empty}
use Rattle.instruction_table.proofs.NeedLaws.{IsReady, judged-view}
use Rattle.frame_soundness.specs.Values.{erased, typed, held, all_held}
use Rattle.frame_soundness.specs.Meeting.{met, all_met}

-- what a class's type can be
pub data ClassShape : FlowType → Type 0 where
  a_class : {t : FlowType} (c : ℕ) → t ≡ flow.Class c → ClassShape t
  an_array : {t : FlowType} (d : ℕ) (e : Element) → t ≡ flow.Array d e → ClassShape t

pub class-shape : (image : Program) (c : ℕ) → ClassShape (class_type image c)
class-shape image c = by_array (array_at image c)
  where
    by_array : (o : Option ArrayInfo) → ClassShape (from (flow.Class (plain image c)) (λ a. flow.Array a.dims (element_type image a.elem)) o)
    by_array None = a_class (plain image c) refl
    by_array (Some a) = an_array a.dims (element_type image a.elem) refl

module _ (image : Program) (tree : IsTree (superclasses image)) where
  -- ---- arrays

  parts-back : (u : ℕ) (f : Element) (d : ℕ) (e : Element) → 1 < u → ArrayFits (superclasses image) u f d e → has_part d e ≡ true → (d ≡ 1 → is_object e ≡ true → type_fits (superclasses image) (flow.Array (u - 1) f) (part_of d e) ≡ true) → type_fits (superclasses image) (flow.Array (u - 1) f) (part_of d e) ≡ true
  parts-back u f d (Primitive k) l (inl a) h z = let q : u ≡ d = a.0 in array-back (superclasses image) (u - 1) f (d - 1) (Primitive k) (inl (omega arith, a.1))
  parts-back u f d (Primitive k) l (inr a) h z = let x : false ≡ true = a.1 in absurd cc
  parts-back u f d (Object c) l (inl a) h z =
      let q : u ≡ d = a.0 in let k : nat_lt 1 d ≡ true = grind (arith, nat_tests) in
      rw k (array-back (superclasses image) (u - 1) f (d - 1) (Object c) (inl (omega arith, a.1)))
  parts-back u f d (Object c) l (inr a) h z =
      elim (cases_Bool (nat_lt 1 d)) [
        | inl k ↦ rw k (array-back (superclasses image) (u - 1) f (d - 1) (Object c) (inr (grind (arith, nat_tests), a.1)))
        | inr k ↦ z (grind (arith, nat_tests)) a.1
      ]

  deep-part : (u : ℕ) (f : Element) → 1 < u → (has_part u f ≡ true) × (part_of u f ≡ flow.Array (u - 1) f)
  deep-part u (Primitive k) l = (grind (arith, nat_tests), refl)
  deep-part u (Object c) l = let k : nat_lt 1 u ≡ true = grind (arith, nat_tests) in (grind (arith, nat_tests), rw k refl)

  one-part : (u : ℕ) (f : Element) (d : ℕ) (c : ℕ) → u ≡ 1 → d ≡ 1 → elem_fits (superclasses image) f (Object c) ≡ true → (has_part u f ≡ true) × (type_fits (superclasses image) (part_of u f) (part_of d (Object c)) ≡ true)
  one-part u (Primitive k) d c p q h = absurd cc
  one-part u (Object b) d c p q h = rw (p, q) (refl, h)

  class-of-object : (e : Element) (t : FlowType) (d : ℕ) (f : Element) → t ≡ flow.Array d f → is_object e ≡ true → type_fits (superclasses image) t (part_of 1 e) ≡ true
  class-of-object (Primitive k) t d f q h = absurd cc
  class-of-object (Object c) t d f q h = rw q h

  -- an array that fits an array of references is one, and its part fits that one's part
  pub part-below : (u : ℕ) (f : Element) (d : ℕ) (e : Element) → type_fits (superclasses image) (flow.Array u f) (flow.Array d e) ≡ true → has_part d e ≡ true → (has_part u f ≡ true) × (type_fits (superclasses image) (part_of u f) (part_of d e) ≡ true)
  part-below u f d e h k = by_depth (cases_Bool (nat_lt 1 u)) e (array-view (superclasses image) u f d e h) k
    where
      by_depth : (nat_lt 1 u ≡ true) ⊎ (nat_lt 1 u ≡ false) → (e : Element) → ArrayFits (superclasses image) u f d e → has_part d e ≡ true → (has_part u f ≡ true) × (type_fits (superclasses image) (part_of u f) (part_of d e) ≡ true)
      by_depth (inl l) e a k =
          let l2 : 1 < u = grind (arith, nat_tests) in
          let (x, y) = deep-part u f l2 in
          (x, subst (λ t. type_fits (superclasses image) t (part_of d e) ≡ true) (sym y) (parts-back u f d e l2 a k (λ q o. subst (λ n. type_fits (superclasses image) (flow.Array (u - 1) f) (part_of n e) ≡ true) (sym q) (class-of-object e (flow.Array (u - 1) f) (u - 1) f refl o))))
      by_depth (inr l) (Object c) (inl a) k =
          let q : u ≡ d = a.0 in
          let n : u ≡ 1 = grind (arith, nat_tests) in
          one-part u f d c n (sym q ∙ n) a.1
      by_depth (inr l) (Primitive j) (inl a) k = let q : u ≡ d = a.0 in absurd (grind (arith, nat_tests))
      by_depth (inr l) (Primitive j) (inr a) k = let x : false ≡ true = a.1 in absurd cc
      by_depth (inr l) (Object c) (inr a) k = absurd (grind (arith, nat_tests))

  elem-holds : (k : PrimitiveType) (e f : Element) → elem_fits (superclasses image) e f ≡ true → holds k f ≡ true → holds k e ≡ true
  elem-holds k (Primitive a) (Primitive b) h g = let e : a ≡ b = primitive-is a b h in rw e g
  elem-holds k (Object a) (Primitive b) h g = absurd cc
  elem-holds k e (Object b) h g = absurd cc

  module _ (method : ℕ) (there : Name → Bool) where
    pub erased-up : (t u : FlowType) → type_fits (superclasses image) t u ≡ true → type_fits (superclasses image) (erased image method t) (erased image method u) ≡ true
    erased-up t flow.Unusable h = top (superclasses image) (erased image method t)
    erased-up t flow.High h = top (superclasses image) (erased image method t)
    erased-up t flow.Int h = rw (only-same (superclasses image) t flow.Int tt h) refl
    erased-up t flow.Long h = rw (only-same (superclasses image) t flow.Long tt h) refl
    erased-up t flow.Null h = rw (only-same (superclasses image) t flow.Null tt h) refl
    erased-up t (flow.Fresh a) h = rw (only-same (superclasses image) t (flow.Fresh a) tt h) (type-refl (superclasses image) tree (flow.Class (new_class image method a)))
    erased-up t flow.FreshThis h = rw (only-same (superclasses image) t flow.FreshThis tt h) (type-refl (superclasses image) tree (flow.Class (owner_of image method)))
    erased-up flow.Null (flow.Class c) h = h
    erased-up (flow.Class b) (flow.Class c) h = h
    erased-up (flow.Array d e) (flow.Class c) h = h
    erased-up _ (flow.Class c) h = absurd cc
    erased-up flow.Null (flow.Array d e) h = h
    erased-up (flow.Array u f) (flow.Array d e) h = h
    erased-up _ (flow.Array d e) h = absurd cc

    -- a value of a type is of each type that the type fits
    pub held-up : (v : Value) (t u : FlowType) → held image method there v t ≡ true → type_fits (superclasses image) t u ≡ true → held image method there v u ≡ true
    held-up v t u h f = let (a, b) = and_parts _ _ h in and_both _ _ a (type-trans (superclasses image) tree (value_type image v) (erased image method t) (erased image method u) b (erased-up t u f))

    pub all-up : (vs : List Value) (ts us : List FlowType) → all_held image method there vs ts ≡ true → types_fit (superclasses image) ts us ≡ true → all_held image method there vs us ≡ true
    all-up [] [] [] h f = refl
    all-up (v ∷ vs) (t ∷ ts) (u ∷ us) h f =
        let (p, q) = and_parts _ _ h in let (r, s) = and_parts _ _ f in
        and_both _ _ (held-up v t u p r) (all-up vs ts us q s)
    all-up [] (t ∷ ts) us h f = absurd cc
    all-up (v ∷ vs) [] us h f = absurd cc
    all-up vs [] (u ∷ us) h f = absurd cc
    all-up vs (t ∷ ts) [] h f = absurd cc

    -- ---- what a type shows of its values

    shape-int : (t : FlowType) → ClassShape t → type_fits (superclasses image) t flow.Int ≡ false
    shape-int t (a_class c e) = rw e refl
    shape-int t (an_array d a e) = rw e refl

    shape-long : (t : FlowType) → ClassShape t → type_fits (superclasses image) t flow.Long ≡ false
    shape-long t (a_class c e) = rw e refl
    shape-long t (an_array d a e) = rw e refl

    pub int-met : (v : Value) → typed image method v flow.Int ≡ true → met image need.Int v ≡ true
    int-met (Int a) h = refl
    int-met (Long a) h = absurd cc
    int-met Null h = absurd cc
    int-met (Ref n) h = let g : type_fits (superclasses image) (class_type image n.class) flow.Int ≡ false = shape-int _ (class-shape image n.class) in absurd cc

    pub long-met : (v : Value) → typed image method v flow.Long ≡ true → met image need.Long v ≡ true
    long-met (Long a) h = refl
    long-met (Int a) h = absurd cc
    long-met Null h = absurd cc
    long-met (Ref n) h = let g : type_fits (superclasses image) (class_type image n.class) flow.Long ≡ false = shape-long _ (class-shape image n.class) in absurd cc

    -- what a value of an initialised reference type is
    pub data Reference (t : FlowType) : Value → Type 0 where
      nothing_there : {v : Value} → v ≡ Null → Reference t v
      object : {v : Value} (n : Name) → v ≡ Ref n → type_fits (superclasses image) (class_type image n.class) t ≡ true → Reference t v

    ready-is : (t : FlowType) → IsReady t → erased image method t ≡ t
    ready-is flow.Null r = refl
    ready-is (flow.Class c) r = refl
    ready-is (flow.Array d e) r = refl
    ready-is (flow.Fresh a) r = let x : true ≡ false = r.1 in absurd cc
    ready-is flow.FreshThis r = let x : true ≡ false = r.1 in absurd cc
    ready-is _ r = let x : false ≡ true = r.0 in absurd cc

    int-unfit : (t : FlowType) → IsReady t → type_fits (superclasses image) flow.Int t ≡ true → ⊥
    int-unfit flow.Int r f = let x : false ≡ true = r.0 in cc
    int-unfit flow.Unusable r f = let x : false ≡ true = r.0 in cc
    int-unfit _ r f = cc

    long-unfit : (t : FlowType) → IsReady t → type_fits (superclasses image) flow.Long t ≡ true → ⊥
    long-unfit flow.Long r f = let x : false ≡ true = r.0 in cc
    long-unfit flow.Unusable r f = let x : false ≡ true = r.0 in cc
    long-unfit _ r f = cc

    pub reference : (v : Value) (t : FlowType) → IsReady t → typed image method v t ≡ true → Reference t v
    reference Null t r h = nothing_there refl
    reference (Ref n) t r h = object n refl (subst (λ x. type_fits (superclasses image) (class_type image n.class) x ≡ true) (ready-is t r) h)
    reference (Int a) t r h = absurd (int-unfit t r (subst (λ x. type_fits (superclasses image) flow.Int x ≡ true) (ready-is t r) h))
    reference (Long a) t r h = absurd (long-unfit t r (subst (λ x. type_fits (superclasses image) flow.Long x ≡ true) (ready-is t r) h))

    -- ---- arrays and needs

    -- what fits an array of primitives is that array
    prims-below : (k : PrimitiveType) (d : ℕ) (e : Element) (t : FlowType) → ClassShape t → (d == 1 && holds k e) ≡ true → type_fits (superclasses image) t (flow.Array d e) ≡ true → is_array_of k t ≡ true
    prims-below k d (Object c) t s m f = let (a, b) = and_parts (d == 1) false m in absurd cc
    prims-below k d (Primitive j) t (a_class c e) m f = let g : false ≡ true = rw e at f in absurd cc
    prims-below k d (Primitive j) t (an_array u x e) m f =
        let g : type_fits (superclasses image) (flow.Array u x) (flow.Array d (Primitive j)) ≡ true = rw e at f in
        elim (array-view (superclasses image) u x d (Primitive j) g) [
          | inl p ↦ let y : u ≡ d = p.0 in let (a, b) = and_parts (d == 1) (holds k (Primitive j)) m in rw (e, y) (and_both _ _ a (elem-holds k x (Primitive j) p.1 b))
          | inr p ↦ let z : false ≡ true = p.1 in absurd cc
        ]

    -- ---- a type that meets a need has values that do

    through : (n : Need) (v : Value) (t : FlowType) → Reference t v → met image n Null ≡ true → ((o : Name) → type_fits (superclasses image) (class_type image o.class) t ≡ true → met image n (Ref o) ≡ true) → met image n v ≡ true
    through n v t (nothing_there e) z k = rw e z
    through n v t (object o e g) z k = rw e (k o g)

    pub null-shape : (t : FlowType) → ClassShape t → type_fits (superclasses image) t flow.Null ≡ true → ⊥
    null-shape t (a_class c e) h = let g : false ≡ true = rw e at h in cc
    null-shape t (an_array d x e) h = let g : false ≡ true = rw e at h in cc

    lists-below : (d : ℕ) (e : Element) (t : FlowType) → ClassShape t → has_part d e ≡ true → type_fits (superclasses image) t (flow.Array d e) ≡ true → is_reference_array t ≡ true
    lists-below d e t (a_class c q) k h = let g : false ≡ true = rw q at h in absurd cc
    lists-below d e t (an_array u f q) k h =
        let g : type_fits (superclasses image) (flow.Array u f) (flow.Array d e) ≡ true = rw q at h in
        let (x, z) = part-below u f d e g k in rw q x

    arrays-below : (d : ℕ) (e : Element) (t : FlowType) → ClassShape t → type_fits (superclasses image) t (flow.Array d e) ≡ true → is_array t ≡ true
    arrays-below d e t (a_class c q) h = let g : false ≡ true = rw q at h in absurd cc
    arrays-below d e t (an_array u f q) h = rw q refl

    -- for needs that the null type and arrays alone can meet
    by-array : (n : Need) (v : Value) (t : FlowType) → IsReady t → typed image method v t ≡ true → met image n Null ≡ true → ((d : ℕ) (e : Element) → t ≡ flow.Array d e → (o : Name) → type_fits (superclasses image) (class_type image o.class) (flow.Array d e) ≡ true → met image n (Ref o) ≡ true) → ((c : ℕ) → t ≡ flow.Class c → ⊥) → met image n v ≡ true
    by-array n v flow.Null r h z k c = through n v flow.Null (reference v flow.Null r h) z (λ o g. absurd (null-shape _ (class-shape image o.class) g))
    by-array n v (flow.Array d e) r h z k c = through n v (flow.Array d e) (reference v (flow.Array d e) r h) z (λ o g. k d e refl o g)
    by-array n v (flow.Class x) r h z k c = absurd (c x refl)
    by-array n v (flow.Fresh a) r h z k c = let x : true ≡ false = r.1 in absurd cc
    by-array n v flow.FreshThis r h z k c = let x : true ≡ false = r.1 in absurd cc
    by-array n v _ r h z k c = let x : false ≡ true = r.0 in absurd cc

    own-met : (c : ℕ) (v : Value) (t : FlowType) → typed image method v t ≡ true → IsReady t → type_fits (superclasses image) t (flow.Class c) ≡ true → met image (need.Own c) v ≡ true
    own-met c v t h r f = through (need.Own c) v t (reference v t r h) refl (λ o g. type-trans (superclasses image) tree (class_type image o.class) t (flow.Class c) g f)

    own-ready : (c : ℕ) (v : Value) (t : FlowType) → typed image method v t ≡ true → need_rules (superclasses image) (owner_of image method) (need.Own c) t ≡ [] → met image (need.Own c) v ≡ true
    own-ready c v flow.FreshThis h m =
        let q : c ≡ owner_of image method = eqb-true c (owner_of image method) (if_empty (c == owner_of image method) 10 m) in
        through (need.Own c) v (flow.Class (owner_of image method)) (reference v (flow.Class (owner_of image method)) (refl, refl) h) refl (λ o g. subst (λ x. type_fits (superclasses image) (class_type image o.class) (flow.Class x) ≡ true) (sym q) g)
    own-ready c v flow.Null h m = let (r, f) = judged-view flow.Null _ 8 m in own-met c v flow.Null h r f
    own-ready c v (flow.Class b) h m = let (r, f) = judged-view (flow.Class b) _ 8 m in own-met c v (flow.Class b) h r f
    own-ready c v (flow.Array d e) h m = let (r, f) = judged-view (flow.Array d e) _ 8 m in own-met c v (flow.Array d e) h r f
    own-ready c v _ h m = absurd cc

    int-is : (t : FlowType) → is_int t ≡ true → t ≡ flow.Int
    int-is flow.Int h = refl
    int-is _ h = absurd cc

    long-is : (t : FlowType) → is_long t ≡ true → t ≡ flow.Long
    long-is flow.Long h = refl
    long-is _ h = absurd cc

    pub met-of : (n : Need) (v : Value) (t : FlowType) → typed image method v t ≡ true → need_rules (superclasses image) (owner_of image method) n t ≡ [] → met image n v ≡ true
    met-of need.Int v t h m = int-met v (subst (λ x. typed image method v x ≡ true) (int-is t (if_empty (is_int t) 4 m)) h)
    met-of need.Long v t h m = long-met v (subst (λ x. typed image method v x ≡ true) (long-is t (if_empty (is_long t) 4 m)) h)
    met-of (need.Fitting k u) v t h m =
        let (r, f) = judged-view t (type_fits (superclasses image) t u) k m in
        through (need.Fitting k u) v t (reference v t r h) refl (λ o g. type-trans (superclasses image) tree (class_type image o.class) t u g f)
    met-of (need.Primitives k) v t h m =
        let (r, f) = judged-view t (is_array_of k t) 9 m in
        by-array (need.Primitives k) v t r h refl (λ d e q o g. prims-below k d e _ (class-shape image o.class) (subst (λ x. is_array_of k x ≡ true) q f) g) (λ c q. let x : false ≡ true = subst (λ x. is_array_of k x ≡ true) q f in cc)
    met-of need.References v t h m =
        let (r, f) = judged-view t (is_reference_array t) 9 m in
        by-array need.References v t r h refl (λ d e q o g. lists-below d e _ (class-shape image o.class) (subst (λ x. is_reference_array x ≡ true) q f) g) (λ c q. let x : false ≡ true = subst (λ x. is_reference_array x ≡ true) q f in cc)
    met-of need.Array v t h m =
        let (r, f) = judged-view t (is_array t) 9 m in
        by-array need.Array v t r h refl (λ d e q o g. arrays-below d e _ (class-shape image o.class) g) (λ c q. let x : false ≡ true = subst (λ x. is_array x ≡ true) q f in cc)
    met-of (need.Own c) v t h m = own-ready c v t h m

    pub all-met : (ns : List Need) (vs : List Value) (ts : List FlowType) → all_held image method there vs ts ≡ true → needs_rules (superclasses image) (owner_of image method) ns ts ≡ [] → all_met image ns vs ≡ true
    all-met [] vs ts h m = refl
    all-met (n ∷ ns) vs [] h m = absurd cc
    all-met (n ∷ ns) [] (t ∷ ts) h m = absurd cc
    all-met (n ∷ ns) (v ∷ vs) (t ∷ ts) h m =
        let (p, q) = and_parts _ _ h in
        let (x, y) = append_empty (need_rules (superclasses image) (owner_of image method) n t) (needs_rules (superclasses image) (owner_of image method) ns ts) m in
        and_both _ _ (met-of n v t ((and_parts _ _ p).1) x) (all-met ns vs ts q y)
