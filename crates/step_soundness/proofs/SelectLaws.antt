-- Which method a call runs: an instance method of the called one's descriptor, with something to run,
-- that a class above the receiver's declares.
use Rattle.std.proofs.Common.{◌≡◌, ◌∙◌, sym, ap, subst, refl, ℕ, zero, suc, ◌+◌, ◌<◌, Bool, true, false, List, [], ◌∷◌, ◌++◌, map, length, Option, Some, None, arith}
use Rattle.std.specs.Prelude.{◌&&◌, ◌||◌, ◌==◌, not, if◌then◌else◌, slice_get, slice_index_or}
use Rattle.std.specs.List.{flat_map}
use Rattle.std.specs.Option.{option_to_list}
use Rattle.std.proofs.lemmas.Bool.Decides.{nat_tests}
use Rattle.jvm_base.specs.Words.{from}
use Rattle.jvm_base.specs.declared.desc.MethodDesc.{MethodDesc}
use Rattle.class_format.specs.Flags.{is_static, is_public}
use Rattle.class_format.specs.KnownTexts.{is_clinit}
use Rattle.hierarchy.specs.Walks.{walk, all_from, has, or_else, first_some}
use Rattle.program_image.specs.declared.info.Body.{Body}
use Rattle.program_image.specs.declared.info.Body.TheVariants.{Abstract, Intrinsic, Code}
use Rattle.program_image.specs.declared.info.ClassInfo.{ClassInfo}
use Rattle.program_image.specs.declared.info.MethodInfo.{MethodInfo}
use Rattle.program_image.specs.declared.select.Selected.TheVariants.{Found, NoBody, NoInterface, NotPublic}
use Rattle.program_image.specs.Program.{Program}
use Rattle.program_image.specs.Selection.{is_accessible, is_instance, is_like, like_one, methods_of, declared_by, open_in, over_class, supers, found_up, is_abstract_body, chosen, select_of}
use Rattle.program_image.specs.Signatures.{same_signature}
use Rattle.program_image.specs.Subclass.{is_sub_of}
use Rattle.program_image.specs.Words.{super_of}
use Rattle.program_image.proofs.Signatures.{signatures_told}
use Rattle.flow_types.specs.Tree.{superclasses, is_below, flat}
use Rattle.flow_types.specs.Types.{type_fits}
use Rattle.flow_types.specs.declared.flow_type.FlowType.TheVariants as flow
use Rattle.flow_types.proofs.ListLaws.{and_parts}
use Rattle.flow_types.proofs.TreeLaws.{below-refl, below-trans, below-from}
use Rattle.instruction_table.specs.ClassTypes.{plain, class_type, array_at, method_at, owner_of, args_of, result_of, desc_type, is_static_method}
use Rattle.machine_state.specs.Classes.{body_of, is_without_receiver}
use Rattle.frame_soundness.specs.AcceptedProgram.{Types, Accepted}
use Rattle.frame_soundness.specs.Holding.{desc_of, answer_type}
use Rattle.step_soundness.proofs.NextLaws.{some_is}

-- ---- methods by number

pub args-is : (image : Program) (m : ℕ) (d : MethodDesc) → desc_of image m ≡ Some d → args_of image m ≡ d.args
args-is image m d e = by_method (method_at image m) e
  where
    by_method : (o : Option MethodInfo) → from None (λ i. Some i.desc) o ≡ Some d → from [] (λ i. i.desc.args) o ≡ d.args
    by_method None e = absurd cc
    by_method (Some i) e = ap (λ (z : MethodDesc). z.args) (some_is e)

pub result-is : (image : Program) (m : ℕ) (d : MethodDesc) → desc_of image m ≡ Some d → result_of image m ≡ answer_type image d
result-is image m d e = by_method (method_at image m) e
  where
    by_method : (o : Option MethodInfo) → from None (λ i. Some i.desc) o ≡ Some d → from None (λ i. from None (λ r. Some (desc_type image r)) i.desc.ret) o ≡ answer_type image d
    by_method None e = absurd cc
    by_method (Some i) e = ap (λ (z : MethodDesc). from None (λ r. Some (desc_type image r)) z.ret) (some_is e)

double-not : (b : Bool) → b ≡ true → not (not b) ≡ true
double-not b e = rw e refl

-- a static method has no receiver
pub static-alone : (image : Program) (m : ℕ) → is_static_method image m ≡ true → is_without_receiver image m ≡ true
static-alone image m e = by_method (method_at image m) e
  where
    by_method : (o : Option MethodInfo) → (is_static (from 0 (λ i. i.flags) o) || is_clinit (from [] (λ i. i.name) o)) ≡ true → from false (λ i. not (is_instance i)) o ≡ true
    by_method None e = absurd cc
    by_method (Some i) e = double-not (is_static i.flags || is_clinit i.name) e

-- ---- lists that are searched

-- a property of each number of a list
abbrev EachOf : (ℕ → Type 0) → List ℕ → Type 0
EachOf P [] = Unit {0}
EachOf P (x ∷ xs) = P x × EachOf P xs

each-append : (P : ℕ → Type 0) (xs ys : List ℕ) → EachOf P xs → EachOf P ys → EachOf P (xs ++ ys)
each-append P [] ys h k = k
each-append P (x ∷ xs) ys h k = (h.0, each-append P xs ys h.1 k)

first-each : {A : Type 0} (P : ℕ → Type 0) (f : ℕ → Option A) (xs : List ℕ) (m : A) → EachOf P xs → first_some f xs ≡ Some m → (k : ℕ) × P k × (f k ≡ Some m)
first-each {A = A} P f [] m h e = absurd cc
first-each {A = A} P f (x ∷ xs) m h e = by_first (f x) refl e (λ q. first-each P f xs m h.1 q)
  where
    by_first : (o : Option A) → f x ≡ o → or_else o (first_some f xs) ≡ Some m → (first_some f xs ≡ Some m → (k : ℕ) × P k × (f k ≡ Some m)) → (k : ℕ) × P k × (f k ≡ Some m)
    by_first None q e again = again e
    by_first (Some y) q e again = (x, h.0, q ∙ e)

or-true : (b : Bool) → (b || true) ≡ true
or-true true = refl
or-true false = refl

eqb-self : (n : ℕ) → (n == n) ≡ true
eqb-self n = grind (arith, nat_tests)

-- each number is one of the list
each-has : (xs : List ℕ) → EachOf (λ k. has xs k ≡ true) xs
each-has [] = tt
each-has (y ∷ ys) = (rw (eqb-self y) refl, later ys (each-has ys))
  where
    later : (us : List ℕ) → EachOf (λ k. has ys k ≡ true) us → EachOf (λ k. has (y ∷ ys) k ≡ true) us
    later [] h = tt
    later (u ∷ us) h = (rw h.0 (or-true (y == u)), later us h.1)

-- ---- the classes above one

row-is : (cs : List ClassInfo) (k : ℕ) → slice_index_or (map over_class cs) k [] ≡ option_to_list (from None (λ i. i.super_class) (slice_get cs k))
row-is [] k = refl
row-is (x ∷ xs) zero = refl
row-is (x ∷ xs) (suc k) = row-is xs k

pub super-is : (xs : List ClassInfo) (k : ℕ) → flat (slice_get (map (λ x. x.super_class) xs) k) ≡ from None (λ x. x.super_class) (slice_get xs k)
super-is [] k = refl
super-is (x ∷ xs) zero = refl
super-is (x ∷ xs) (suc k) = super-is xs k

pub record Selects (image : Program) (c called m : ℕ) : Type 0 where
  pub not_static : is_static_method image m ≡ false
  pub has_body : body_of image m ≡ Abstract → ⊥
  pub same : desc_of image m ≡ desc_of image called
  pub fits : type_fits (superclasses image) (class_type image c) (flow.Class (plain image (owner_of image m))) ≡ true
  pub bound : owner_of image m < length image.classes
  pub below : is_below (superclasses image) c (owner_of image m) ≡ true
  pub no_array : array_at image (owner_of image m) ≡ None

not-true : (b : Bool) → not b ≡ true → b ≡ false
not-true true h = absurd cc
not-true false h = refl

module _ (image : Program) (types : Types) (accepted : Accepted image types) where
  abbrev Above : ℕ → ℕ → Type 0
  Above c k = is_below (superclasses image) c k ≡ true

  walk-above : (c n k : ℕ) → Above c k → EachOf (Above c) (walk n (map over_class image.classes) k)
  unfolding walk
  walk-above c zero k b = tt
  walk-above c (suc n) k b = (b, subst (λ xs. EachOf (Above c) (flat_map (walk n (map over_class image.classes)) xs)) (sym (row-is image.classes k)) (by_super (super_of image k) refl (λ u b. walk-above c n u b)))
    where
      by_super : (o : Option ℕ) → super_of image k ≡ o → ((u : ℕ) → Above c u → EachOf (Above c) (walk n (map over_class image.classes) u)) → EachOf (Above c) (flat_map (walk n (map over_class image.classes)) (option_to_list o))
      by_super None e again = tt
      by_super (Some u) e again = each-append (Above c) (walk n (map over_class image.classes) u) [] (again u (below-trans (superclasses image) accepted.subs.tree c k u b (below-from (superclasses image) accepted.subs.tree 1 k u (u, (super-is image.classes k ∙ e), refl)))) tt

  supers-above : (c : ℕ) → EachOf (Above c) (supers image.classes c)
  unfolding all_from
  supers-above c = walk-above c (length (map over_class image.classes) + 2) c (below-refl (superclasses image) accepted.subs.tree c)

  -- what a method that is found is like
  pub record Like (called m : ℕ) : Type 0 where
    pub not_static : is_static_method image m ≡ false
    pub same : desc_of image m ≡ desc_of image called

  like-is : (called j m : ℕ) → like_one image.methods called j ≡ Some m → (j ≡ m) × Like called m
  like-is called j m h = by_test (is_like image.methods called j) refl h
    where
      by_found : (x y : Option MethodInfo) → from false (λ x. from false (λ y. is_instance y && same_signature y x) y) x ≡ true → ((is_static (from 0 (λ i. i.flags) y) || is_clinit (from [] (λ i. i.name) y)) ≡ false) × (from None (λ i. Some i.desc) y ≡ from None (λ i. Some i.desc) x)
      by_found None y h = absurd cc
      by_found (Some x) None h = absurd cc
      by_found (Some x) (Some y) h =
          let (p, q) = and_parts (is_instance y) (same_signature y x) h in
          (not-true (is_static y.flags || is_clinit y.name) p, ap Some (((signatures_told y x).0 q).1))

      by_test : (b : Bool) → is_like image.methods called j ≡ b → (if b then Some j else None) ≡ Some m → (j ≡ m) × Like called m
      by_test false e h = absurd cc
      by_test true e h =
          let (x, y) = by_found (method_at image called) (method_at image j) e in
          let q : j ≡ m = some_is h in
          (q, subst (λ z. Like called z) q (record { not_static = x; same = y }))

  declared-is : (called k m : ℕ) → open_in image.classes image.methods called k ≡ Some m → (has (methods_of image.classes k) m ≡ true) × Like called m
  declared-is called k m h = by_test (from false (λ m. is_accessible image.classes m k) (slice_get image.methods called)) h
    where
      by_test : (b : Bool) → (if b then declared_by image.classes image.methods called k else None) ≡ Some m → (has (methods_of image.classes k) m ≡ true) × Like called m
      by_test false h = absurd cc
      by_test true h =
          let (j, p, q) = first-each (λ x. has (methods_of image.classes k) x ≡ true) (like_one image.methods called) (methods_of image.classes k) m (each-has (methods_of image.classes k)) h in
          let (e, l) = like-is called j m q in
          (subst (λ x. has (methods_of image.classes k) x ≡ true) e p, l)

  -- what is chosen has something to run
  chosen-is : (interface : Bool) (j m : ℕ) (o : Option MethodInfo) → chosen interface j o ≡ Found m → (j ≡ m) × (from Abstract (λ i. i.body) o ≡ Abstract → ⊥)
  chosen-is interface j m None h = absurd cc
  chosen-is interface j m (Some i) h = by_body i.body h
    where
      by_public : (b : Bool) → (if b then NotPublic else Found j) ≡ Found m → j ≡ m
      by_public true h = absurd cc
      by_public false h = cc

      by_body : (x : Body) → (if is_abstract_body x then NoBody else (if interface && not (is_public i.flags) then NotPublic else Found j)) ≡ Found m → (j ≡ m) × (x ≡ Abstract → ⊥)
      by_body Abstract h = absurd cc
      by_body (Code c) h = (by_public (interface && not (is_public i.flags)) h, λ e. cc)
      by_body (Intrinsic k) h = (by_public (interface && not (is_public i.flags)) h, λ e. cc)

  pub selected : (c called : ℕ) (interface : Bool) (m : ℕ) → select_of image.classes image.methods c called interface ≡ Found m → Selects image c called m
  selected c called interface m h = by_test (interface && not (is_sub_of image.classes c (from 0 (λ i. i.owner) (slice_get image.methods called)))) h
    where
      by_found : (o : Option ℕ) → found_up image.classes image.methods called c ≡ o → from NoBody (λ j. chosen interface j (slice_get image.methods j)) o ≡ Found m → Selects image c called m
      by_found None e h = absurd cc
      by_found (Some j) e h =
          let (q, b) = chosen-is interface j m (slice_get image.methods j) h in
          let (k, up, d) = first-each (Above c) (open_in image.classes image.methods called) (supers image.classes c) j (supers-above c) e in
          let (p, l) = declared-is called k j d in
          let o = accepted.classes.owners k j p in
          subst (λ z. Selects image c called z) q (record {
            not_static = l.not_static;
            has_body = b;
            same = l.same;
            fits = subst (λ w. type_fits (superclasses image) (class_type image c) (flow.Class (plain image w)) ≡ true) (sym o.owner) (accepted.classes.supers_fit c k o.no_array up);
            bound = subst (λ w. w < length image.classes) (sym o.owner) o.bound;
            below = subst (λ w. is_below (superclasses image) c w ≡ true) (sym o.owner) up;
            no_array = ap (array_at image) o.owner ∙ o.no_array;
          })

      by_test : (t : Bool) → (if t then NoInterface else from NoBody (λ j. chosen interface j (slice_get image.methods j)) (found_up image.classes image.methods called c)) ≡ Found m → Selects image c called m
      by_test true h = absurd cc
      by_test false h = by_found (found_up image.classes image.methods called c) refl h
