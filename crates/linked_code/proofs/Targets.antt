-- What an instruction names stands at its address.
use Rattle.std.proofs.Common.{◌≡◌, ◌∙◌, sym, ap, subst, refl, ℕ, zero, suc, ◌+◌, Bool, true, false, cond, List, [], ◌∷◌, ◌++◌, slice_get, Some, arith}
use Rattle.std.specs.List.{AllByRecursion, flat_map}
use Rattle.std.specs.Cmp.{IsTotalOrder, Equal-is}
use Rattle.std.specs.Ordering.{nat_cmp, eq_by_cmp}
use Rattle.std.proofs.lemmas.Cmp.{on_total, then_total, nat_cmp_total, eq_by_cmp_equiv}
use Rattle.std.proofs.lemmas.Map.Lookups.{exact_pairs, exact_unsigned}
use Rattle.class_format.specs.declared.class.ClassFile.{ClassFile}
use Rattle.class_format.specs.declared.class.MethodItem.{MethodItem}
use Rattle.class_names.specs.Classes.{ops_of, table_of}
use Rattle.code_table.specs.declared.code.Placed.{Placed}
use Rattle.link_rules.specs.Numbers.{numbered}
use Rattle.link_image.specs.Methods.{first_method}
use Rattle.link_image.specs.Sizes.{HasShortCode}
use Rattle.link_image.specs.Targets.{Known, op_target, placed_target, entry_target, method_targets, class_targets, all_targets}
use Rattle.link_image.proofs.MainLaw.{in_front}
use Rattle.link_image.proofs.TargetPlaces.{targets_differ}
use Rattle.program_image.specs.Condition.{Differ, place_of}
use Rattle.program_image.specs.Places.{Place, Placing, Targets, place_cmp, placed, target_at}
use Rattle.program_image.specs.declared.info.Target.{Target}
use Rattle.machine_state.proofs.MapLaws.{find-put}
use Rattle.typed_code.proofs.Edges.{IsIn}

-- ---- items of lists

-- an item of one of two lists stands in both
pub in_left : {A : Type 0} (x : A) (xs ys : List A) → IsIn x xs → IsIn x (xs ++ ys)
in_left x xs ys (i, e) = (i, in_front xs ys i x e)

pub in_right : {A : Type 0} (x : A) (xs ys : List A) → IsIn x ys → IsIn x (xs ++ ys)
in_right x [] ys h = h
in_right x (z ∷ xs) ys h = let (i, e) = in_right x xs ys h in (suc i, e)

-- in the list that a function makes of an item of another, each of them, and by number
pub in_flat : {A B : Type 0} (g : A → List B) (x : B) (xs : List A) (i : ℕ) (y : A) → slice_get xs i ≡ Some y → IsIn x (g y) → IsIn x (flat_map g xs)
in_flat g x [] i y e h = absurd cc
in_flat g x (z ∷ zs) zero y e h = let s : z ≡ y = cc in in_left x (g z) (flat_map g zs) (subst (λ w. IsIn x (g w)) (sym s) h)
in_flat g x (z ∷ zs) (suc i) y e h = in_right x (g z) (flat_map g zs) (in_flat g x zs i y e h)

in_numbered : {A B : Type 0} (g : ℕ → A → List B) (x : B) (k : ℕ) (xs : List A) (i : ℕ) (y : A) → slice_get xs i ≡ Some y → IsIn x (g (k + i) y) → IsIn x (numbered g k xs)
in_numbered g x k [] i y e h = absurd cc
in_numbered g x k (z ∷ zs) zero y e h =
    let s : z ≡ y = cc in
    let n : k + 0 ≡ k = omega arith in
    in_left x (g k z) (numbered g (k + 1) zs) (subst (λ w. IsIn x (g k w)) (sym s) (subst (λ j. IsIn x (g j y)) n h))
in_numbered g x k (z ∷ zs) (suc i) y e h =
    let n : k + suc i ≡ k + 1 + i = omega arith in
    in_right x (g k z) (numbered g (k + 1) zs) (in_numbered g x (k + 1) zs i y e (subst (λ j. IsIn x (g j y)) n h))

-- ---- look-ups by place

places_total : IsTotalOrder place_cmp
places_total = then_total (on_total (λ (p : Place). p.0) nat_cmp_total) (on_total (λ (p : Place). p.1) nat_cmp_total)

-- two places that compare alike are one
one_place : (a b : Place) → eq_by_cmp place_cmp a b ≡ true → a ≡ b
one_place a b e = exact_pairs nat_cmp nat_cmp exact_unsigned exact_unsigned a b ((Equal-is (place_cmp a b)).0 e)

-- what other places have changes nothing
others : (es : Targets) (ts : List Placing) (m at : ℕ) → ((j : ℕ) (t : Placing) → slice_get ts j ≡ Some t → place_of t ≡ (m, at) → ⊥) → target_at (placed es ts) m at ≡ target_at es m at
others es [] m at h = refl
others es (t ∷ ts) m at h =
    others (placed es (t ∷ [])) ts m at (λ j u e. h (suc j) u e)
    ∙ find-put place_cmp places_total (m, at) (t.0, t.1) t.2 es
    ∙ by_test (eq_by_cmp place_cmp (m, at) (t.0, t.1)) refl
  where
    by_test : (b : Bool) → eq_by_cmp place_cmp (m, at) (t.0, t.1) ≡ b → cond b (Some t.2) (target_at es m at) ≡ target_at es m at
    by_test true q = absurd (h 0 t refl (sym (one_place (m, at) (t.0, t.1) q)))
    by_test false q = refl

-- where no place stands twice, what stands in the list is looked up
looked_up : (es : Targets) (ts : List Placing) (m at : ℕ) (t : Target) (i : ℕ) → Differ place_of ts → slice_get ts i ≡ Some (m, at, t) → target_at (placed es ts) m at ≡ Some t
looked_up es [] m at t i d e = absurd cc
looked_up es (u ∷ us) m at t zero d e =
    let s : u ≡ (m, at, t) = cc in
    let k : place_of u ≡ (m, at) = ap place_of s in
    others (placed es (u ∷ [])) us m at (λ j v f q. let z : suc j ≡ 0 = d (suc j) 0 v u f refl (q ∙ sym k) in absurd (omega arith))
    ∙ find-put place_cmp places_total (m, at) (u.0, u.1) u.2 es
    ∙ subst (λ (v : Placing). cond (eq_by_cmp place_cmp (m, at) (v.0, v.1)) (Some v.2) (target_at es m at) ≡ Some t) (sym s)
    (ap (λ (b : Bool). cond b (Some t) (target_at es m at)) ((eq_by_cmp_equiv places_total).refl (m, at)))
looked_up es (u ∷ us) m at t (suc i) d e =
    looked_up (placed es (u ∷ [])) us m at t i (λ a b x y f g q. let z : suc a ≡ suc b = d (suc a) (suc b) x y f g q in omega arith) e

-- ---- targets of methods

-- what an instruction of a method names is placed at its address
in_targets : (k : Known) (c i j : ℕ) (f : ClassFile) (x : MethodItem) (o : Placed) (t : Target) → slice_get k.all c ≡ Some f → slice_get f.methods i ≡ Some x → slice_get (ops_of f.pool x) j ≡ Some o → op_target k f o.op ≡ Some t → IsIn (first_method k.all c + i, o.at, t) (all_targets k)
unfolding all_targets class_targets method_targets
in_targets k c i j f x o t e q r n =
    let there : IsIn (first_method k.all c + i, o.at, t) (placed_target k f (first_method k.all c + i) o) = rw n (0, refl) in
    let m : first_method k.all c + i ≡ first_method k.all (0 + c) + (0 + i) = (let z : 0 + c ≡ c = omega arith in let w : 0 + i ≡ i = omega arith in rw (z, w) refl) in
    in_numbered (λ c f. class_targets k (first_method k.all c) f) (first_method k.all c + i, o.at, t) 0 k.all c f e
    (in_numbered (λ i x. method_targets k f (first_method k.all (0 + c) + i) x) (first_method k.all c + i, o.at, t) 0 f.methods i x q
    (subst (λ (n : ℕ). IsIn (first_method k.all c + i, o.at, t) (method_targets k f n x)) m
    (in_left (first_method k.all c + i, o.at, t) (flat_map (placed_target k f (first_method k.all c + i)) (ops_of f.pool x)) (numbered (entry_target k f (first_method k.all c + i)) 0 (table_of x))
    (in_flat (placed_target k f (first_method k.all c + i)) (first_method k.all c + i, o.at, t) (ops_of f.pool x) j o r there))))

-- so it is looked up there
pub target_there : (k : Known) → AllByRecursion HasShortCode k.all → (c i j : ℕ) (f : ClassFile) (x : MethodItem) (o : Placed) (t : Target) → slice_get k.all c ≡ Some f → slice_get f.methods i ≡ Some x → slice_get (ops_of f.pool x) j ≡ Some o → op_target k f o.op ≡ Some t → target_at (placed [] (all_targets k)) (first_method k.all c + i) o.at ≡ Some t
target_there k short c i j f x o t e q r n =
    let (a, b) = in_targets k c i j f x o t e q r n in
    looked_up [] (all_targets k) (first_method k.all c + i) o.at t a (targets_differ k short) b
