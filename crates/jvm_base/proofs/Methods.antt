-- A method's descriptor that is read is the one that was written.
use Rattle.std.proofs.Common.{◌≡◌, ℕ, zero, suc, Bool, true, false, cond, List, [], ◌∷◌, ◌++◌, length, Option, Some, None, refl, sym, ap, subst, ◌∙◌, arith, append_assoc}
use Rattle.std.specs.Prelude.{option_map, option_and_then, nat_le, ◌==◌}
use Rattle.std.specs.List.{AllByRecursion}
use Rattle.std.proofs.lemmas.Bool.{eqb-true}
use Rattle.std.proofs.lemmas.Bool.Decides.{nat_tests}
use Rattle.std.proofs.lemmas.List.Concat.{flat_map-cons}
use Rattle.jvm_base.specs.declared.desc.Desc.{Desc}
use Rattle.jvm_base.specs.declared.desc.MethodDesc.{MethodDesc}
use Rattle.jvm_base.specs.Descriptors.{elem_at, desc_text, args_text, return_text, method_text, args_slots, IsDesc, IsReturn, IsMethodDesc, desc_at, desc_of, args_at, args_of, is_void, return_of, method_if, method_of}
use Rattle.jvm_base.specs.SeenDescs.{with_args}
use Rattle.jvm_base.proofs.Options.{some_is, map_some, then_some, if_some, and_parts}
use Rattle.jvm_base.proofs.Readers.{IsReader}
use Rattle.jvm_base.proofs.Descs.{desc_takes, desc_again, is_empty, desc_of_takes, desc_of_again}
use Rattle.jvm_base.proofs.Args.{args_end, args_step}

-- ---- parameters

record AreArgs (us : List ℕ) (x : List Desc × List ℕ) : Type 0 where
  pub parts : us ≡ args_text x.0 ++ 41 ∷ x.1
  pub fits : AllByRecursion IsDesc x.0

args_take : (n : ℕ) (us : List ℕ) (x : List Desc × List ℕ) → args_at n us ≡ Some x → AreArgs us x
unfolding args_at
args_take zero us x e = absurd cc
args_take (suc n) [] x e = absurd cc
args_take (suc n) (u ∷ us) x e =
    let cases : (b : Bool) → (u == 41) ≡ b → cond b (Some ([], us)) (option_and_then (λ y. with_args (y.0 ∷ []) (args_at n y.1)) (desc_at (u ∷ us))) ≡ Some x → AreArgs (u ∷ us) x = λ b. elim b as (λ b. (u == 41) ≡ b → cond b (Some ([], us)) (option_and_then (λ y. with_args (y.0 ∷ []) (args_at n y.1)) (desc_at (u ∷ us))) ≡ Some x → AreArgs (u ∷ us) x) [
      | true ↦ λ h k. subst (λ (z : List Desc × List ℕ). AreArgs (u ∷ us) z) (some_is ([], us) x k) (record { parts = ap (λ n. n ∷ us) (eqb-true u 41 h); fits = tt })
      | false ↦ λ h k.
          let y = then_some _ (desc_at (u ∷ us)) x k in
          let z = map_some _ (args_at n y.0.1) x y.2 in
          let first = desc_takes (u ∷ us) y.0 y.1 in
          let others = args_take n y.0.1 z.0 z.1 in
          let parts : u ∷ us ≡ args_text (y.0.0 ∷ z.0.0) ++ 41 ∷ z.0.1 =
          first.parts ∙ ap (λ (t : List ℕ). desc_text y.0.0 ++ t) others.parts ∙ sym (append_assoc (desc_text y.0.0) (args_text z.0.0) (41 ∷ z.0.1)) ∙ ap (λ (t : List ℕ). t ++ 41 ∷ z.0.1) (sym (flat_map-cons desc_text y.0.0 z.0.0)) in
          subst (λ (w : List Desc × List ℕ). AreArgs (u ∷ us) w) z.2 (record { parts = parts; fits = (first.fits, others.fits) })
    ] in
    cases (u == 41) refl e

args_again : (ds : List Desc) (rest : List ℕ) → AllByRecursion IsDesc ds → args_of (args_text ds ++ 41 ∷ rest) ≡ Some (ds, rest)
args_again [] rest h = args_end (41 ∷ rest) rest refl
args_again (d ∷ ds) rest h =
    let after : List ℕ = args_text ds ++ 41 ∷ rest in
    let parts : args_text (d ∷ ds) ++ 41 ∷ rest ≡ desc_text d ++ after = ap (λ (t : List ℕ). t ++ 41 ∷ rest) (flat_map-cons desc_text d ds) ∙ append_assoc (desc_text d) (args_text ds) (41 ∷ rest) in
    ap args_of parts ∙ args_step (desc_text d ++ after) (d, after) (desc_again d after h.0) ∙ ap (with_args (d ∷ [])) (args_again ds rest h.1)

-- ---- the result

void_is : (us : List ℕ) → is_void us ≡ true → us ≡ 86 ∷ []
void_is [] h = absurd cc
void_is (u ∷ us) h =
    let both = and_parts (u == 86) (length us == 0) h in
    let first : u ≡ 86 = eqb-true u 86 both.0 in
    let rest : us ≡ [] = is_empty us both.1 in
    cc

desc_of-void : desc_of (86 ∷ []) ≡ None
unfolding desc_of desc_at elem_at
desc_of-void = refl

record IsReturnOf (us : List ℕ) (r : Option Desc) : Type 0 where
  pub parts : us ≡ return_text r
  pub fits : IsReturn r

return_takes : (us : List ℕ) (r : Option Desc) → return_of us ≡ Some r → IsReturnOf us r
return_takes us r e =
    let cases : (b : Bool) → is_void us ≡ b → cond b (Some None) (option_map Some (desc_of us)) ≡ Some r → IsReturnOf us r = λ b. elim b as (λ b. is_void us ≡ b → cond b (Some None) (option_map Some (desc_of us)) ≡ Some r → IsReturnOf us r) [
      | true ↦ λ h k. subst (λ (z : Option Desc). IsReturnOf us z) (some_is None r k) (record { parts = void_is us h; fits = tt })
      | false ↦ λ h k.
          let d = map_some Some (desc_of us) r k in
          let is = desc_of_takes us d.0 d.1 in
          subst (λ (z : Option Desc). IsReturnOf us z) d.2 (record { parts = is.1; fits = is.0 })
    ] in
    cases (is_void us) refl e

return_again : (r : Option Desc) → IsReturn r → return_of (return_text r) ≡ Some r
return_again None h = refl
return_again (Some d) h =
    let cases : (b : Bool) → is_void (desc_text d) ≡ b → cond b (Some None) (option_map Some (desc_of (desc_text d))) ≡ Some (Some d) = λ b. elim b as (λ b. is_void (desc_text d) ≡ b → cond b (Some None) (option_map Some (desc_of (desc_text d))) ≡ Some (Some d)) [
      | true ↦ λ v. let none : None ≡ Some d = sym desc_of-void ∙ ap desc_of (sym (void_is (desc_text d) v)) ∙ desc_of_again d h in absurd cc
      | false ↦ λ v. ap (option_map Some) (desc_of_again d h)
    ] in
    cases (is_void (desc_text d)) refl

-- ---- the descriptor

method_takes : (us : List ℕ) (m : MethodDesc) → method_of us ≡ Some m → IsMethodDesc m × (us ≡ method_text m)
unfolding method_of
method_takes [] m e = absurd cc
method_takes (u ∷ us) m e =
    let open_at = if_some (u == 40) _ m e in
    let x = then_some _ (args_of us) m open_at.1 in
    let r = then_some (method_if x.0.0) (return_of x.0.1) m x.2 in
    let few = if_some (nat_le (args_slots x.0.0) 255) _ m r.2 in
    let args = args_take (length us) us x.0 x.1 in
    let result = return_takes x.0.1 r.0 r.1 in
    let parts : u ∷ us ≡ 40 ∷ (args_text x.0.0 ++ 41 ∷ return_text r.0) =
    ap (λ n. n ∷ us) (eqb-true u 40 open_at.0) ∙ ap (λ (t : List ℕ). 40 ∷ t) args.parts ∙ ap (λ (t : List ℕ). 40 ∷ (args_text x.0.0 ++ 41 ∷ t)) result.parts in
    subst (λ (z : MethodDesc). IsMethodDesc z × (u ∷ us ≡ method_text z)) (some_is (record { args = x.0.0; ret = r.0 }) m few.1)
    (record { args = args.fits; slots = grind (arith, nat_tests); ret = result.fits }, parts)

method_again : (m : MethodDesc) → IsMethodDesc m → method_of (method_text m) ≡ Some m
unfolding method_of
method_again m fits =
    let few : nat_le (args_slots m.args) 255 ≡ true = grind (arith, nat_tests, fits.slots) in
    rw (args_again m.args (return_text m.ret) fits.args, return_again m.ret fits.ret, few) refl

pub method_reader : IsReader method_of method_text IsMethodDesc
method_reader = record { takes = method_takes; again = method_again }
