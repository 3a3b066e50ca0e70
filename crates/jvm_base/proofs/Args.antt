-- The parameters of a method's descriptor, read one after another.
use Rattle.std.proofs.Common.{◌≡◌, ℕ, zero, suc, ◌+◌, ◌<◌, ◌≤◌, Bool, true, false, cond, not, List, [], ◌∷◌, ◌++◌, length, Option, Some, None, refl, sym, ap, ◌∙◌, arith, append_assoc, length-append}
use Rattle.std.specs.Prelude.{option_map, option_and_then, nat_le, ◌==◌}
use Rattle.std.proofs.Math.Dec.{leb-zero}
use Rattle.std.proofs.lemmas.Bool.{eqb-true}
use Rattle.std.proofs.lemmas.Bool.Decides.{nat_tests}
use Rattle.std.proofs.lemmas.List.Sums.{sum_by-cons}
use Rattle.jvm_base.specs.declared.desc.Desc.{Desc}
use Rattle.jvm_base.specs.Descriptors.{desc_text, elem_at, desc_at, desc_slots, args_slots, args_at, args_of}
use Rattle.jvm_base.specs.SeenDescs.{within, with_args, after_args_of, IsNext}
use Rattle.jvm_base.proofs.Options.{some_is}
use Rattle.jvm_base.proofs.Places.{position_behind}
use Rattle.jvm_base.proofs.Descs.{desc_takes, elem_head}

-- ---- how far a descriptor reaches

desc_text-some : (d : Desc) → 0 < length (desc_text d)
desc_text-some d = let head = elem_head d.elem in rw head.text (grind (arith, length-append))

pub shorter : (us : List ℕ) (x : Desc × List ℕ) → desc_at us ≡ Some x → length x.1 < length us
shorter us x e =
    let at = desc_takes us x e in
    rw at.parts (grind (arith, length-append, desc_text-some x.0))

desc_at-end : (us : List ℕ) → desc_at (41 ∷ us) ≡ None
unfolding desc_at elem_at
desc_at-end us = rw (position_behind (λ u. not (u == 91)) [] 41 us tt refl) refl

-- ---- parameters

args_same : (n m : ℕ) (us : List ℕ) → length us ≤ n → length us ≤ m → args_at n us ≡ args_at m us
unfolding args_at
args_same zero zero [] h k = refl
args_same zero (suc m) [] h k = refl
args_same (suc n) zero [] h k = refl
args_same (suc n) (suc m) [] h k = refl
args_same zero m (u ∷ us) h k = absurd (omega arith)
args_same (suc n) zero (u ∷ us) h k = absurd (omega arith)
args_same (suc n) (suc m) (u ∷ us) h k =
    let first : (o : Option (Desc × List ℕ)) → desc_at (u ∷ us) ≡ o → option_and_then (λ x. with_args (x.0 ∷ []) (args_at n x.1)) o ≡ option_and_then (λ x. with_args (x.0 ∷ []) (args_at m x.1)) o = λ o. elim o as (λ o. desc_at (u ∷ us) ≡ o → option_and_then (λ x. with_args (x.0 ∷ []) (args_at n x.1)) o ≡ option_and_then (λ x. with_args (x.0 ∷ []) (args_at m x.1)) o) [
      | None ↦ λ e. refl
      | Some x ↦ λ e. let lt = shorter (u ∷ us) x e in ap (with_args (x.0 ∷ [])) (args_same n m x.1 (omega arith) (omega arith))
    ] in
    ap (cond (u == 41) (Some ([], us))) (first (desc_at (u ∷ us)) refl)

pub args_end : (us rest : List ℕ) → Some rest ≡ after_args_of us → args_of us ≡ Some ([], rest)
unfolding args_at
args_end [] rest e = absurd cc
args_end (u ∷ us) rest e =
    elim (u == 41) as (λ b. Some rest ≡ cond b (Some us) None → cond b (Some ([], us)) (option_and_then (λ x. with_args (x.0 ∷ []) (args_at (length us) x.1)) (desc_at (u ∷ us))) ≡ Some ([], rest)) [
      | true ↦ λ e. ap (λ z. Some ([], z)) (sym (some_is rest us e))
      | false ↦ λ e. absurd cc
    ] e

pub args_none : (us : List ℕ) → None ≡ after_args_of us → desc_at us ≡ None → args_of us ≡ None
unfolding args_at
args_none [] e none = refl
args_none (u ∷ us) e none =
    elim (u == 41) as (λ b. None ≡ cond b (Some us) None → cond b (Some ([], us)) (option_and_then (λ x. with_args (x.0 ∷ []) (args_at (length us) x.1)) (desc_at (u ∷ us))) ≡ None) [
      | true ↦ λ e. absurd cc
      | false ↦ λ e. rw none refl
    ] e

pub args_step : (us : List ℕ) (x : Desc × List ℕ) → desc_at us ≡ Some x → args_of us ≡ with_args (x.0 ∷ []) (args_of x.1)
unfolding args_at
args_step [] x e = let lt = shorter [] x e in absurd (omega arith)
args_step (u ∷ us) x e =
    let lt = shorter (u ∷ us) x e in
    let next : with_args (x.0 ∷ []) (args_at (length us) x.1) ≡ with_args (x.0 ∷ []) (args_of x.1) = ap (with_args (x.0 ∷ [])) (args_same (length us) (length x.1) x.1 (omega arith) (omega arith)) in
    let cases : (b : Bool) → (u == 41) ≡ b → cond b (Some ([], us)) (option_and_then (λ x. with_args (x.0 ∷ []) (args_at (length us) x.1)) (desc_at (u ∷ us))) ≡ with_args (x.0 ∷ []) (args_of x.1) = λ b. elim b as (λ b. (u == 41) ≡ b → cond b (Some ([], us)) (option_and_then (λ x. with_args (x.0 ∷ []) (args_at (length us) x.1)) (desc_at (u ∷ us))) ≡ with_args (x.0 ∷ []) (args_of x.1)) [
      | true ↦ λ h. let none : desc_at (u ∷ us) ≡ None = ap (λ n. desc_at (n ∷ us)) (eqb-true u 41 h) ∙ desc_at-end us in absurd cc
      | false ↦ λ h. rw e next
    ] in
    cases (u == 41) refl

-- ---- slots

within-end : (room : ℕ) (rest : List ℕ) → within room (Some ([], rest)) ≡ Some ([], rest)
within-end room rest = rw (leb-zero room) refl

fits-less : (room left slots k : ℕ) → slots + left ≡ room → nat_le (slots + k) room ≡ nat_le k left
fits-less room left slots k e = grind (arith, nat_tests)

one_or_none : (b : Bool) (d : Desc) (y : List Desc × List ℕ) → cond b (Some (d ∷ y.0, y.1)) None ≡ with_args (d ∷ []) (cond b (Some y) None)
one_or_none true d y = refl
one_or_none false d y = refl

within-next : (room left : ℕ) (d : Desc) (read : Option (List Desc × List ℕ)) → desc_slots d + left ≡ room → within room (with_args (d ∷ []) read) ≡ with_args (d ∷ []) (within left read)
within-next room left d None e = refl
within-next room left d (Some y) e = let x : List Desc × List ℕ = (d ∷ y.0, y.1) in
    ap (λ k. cond (nat_le k room) (Some x) None) (sum_by-cons desc_slots d y.0)
    ∙ ap (λ b. cond b (Some x) None) (fits-less room left (desc_slots d) (args_slots y.0) e) ∙ one_or_none (nat_le (args_slots y.0) left) d y

within-over : (room : ℕ) (d : Desc) (read : Option (List Desc × List ℕ)) → room < desc_slots d → within room (with_args (d ∷ []) read) ≡ None
within-over room d None lt = refl
within-over room d (Some y) lt = let over : nat_le (desc_slots d + args_slots y.0) room ≡ false = grind (arith, nat_tests) in
    let x : List Desc × List ℕ = (d ∷ y.0, y.1) in
    ap (λ k. cond (nat_le k room) (Some x) None) (sum_by-cons desc_slots d y.0) ∙ ap (λ b. cond b (Some x) None) over

-- ---- one step over the parameters

pub step_end : (us rest : List ℕ) (room : ℕ) → Some rest ≡ after_args_of us → within room (args_of us) ≡ Some ([], rest)
step_end us rest room e = ap (within room) (args_end us rest e) ∙ within-end room rest

pub step_none : (us : List ℕ) (room : ℕ) → None ≡ after_args_of us → desc_at us ≡ None → within room (args_of us) ≡ None
step_none us room e none = ap (within room) (args_none us e none)

pub step_over : (us : List ℕ) (x : Desc × List ℕ) (room : ℕ) → desc_at us ≡ Some x → room < desc_slots x.0 → within room (args_of us) ≡ None
step_over us x room e lt = ap (within room) (args_step us x e) ∙ within-over room x.0 (args_of x.1) lt

pub step_next : (us : List ℕ) (x : Desc × List ℕ) (room left : ℕ) → desc_at us ≡ Some x → desc_slots x.0 + left ≡ room → IsNext us room x.0 left x.1
step_next us x room left e sum = record { all = ap (within room) (args_step us x e) ∙ within-next room left x.0 (args_of x.1) sum; shorter = shorter us x e }

-- ---- the loops

pub with_args-more : (front : List Desc) (d : Desc) (read : Option (List Desc × List ℕ)) → with_args front (with_args (d ∷ []) read) ≡ with_args (front ++ d ∷ []) read
with_args-more front d None = refl
with_args-more front d (Some y) = ap (λ (z : List Desc). Some (z, y.1)) (sym (append_assoc front (d ∷ []) y.0))

pub rest-with_args : (front : List Desc) (read : Option (List Desc × List ℕ)) → option_map (λ x. x.1) (with_args front read) ≡ option_map (λ x. x.1) read
rest-with_args front None = refl
rest-with_args front (Some y) = refl
