-- One more operand taken.
use Rattle.std.proofs.Common.{◌≡◌, ◌∙◌, sym, ap, refl, ℕ, zero, suc, ◌+◌, ◌<◌, ◌≤◌, List, [], ◌∷◌, drop, length, Option, Some, arith, add-one}
use Rattle.std.specs.Prelude.{get_or}
use Rattle.std.proofs.lemmas.List.{drop_more}
use Rattle.flow_types.specs.declared.flow_type.FlowType.{FlowType}
use Rattle.instruction_table.specs.LowestRule.{lower, lowest}
use Rattle.instruction_table.specs.Needs.{need_rules, needs_rules}
use Rattle.instruction_table.specs.declared.row.Need.{Need}
use Rattle.instruction_table.specs.declared.rule.TheConstants as rule
use Rattle.instruction_table.proofs.LowestLaws.{lower_chain, lowest_append}

pub take_more : (supers : List (Option ℕ)) (owner : ℕ) (needs : List Need) (i : ℕ) (d : Need) (broken : Option ℕ) (t : FlowType) (rest : List FlowType) → i < length needs → lower (lower broken (lowest (need_rules supers owner (get_or needs i d) t))) (lowest (needs_rules supers owner (drop (i + 1) needs) rest)) ≡ lower broken (lowest (needs_rules supers owner (drop i needs) (t ∷ rest)))
take_more supers owner needs i d broken t rest lt =
    sym (lower_chain broken (lowest (need_rules supers owner (get_or needs i d) t)) (lowest (needs_rules supers owner (drop (i + 1) needs) rest)))
    ∙ ap (lower broken) (sym (lowest_append (need_rules supers owner (get_or needs i d) t) (needs_rules supers owner (drop (i + 1) needs) rest)))
    ∙ ap (λ ns. lower broken (lowest (needs_rules supers owner ns (t ∷ rest)))) (sym (drop_more needs i d lt))

pub take_none : (supers : List (Option ℕ)) (owner : ℕ) (needs : List Need) (i : ℕ) (d : Need) (broken : Option ℕ) → i < length needs → lower broken (Some rule.MISSING) ≡ lower broken (lowest (needs_rules supers owner (drop i needs) []))
take_none supers owner needs i d broken lt = ap (λ ns. lower broken (lowest (needs_rules supers owner ns []))) (sym (drop_more needs i d lt))

-- what lies below
pub drop_next : {A : Type 0} (i : ℕ) (xs ys : List A) (x : A) → drop i xs ≡ x ∷ ys → ys ≡ drop (i + 1) xs
drop_next i xs ys x e = rw (add-one i) (next i xs ys x e)
  where
    next : {A : Type 0} (i : ℕ) (xs ys : List A) (x : A) → drop i xs ≡ x ∷ ys → ys ≡ drop (suc i) xs
    next zero [] ys x e = absurd cc
    next zero (z ∷ zs) ys x e = cc
    next (suc i) [] ys x e = absurd cc
    next (suc i) (z ∷ zs) ys x e = next i zs ys x e

pub drop_past : {A : Type 0} (i n : ℕ) (xs : List A) → drop i xs ≡ [] → i ≤ n → drop n xs ≡ []
drop_past zero zero xs e le = e
drop_past zero (suc n) [] e le = refl
drop_past zero (suc n) (x ∷ xs) e le = absurd cc
drop_past (suc i) zero xs e le = absurd (omega arith)
drop_past (suc i) (suc n) [] e le = refl
drop_past (suc i) (suc n) (x ∷ xs) e le = drop_past i n xs e (omega arith)
