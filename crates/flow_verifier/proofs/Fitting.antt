-- The locals at entry, one after another.
use Rattle.std.proofs.Common.{◌≡◌, ◌∙◌, sym, ap, refl, ℕ, zero, suc, ◌+◌, ◌<◌, ◌≤◌, List, [], ◌∷◌, length, take, arith, Bool, true, false, if◌then◌else◌, Some}
use Rattle.std.specs.Prelude.{slice_get, slice_set}
use Rattle.std.proofs.Math.ListN.{replicate}
use Rattle.flow_types.specs.declared.flow_type.FlowType.{FlowType}
use Rattle.flow_types.specs.declared.flow_type.FlowType.TheVariants.{Unusable}
use Rattle.instruction_table.specs.LowestRule.{lowest}
use Rattle.instruction_table.specs.declared.rule.TheConstants as rule
use Rattle.flow_verifier.specs.Methods.{fitted}

pub length_fitted : (count : ℕ) (types : List FlowType) → length (fitted count types) ≡ count
length_fitted zero types = refl
length_fitted (suc n) [] = ap suc (length_fitted n [])
length_fitted (suc n) (t ∷ ts) = ap suc (length_fitted n ts)

-- no parameter yet
pub none_fitted : (count : ℕ) (types : List FlowType) → replicate count Unusable ≡ fitted count (take 0 types)
none_fitted zero types = refl
none_fitted (suc n) types = ap (λ ts. Unusable ∷ ts) (none_fitted n [])

-- one more
more_fitted : (i count : ℕ) (t : FlowType) (types : List FlowType) → slice_get types i ≡ Some t → i < count → slice_set (fitted count (take i types)) i t ≡ fitted count (take (i + 1) types)
more_fitted zero zero t types e l = absurd (omega arith)
more_fitted (suc i) zero t types e l = absurd (omega arith)
more_fitted i (suc n) t [] e l = absurd cc
more_fitted zero (suc n) t (u ∷ ts) e l = let f : u ≡ t = cc in ap (λ z. z ∷ fitted n []) (sym f)
more_fitted (suc i) (suc n) t (u ∷ ts) e l = let s : suc i + 1 ≡ suc (i + 1) = omega arith in rw s (ap (λ z. u ∷ z) (more_fitted i n t ts e (omega arith)))

pub set_fitted : (new locals types : List FlowType) (i count : ℕ) (t : FlowType) → new ≡ slice_set locals i t → locals ≡ fitted count (take i types) → slice_get types i ≡ Some t → i < count → new ≡ fitted count (take (i + 1) types)
set_fitted new locals types i count t e f g l = e ∙ (ap (λ z. slice_set z i t) f ∙ more_fitted i count t types g l)

-- all of them, or as many as there are locals
pub all_fitted : (i count : ℕ) (types : List FlowType) → length types ≤ i → fitted count (take i types) ≡ fitted count types
all_fitted i zero types l = refl
all_fitted zero (suc n) [] l = refl
all_fitted (suc i) (suc n) [] l = refl
all_fitted zero (suc n) (t ∷ ts) l = absurd (omega arith)
all_fitted (suc i) (suc n) (t ∷ ts) l = ap (λ z. t ∷ z) (all_fitted i n ts (omega arith))

pub first_fitted : (i count : ℕ) (types : List FlowType) → count ≤ i → fitted count (take i types) ≡ fitted count types
first_fitted i zero types l = refl
first_fitted zero (suc n) types l = absurd (omega arith)
first_fitted (suc i) (suc n) [] l = refl
first_fitted (suc i) (suc n) (t ∷ ts) l = ap (λ z. t ∷ z) (first_fitted i n ts (omega arith))

-- too few locals is lower than a bad handler
pub crowded_first : (b : Bool) → lowest (rule.NO_LOCAL ∷ (if b then rule.HANDLER ∷ [] else [])) ≡ Some rule.NO_LOCAL
crowded_first true = refl
crowded_first false = refl
