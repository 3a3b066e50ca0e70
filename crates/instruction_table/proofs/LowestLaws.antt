-- The lowest of two lists of rules.
use Rattle.std.proofs.Common.{◌≡◌, ◌∙◌, ap, refl, ℕ, min, List, [], ◌∷◌, ◌++◌, Option, Some, None, arith}
use Rattle.instruction_table.specs.LowestRule.{lower, lowest}

pub lower_chain : (a b c : Option ℕ) → lower a (lower b c) ≡ lower (lower a b) c
lower_chain None b c = refl
lower_chain (Some a) None c = refl
lower_chain (Some a) (Some b) None = refl
lower_chain (Some a) (Some b) (Some c) = let e : min a (min b c) ≡ min (min a b) c = omega arith in ap Some e

pub lowest_append : (xs ys : List ℕ) → lowest (xs ++ ys) ≡ lower (lowest xs) (lowest ys)
lowest_append [] ys = refl
lowest_append (x ∷ xs) ys = ap (lower (Some x)) (lowest_append xs ys) ∙ lower_chain (Some x) (lowest xs) (lowest ys)

some-lower : (r : ℕ) (o : Option ℕ) → lower (Some r) o ≡ None → ⊥
some-lower r None e = absurd cc
some-lower r (Some a) e = absurd cc

-- there is no lowest only where there is none
pub none_broken : (rs : List ℕ) → lowest rs ≡ None → rs ≡ []
none_broken [] e = refl
none_broken (r ∷ rs) e = absurd (some-lower r (lowest rs) e)

-- nothing is lower than none
pub lower_none : (a : Option ℕ) → lower a None ≡ a
lower_none None = refl
lower_none (Some a) = refl
