-- Whether a call is one of those that fail.
use Rattle.std.proofs.Common.{◌≡◌, ◌↔◌, ℕ, Bool, true, false, nat_eq, List, Contains, IsTrue, refl, sym, ◌∙◌, arith}
use Rattle.std.specs.List.{IsAnyAnswer}
use Rattle.std.proofs.lemmas.Bool.{eqb-true, eq-eqb}

-- what a slice's `contains` answers is whether it contains the number
pub contains_tells : (xs : List ℕ) (x : ℕ) (r : Bool) → IsAnyAnswer (λ y b. nat_eq y x ≡ b) xs r → IsTrue r ↔ Contains xs x
contains_tells xs x true a = (λ t. (a.0, a.1, eqb-true _ _ (a.2 x)), λ k. refl)
contains_tells xs x false a = (
  λ t. absurd (let e : false ≡ true = t in cc),
  λ k.
      let e = a k.0 x (omega arith) k.1 in
      let f : false ≡ true = sym e ∙ eq-eqb _ _ k.2 in
      absurd cc,
)
