-- Which superclasses are of the same package, in a table.
use Rattle.std.proofs.Common.{◌≡◌, Bool, true, false, ◌||◌, ◌∙◌}
use Rattle.std.specs.Prelude.{if◌then◌else◌}

-- a value at what passes either test, given at each
pub one_mark : {A : Type 0} (x old now new : A) (a b : Bool) → now ≡ (if a then x else old) → new ≡ (if b then x else now) → new ≡ (if a || b then x else old)
one_mark x old now new true true n e = e
one_mark x old now new false true n e = e
one_mark x old now new true false n e = e ∙ n
one_mark x old now new false false n e = e ∙ n
