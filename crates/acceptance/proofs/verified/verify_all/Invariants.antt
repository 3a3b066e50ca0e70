use Rattle.acceptance.specs.Accepted.{AreTyped}
use Rattle.acceptance.proofs.verified.verify_all.Given as goal

-- the methods before this one have typings
abbrev pub invariant-loop-method : goal.invariant-loop-method
invariant-loop-method l = AreTyped l.image l.method
