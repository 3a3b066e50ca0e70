-- The texts of refusals of methods.
use Rattle.std.specs.Prelude.{ℕ, codes, decimal, List, ◌++◌}
use Rattle.flow_verifier.specs.declared.answer.FlowErr.{FlowErr}
use Rattle.flow_verifier.specs.declared.answer.VerifyErr.{VerifyErr}
use Rattle.flow_verifier.specs.declared.answer.VerifyErr.TheVariants.{Flow, NoMemory}

-- the rule that is broken, and where
abbrev pub broken_rule_text : FlowErr → List ℕ
broken_rule_text e = codes "rule " ++ decimal e.rule ++ (codes " at " ++ decimal e.at)

-- why a method is not accepted
abbrev pub reason : VerifyErr → List ℕ
reason (Flow e) = broken_rule_text e
reason NoMemory = codes "want of memory"
