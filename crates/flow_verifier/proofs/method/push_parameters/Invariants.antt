use Rattle.std.proofs.Common.{◌≡◌, ◌++◌, drop}
use Rattle.std.specs.Prelude.{map}
use Rattle.instruction_table.specs.ClassTypes.{desc_type}
use Rattle.flow_verifier.specs.Methods.{spread}
use Rattle.flow_verifier.proofs.method.push_parameters.Given as goal

abbrev pub invariant-loop-i : goal.invariant-loop-i
invariant-loop-i l = l.locals ++ spread (map (desc_type l.image) (drop l.i l.args)) ≡ l.initial.locals ++ spread (map (desc_type l.image) l.args)
