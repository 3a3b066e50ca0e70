use Rattle.std.proofs.Common.{◌≡◌, drop}
use Rattle.std.specs.List.{flat_map}
use Rattle.link_rules.specs.Members.{wrong_method}
use Rattle.link_members.proofs.declared.check_methods.Given as goal

abbrev pub invariant-loop-method : goal.invariant-loop-method
invariant-loop-method l = flat_map (wrong_method l.file) l.methods ≡ flat_map (wrong_method l.file) (drop l.method-index l.methods)
