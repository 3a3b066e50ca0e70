use Rattle.std.proofs.Common.{◌≡◌, drop}
use Rattle.std.specs.List.{flat_map}
use Rattle.link_members.specs.Declarations.{bad_by}
use Rattle.link_members.proofs.overrides.check_each.Given as goal

abbrev pub invariant-loop-method : goal.invariant-loop-method
invariant-loop-method l =
    flat_map (bad_by l.declarations.names l.declarations.methods.entries l.near l.f) l.methods ≡ flat_map (bad_by l.declarations.names l.declarations.methods.entries l.near l.f) (drop l.method-index l.methods)
