use Rattle.std.proofs.Common.{◌≡◌, ◌++◌, drop}
use Rattle.std.specs.List.{flat_map}
use Rattle.link_members.specs.Declarations.{methods_at, signed_one, signed_in}
use Rattle.link_members.specs.Signs.{Sign}
use Rattle.link_members.proofs.declarations.add_methods.Given as goal

abbrev pub invariant-loop-method : goal.invariant-loop-method
invariant-loop-method l =
    (k : Sign) → methods_at l.methods.entries k ++ flat_map (signed_one l.names k l.class l.file) (drop l.method-index l.added) ≡ methods_at l.initial.methods.entries k ++ signed_in l.names k l.class l.file
