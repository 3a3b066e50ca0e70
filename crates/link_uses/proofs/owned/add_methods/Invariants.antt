use Rattle.std.proofs.Common.{◌≡◌, drop, map}
use Rattle.std.specs.List.{position_from}
use Rattle.hierarchy.specs.Walks.{or_else}
use Rattle.class_format.specs.declared.member_kind.MemberKind.TheVariants.{Method}
use Rattle.link_uses.specs.Owned.{Key, place_at, method_signature, signatures, has_key}
use Rattle.link_uses.proofs.owned.add_methods.Given as goal

abbrev pub invariant-loop-i : goal.invariant-loop-i
invariant-loop-i l =
    (key : Key) → or_else (place_at l.places.entries key) (position_from (has_key l.names l.class key) l.i (map (method_signature l.file) (drop l.i l.methods))) ≡ or_else (place_at l.initial.places.entries key) (position_from (has_key l.names l.class key) 0 (signatures Method l.file))
