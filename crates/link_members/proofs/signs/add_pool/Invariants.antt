use Rattle.std.proofs.Common.{◌≡◌, drop}
use Rattle.std.specs.List.{flat_map}
use Rattle.class_names.specs.Known.{add_names}
use Rattle.link_members.specs.Signs.{item_texts}
use Rattle.link_members.proofs.signs.add_pool.Given as goal

abbrev pub invariant-loop-item : goal.invariant-loop-item
invariant-loop-item l =
    add_names l.names (flat_map item_texts (drop l.item-index l.pool)) ≡ add_names l.initial.names (flat_map item_texts l.pool)
