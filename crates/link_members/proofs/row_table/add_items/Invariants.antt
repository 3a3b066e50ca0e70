use Rattle.std.proofs.Common.{◌≡◌, ◌++◌, drop, map}
use Rattle.std.specs.List.{filter_map}
use Rattle.class_names.specs.Texts.{class_text}
use Rattle.link_rules.specs.Numbers.{number_of}
use Rattle.link_members.proofs.row_table.add_items.Given as goal

abbrev pub invariant-loop-item : goal.invariant-loop-item
invariant-loop-item l =
    l.initial.row ++ filter_map (number_of l.program) (map (class_text l.pool) l.items) ≡ l.row ++ filter_map (number_of l.program) (map (class_text l.pool) (drop l.item-index l.items))
