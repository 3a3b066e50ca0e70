use Rattle.std.proofs.Common.{◌≡◌, [], drop}
use Rattle.std.specs.List.{flat_map}
use Rattle.class_names.specs.Known.{is_name}
use Rattle.link_arrays.specs.Seen.{with_items}
use Rattle.link_arrays.specs.Literals.{file_literals}
use Rattle.link_arrays.proofs.literals.Literals.of.Given as goal

abbrev pub invariant-loop-i : goal.invariant-loop-i
invariant-loop-i l = with_items is_name [] (flat_map file_literals l.files) ≡ with_items is_name l.all (flat_map file_literals (drop l.i l.files))
