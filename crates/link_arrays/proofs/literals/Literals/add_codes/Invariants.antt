use Rattle.std.proofs.Common.{◌≡◌, drop}
use Rattle.std.specs.List.{flat_map}
use Rattle.class_names.specs.Known.{is_name}
use Rattle.link_arrays.specs.Seen.{with_items}
use Rattle.link_arrays.specs.Marks.{AreContents}
use Rattle.link_arrays.specs.Literals.{code_literals}
use Rattle.link_arrays.proofs.literals.Literals.add_codes.Given as goal

abbrev pub invariant-loop-code : goal.invariant-loop-code
invariant-loop-code l = record {
  left : with_items is_name l.initial.self (flat_map (code_literals l.pool) l.codes) ≡ with_items is_name l.self (flat_map (code_literals l.pool) (drop l.code-index l.codes));
  marked : AreContents l.pool l.marks l.self;
}
