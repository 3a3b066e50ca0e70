use Rattle.std.proofs.Common.{◌≡◌, drop}
use Rattle.std.specs.List.{flat_map}
use Rattle.class_names.specs.Known.{is_name}
use Rattle.link_arrays.specs.Seen.{with_items}
use Rattle.link_arrays.specs.Marks.{AreContents}
use Rattle.link_arrays.specs.Literals.{op_literals}
use Rattle.link_arrays.proofs.literals.Literals.add_ops.Given as goal

abbrev pub invariant-loop-placed : goal.invariant-loop-placed
invariant-loop-placed l = record {
  left : with_items is_name l.initial.self (flat_map (λ p. op_literals l.pool p.op) l.ops) ≡ with_items is_name l.self (flat_map (λ p. op_literals l.pool p.op) (drop l.placed-index l.ops));
  marked : AreContents l.pool l.marks l.self;
}
