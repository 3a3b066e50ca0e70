use Rattle.std.proofs.Common.{◌≡◌, drop}
use Rattle.std.specs.List.{flat_map}
use Rattle.class_names.specs.Known.{is_name}
use Rattle.link_arrays.specs.Seen.{with_items}
use Rattle.link_arrays.specs.Marks.{AreContents}
use Rattle.link_arrays.specs.Literals.{field_literals}
use Rattle.link_arrays.proofs.literals.Literals.add_fields.Given as goal

abbrev pub invariant-loop-field : goal.invariant-loop-field
invariant-loop-field l = record {
  left : with_items is_name l.initial.self (flat_map (field_literals l.pool) l.fields) ≡ with_items is_name l.self (flat_map (field_literals l.pool) (drop l.field-index l.fields));
  marked : AreContents l.pool l.marks l.self;
}
