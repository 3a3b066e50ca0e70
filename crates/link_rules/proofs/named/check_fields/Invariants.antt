use Rattle.std.proofs.Common.{◌≡◌, drop}
use Rattle.std.specs.List.{flat_map}
use Rattle.link_rules.specs.Walks.Missing.{missing_field}
use Rattle.link_rules.proofs.named.check_fields.Given as goal

abbrev pub invariant-loop-field : goal.invariant-loop-field
invariant-loop-field l =
    flat_map (missing_field l.names l.file) l.fields ≡ flat_map (missing_field l.names l.file) (drop l.field-index l.fields)
