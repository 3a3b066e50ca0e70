use Rattle.std.proofs.Common.{◌≡◌, drop}
use Rattle.std.specs.List.{flat_map}
use Rattle.link_rules.specs.Members.{wrong_field}
use Rattle.link_members.proofs.declared.check_fields.Given as goal

abbrev pub invariant-loop-field : goal.invariant-loop-field
invariant-loop-field l = flat_map (wrong_field l.file) l.fields ≡ flat_map (wrong_field l.file) (drop l.field-index l.fields)
