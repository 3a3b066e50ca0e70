use Rattle.std.proofs.Common.{◌≡◌, take}
use Rattle.std.specs.List.{count_by}
use Rattle.link_image.specs.Fields.{is_instance}
use Rattle.link_image.proofs.bases.instances.Given as goal

abbrev pub invariant-loop-field : goal.invariant-loop-field
invariant-loop-field l = l.count ≡ count_by is_instance (take l.field-index l.fields)
