use Rattle.std.proofs.Common.{◌≡◌, map, take}
use Rattle.class_format.specs.declared.class.FieldItem.{FieldItem}
use Rattle.link_image.proofs.backs.field_descs.Given as goal

abbrev pub invariant-loop-field : goal.invariant-loop-field
invariant-loop-field l = l.indices ≡ map (λ (x : FieldItem). x.desc) (take l.field-index l.fields)
