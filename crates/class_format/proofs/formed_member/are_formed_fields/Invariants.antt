use Rattle.std.proofs.Common.{ℕ, ◌<◌, get_or}
use Rattle.class_format.specs.declared.class.FieldItem.{FieldItem}
use Rattle.class_format.specs.Judging.Formed.{FormedField}
use Rattle.class_format.proofs.formed_member.are_formed_fields.Given as goal

abbrev pub invariant-loop-field : goal.invariant-loop-field
invariant-loop-field l = (k : ℕ) (d : FieldItem) → k < l.field-index → FormedField l.texts (get_or l.fields k d)
