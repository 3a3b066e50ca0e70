use Rattle.std.proofs.Common.{◌≡◌, ◌∙◌, ◌==◌, ◌&&◌, sym, ap, Some}
use Rattle.std.specs.Prelude.{slice_get}
use Rattle.std.proofs.lemmas.Option.{slice_get-get_or}
use Rattle.program_reads.proofs.MarkLaws.{marks_set, marks_kept}
use Rattle.program_reads.proofs.constants.marks.Goals as goal
use Rattle.program_reads.proofs.constants.marks.Goals.{then-is_constant, else-is_constant}

pub loop-field-preserved : goal.loop-field-preserved
loop-field-preserved c =
    let fields = c.args.fields.now in
    let i = c.loop-field.field-index in
    let f = c.field-item.result in
    let here : slice_get fields i ≡ Some f = slice_get-get_or fields i f c.loop-field-test.true ∙ ap Some (sym c.field-item.is) in
    elim c.if-is_constant.branch [
      | then-is_constant w ↦ rw (w.marks-is, w.mark.ensures) (marks_set fields c.loop-field.marks i f here (λ place. c.is_constant.ensures place ∙ ap (λ b. b && (f.place == place)) w.if-is_constant.true) c.loop-field.invariant)
      | else-is_constant w ↦ rw w.marks-is (marks_kept fields c.loop-field.marks i f here (λ place l. c.is_constant.ensures place ∙ ap (λ b. b && (f.place == place)) w.if-is_constant.false) c.loop-field.invariant)
    ]
