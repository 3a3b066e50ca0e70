use Rattle.std.proofs.Common.{refl, []}
use Rattle.std.proofs.lemmas.Result.{err_from_is_err_and}
use Rattle.class_file.specs.Reading.Words.{adding}
use Rattle.class_file.specs.Reading.Members.{field_at}
use Rattle.class_file.proofs.EachLaws.{starts, fails_count, adds, adds_no, is_done}
use Rattle.class_file.proofs.field.fields.Goals as goal

pub returns-in_err-count : goal.returns-in_err-count
returns-in_err-count c =
    let p = err_from_is_err_and c.from_residual.result c.from_residual.ensures.1 in
    rw (p.1, p.2) (fails_count (adding (field_at c.args.texts.now)) c.in_err-count.field-0.0 [] _ c.in_err-count.ensures)

pub loop-init : goal.loop-init
loop-init c = record {
  seen = λ name desc. rw (c.new-seen.ensures.empty, c.new-fields.ensures) refl;
  told = rw c.new-fields.ensures (starts (adding (field_at c.args.texts.now)) [] _ c.in_ok-count.count _ c.in_ok-count.ensures);
}

pub returns-in_err-field : goal.returns-in_err-field
returns-in_err-field c =
    let p = err_from_is_err_and c.from_residual-in_err-field.result c.from_residual-in_err-field.ensures.1 in
    rw (p.1, p.2) (adds_no (field_at c.args.texts.now) c.in_err-field.field-0.0 c.in_ok-count.count c.loop.counter c.loop.fields c.loop.reader _ c.loop-test.true (c.in_err-field.ensures.exact c.loop.fields c.loop.invariant.seen) c.loop.invariant.told)

pub loop-preserved : goal.loop-preserved
loop-preserved c = record {
  seen = rw c.in_ok-push.ensures.ok (c.in_ok-field.ensures.seen c.loop.fields c.loop.invariant.seen);
  told = rw c.in_ok-push.ensures.ok (adds (field_at c.args.texts.now) c.in_ok-count.count c.loop.counter c.loop.fields c.loop.reader c.in_ok-field.field c.field.new.reader _ c.loop-test.true (c.in_ok-field.ensures.exact c.loop.fields c.loop.invariant.seen) c.loop.invariant.told);
}

pub returns : goal.returns
returns c = is_done (adding (field_at c.args.texts.now)) c.in_ok-count.count c.loop.counter c.loop.fields c.loop.reader _ c.loop-test.false c.loop.invariant.told
