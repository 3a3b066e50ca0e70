use Rattle.std.proofs.Common.{refl, arith, length-append, ◌∷◌, []}
use Rattle.std.proofs.lemmas.Result.{err_from_is_err_and}
use Rattle.class_file.specs.Reading.Words.{adding}
use Rattle.class_file.specs.Reading.Members.{method_at}
use Rattle.class_file.proofs.EachLaws.{starts, fails_count, adds, adds_no, is_done}
use Rattle.class_file.proofs.method.methods.Goals as goal

pub returns-in_err-count : goal.returns-in_err-count
returns-in_err-count c =
    let p = err_from_is_err_and c.from_residual.result c.from_residual.ensures.1 in
    rw (p.1, p.2) (fails_count (adding (method_at c.args.texts.now)) c.in_err-count.field-0.0 [] _ c.in_err-count.ensures)

pub loop-number-init : goal.loop-number-init
loop-number-init c = record {
  long = rw c.new-methods.ensures refl;
  seen = λ name desc. rw (c.new-seen.ensures.empty, c.new-methods.ensures) refl;
  told = rw c.new-methods.ensures (starts (adding (method_at c.args.texts.now)) [] _ c.in_ok-count.count _ c.in_ok-count.ensures);
}

pub returns-in_err-method : goal.returns-in_err-method
returns-in_err-method c =
    let p = err_from_is_err_and c.from_residual-in_err-method.result c.from_residual-in_err-method.ensures.1 in
    rw (p.1, p.2) (adds_no (method_at c.args.texts.now) c.in_err-method.field-0.0 c.in_ok-count.count c.loop-number.number c.loop-number.methods c.loop-number.reader _ c.loop-number-test.true (c.in_err-method.ensures.exact c.loop-number.methods c.loop-number.invariant.long c.loop-number.invariant.seen) c.loop-number.invariant.told)

pub loop-number-preserved : goal.loop-number-preserved
loop-number-preserved c = record {
  long = rw c.in_ok-push.ensures.ok (omega (arith, length-append c.loop-number.methods (c.in_ok-method.method ∷ []), c.loop-number.invariant.long));
  seen = rw c.in_ok-push.ensures.ok (c.in_ok-method.ensures.seen c.loop-number.methods c.loop-number.invariant.seen);
  told = rw c.in_ok-push.ensures.ok (adds (method_at c.args.texts.now) c.in_ok-count.count c.loop-number.number c.loop-number.methods c.loop-number.reader c.in_ok-method.method c.method.new.reader _ c.loop-number-test.true (c.in_ok-method.ensures.exact c.loop-number.methods c.loop-number.invariant.long c.loop-number.invariant.seen) c.loop-number.invariant.told);
}

pub returns : goal.returns
returns c = is_done (adding (method_at c.args.texts.now)) c.in_ok-count.count c.loop-number.number c.loop-number.methods c.loop-number.reader _ c.loop-number-test.false c.loop-number.invariant.told
