use Rattle.std.proofs.Common.{[]}
use Rattle.std.proofs.lemmas.Result.{err_from_is_err_and}
use Rattle.class_file.specs.Reading.Members.{method_attribute_at}
use Rattle.class_file.proofs.EachLaws.{starts, fails_count, goes_on, ends, is_done}
use Rattle.class_file.proofs.method.method_attributes.Goals as goal

pub returns-in_err-count : goal.returns-in_err-count
returns-in_err-count c =
    let p = err_from_is_err_and c.from_residual.result c.from_residual.ensures.1 in
    rw (p.1, p.2) (fails_count (method_attribute_at c.args.texts.now c.args.method) c.in_err-count.field-0.0 [] _ c.in_err-count.ensures)

pub loop-init : goal.loop-init
loop-init c = rw c.new-codes.ensures (starts (method_attribute_at c.args.texts.now c.args.method) [] _ c.in_ok-count.count _ c.in_ok-count.ensures)

pub returns-in_err-method_attribute : goal.returns-in_err-method_attribute
returns-in_err-method_attribute c =
    let p = err_from_is_err_and c.from_residual-in_err-method_attribute.result c.from_residual-in_err-method_attribute.ensures.1 in
    rw (p.1, p.2) (ends (method_attribute_at c.args.texts.now c.args.method) c.in_err-method_attribute.field-0.0 c.in_ok-count.count c.loop.counter c.loop.codes c.loop.reader _ c.loop-test.true c.in_err-method_attribute.ensures c.loop.invariant)

pub loop-preserved : goal.loop-preserved
loop-preserved c = goes_on (method_attribute_at c.args.texts.now c.args.method) c.in_ok-count.count c.loop.counter c.loop.codes c.loop.reader _ c.method_attribute.new.reader _ c.loop-test.true c.in_ok-method_attribute.ensures c.loop.invariant

pub returns : goal.returns
returns c = is_done (method_attribute_at c.args.texts.now c.args.method) c.in_ok-count.count c.loop.counter c.loop.codes c.loop.reader _ c.loop-test.false c.loop.invariant
