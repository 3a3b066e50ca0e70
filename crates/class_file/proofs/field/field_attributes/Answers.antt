use Rattle.std.proofs.Common.{None}
use Rattle.std.proofs.lemmas.Result.{err_from_is_err_and}
use Rattle.class_file.specs.Reading.Members.{field_attribute_at}
use Rattle.class_file.proofs.EachLaws.{starts, fails_count, goes_on, ends, is_done}
use Rattle.class_file.proofs.field.field_attributes.Goals as goal

pub returns-in_err-count : goal.returns-in_err-count
returns-in_err-count c =
    let p = err_from_is_err_and c.from_residual.result c.from_residual.ensures.1 in
    rw (p.1, p.2) (fails_count (field_attribute_at c.args.texts.now c.args.head) c.in_err-count.field-0.0 None _ c.in_err-count.ensures)

pub loop-init : goal.loop-init
loop-init c = starts (field_attribute_at c.args.texts.now c.args.head) None _ c.in_ok-count.count _ c.in_ok-count.ensures

pub returns-in_err-constant : goal.returns-in_err-constant
returns-in_err-constant c =
    let p = err_from_is_err_and c.from_residual-in_err-constant.result c.from_residual-in_err-constant.ensures.1 in
    rw (p.1, p.2) (ends (field_attribute_at c.args.texts.now c.args.head) c.in_err-constant.field-0.0 c.in_ok-count.count c.loop.counter c.loop.constant c.loop.reader _ c.loop-test.true c.in_err-constant.ensures c.loop.invariant)

pub loop-preserved : goal.loop-preserved
loop-preserved c = goes_on (field_attribute_at c.args.texts.now c.args.head) c.in_ok-count.count c.loop.counter c.loop.constant c.loop.reader _ c.field_attribute.new.reader _ c.loop-test.true c.in_ok-constant.ensures c.loop.invariant

pub returns : goal.returns
returns c = is_done (field_attribute_at c.args.texts.now c.args.head) c.in_ok-count.count c.loop.counter c.loop.constant c.loop.reader _ c.loop-test.false c.loop.invariant
