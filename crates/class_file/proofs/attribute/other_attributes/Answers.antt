use Rattle.std.proofs.lemmas.Result.{err_from_is_err_and}
use Rattle.class_file.specs.Reading.Members.{other_at}
use Rattle.class_file.proofs.EachLaws.{starts, fails_count, goes_on, ends, is_done}
use Rattle.class_file.proofs.attribute.other_attributes.Goals as goal

pub returns-in_err-count : goal.returns-in_err-count
returns-in_err-count c =
    let p = err_from_is_err_and c.from_residual.result c.from_residual.ensures.1 in
    rw (p.1, p.2) (fails_count (other_at c.args.texts.now) c.in_err-count.field-0.0 tt _ c.in_err-count.ensures)

pub loop-init : goal.loop-init
loop-init c = starts (other_at c.args.texts.now) tt _ c.in_ok-count.count _ c.in_ok-count.ensures

pub returns-in_err-other : goal.returns-in_err-other
returns-in_err-other c =
    let p = err_from_is_err_and c.from_residual-in_err-other.result c.from_residual-in_err-other.ensures.1 in
    rw (p.1, p.2) (ends (other_at c.args.texts.now) c.in_err-other.field-0.0 c.in_ok-count.count c.loop.counter tt c.loop.reader _ c.loop-test.true c.in_err-other.ensures c.loop.invariant)

pub loop-preserved : goal.loop-preserved
loop-preserved c = goes_on (other_at c.args.texts.now) c.in_ok-count.count c.loop.counter tt c.loop.reader tt c.other.new.reader _ c.loop-test.true c.in_ok-other.ensures c.loop.invariant

pub returns : goal.returns
returns c = is_done (other_at c.args.texts.now) c.in_ok-count.count c.loop.counter tt c.loop.reader _ c.loop-test.false c.loop.invariant
