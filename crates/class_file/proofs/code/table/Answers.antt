use Rattle.std.proofs.Common.{[]}
use Rattle.std.proofs.lemmas.Result.{err_from_is_err_and}
use Rattle.class_file.specs.Reading.Words.{adding}
use Rattle.class_file.specs.Reading.Members.{table_item_at}
use Rattle.class_file.proofs.EachLaws.{starts, fails_count, adds, adds_no, is_done}
use Rattle.class_file.proofs.code.table.Goals as goal

pub returns-in_err-count : goal.returns-in_err-count
returns-in_err-count c =
    let p = err_from_is_err_and c.from_residual.result c.from_residual.ensures.1 in
    rw (p.1, p.2) (fails_count (adding (table_item_at c.args.texts.now)) c.in_err-count.field-0.0 [] _ c.in_err-count.ensures)

pub loop-init : goal.loop-init
loop-init c = rw c.new-table.ensures (starts (adding (table_item_at c.args.texts.now)) [] _ c.in_ok-count.count _ c.in_ok-count.ensures)

pub returns-in_err-item : goal.returns-in_err-item
returns-in_err-item c =
    let p = err_from_is_err_and c.from_residual-in_err-item.result c.from_residual-in_err-item.ensures.1 in
    rw (p.1, p.2) (adds_no (table_item_at c.args.texts.now) c.in_err-item.field-0.0 c.in_ok-count.count c.loop.counter c.loop.table c.loop.reader _ c.loop-test.true (c.in_err-item.ensures c.loop.table) c.loop.invariant)

pub loop-preserved : goal.loop-preserved
loop-preserved c = rw c.in_ok-push.ensures.ok (adds (table_item_at c.args.texts.now) c.in_ok-count.count c.loop.counter c.loop.table c.loop.reader c.in_ok-item.item c.table_item.new.reader _ c.loop-test.true (c.in_ok-item.ensures c.loop.table) c.loop.invariant)

pub returns : goal.returns
returns c = is_done (adding (table_item_at c.args.texts.now)) c.in_ok-count.count c.loop.counter c.loop.table c.loop.reader _ c.loop-test.false c.loop.invariant
