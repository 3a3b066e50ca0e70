use Rattle.std.proofs.Common.{[]}
use Rattle.std.proofs.lemmas.Result.{err_from_is_err_and}
use Rattle.class_file.specs.Reading.Words.{adding}
use Rattle.class_file.specs.Reading.Classes.{interface_at}
use Rattle.class_file.proofs.EachLaws.{starts, fails_count, adds, adds_no, is_done}
use Rattle.class_file.proofs.class_reader.interfaces.Goals as goal

pub returns-in_err-count : goal.returns-in_err-count
returns-in_err-count c =
    let p = err_from_is_err_and c.from_residual.result c.from_residual.ensures.1 in
    rw (p.1, p.2) (fails_count (adding (interface_at c.args.texts.now)) c.in_err-count.field-0.0 [] _ c.in_err-count.ensures)

pub loop-init : goal.loop-init
loop-init c = rw c.new-interfaces.ensures (starts (adding (interface_at c.args.texts.now)) [] _ c.in_ok-count.count _ c.in_ok-count.ensures)

pub returns-in_err-interface : goal.returns-in_err-interface
unfolding interface_at
returns-in_err-interface c =
    let p = err_from_is_err_and c.from_residual-in_err-interface.result c.from_residual-in_err-interface.ensures.1 in
    rw (p.1, p.2) (adds_no (interface_at c.args.texts.now) c.in_err-interface.field-0.0 c.in_ok-count.count c.loop.counter c.loop.interfaces c.loop.reader _ c.loop-test.true c.in_err-interface.ensures c.loop.invariant)

pub loop-preserved : goal.loop-preserved
unfolding interface_at
loop-preserved c = rw c.in_ok-push.ensures.ok (adds (interface_at c.args.texts.now) c.in_ok-count.count c.loop.counter c.loop.interfaces c.loop.reader c.in_ok-interface.interface c.class_index.new.reader _ c.loop-test.true c.in_ok-interface.ensures c.loop.invariant)

pub returns : goal.returns
returns c = is_done (adding (interface_at c.args.texts.now)) c.in_ok-count.count c.loop.counter c.loop.interfaces c.loop.reader _ c.loop-test.false c.loop.invariant
