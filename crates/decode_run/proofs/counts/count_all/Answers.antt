use Rattle.std.proofs.Common.{subst, arith, List}
use Rattle.std.proofs.lemmas.List.{take_all}
use Rattle.class_format.specs.declared.class.MethodItem.{MethodItem}
use Rattle.decode_run.specs.Counts.{IsCounted}
use Rattle.decode_run.proofs.Counting.{counted_none, counted_more, refused_at}
use Rattle.decode_run.proofs.counts.count_all.Goals as goal

pub loop-at-init : goal.loop-at-init
loop-at-init c = counted_none c.args.descs.now c.args.methods.now

pub returns-in-Err-clause-refused : goal.returns-in-Err-clause-refused
returns-in-Err-clause-refused c =
    refused_at c.args.descs.now c.args.methods.now c.loop-at.at c.index-methods-at.result c.loop-at.counts c.in-Err.why c.loop-at-test.true c.index-methods-at.is c.in-Err.ensures c.loop-at.invariant

pub loop-at-preserved : goal.loop-at-preserved
loop-at-preserved c =
    counted_more c.args.descs.now c.args.methods.now c.loop-at.at c.index-methods-at.result c.loop-at.counts c.with-counts.result c.in-Ok.count c.loop-at-test.true c.index-methods-at.is c.in-Ok.ensures c.with-counts.ensures.methods c.with-counts.ensures.instructions c.loop-at.invariant

pub returns-clause-counted : goal.returns-clause-counted
returns-clause-counted c =
    subst (λ (items : List MethodItem). IsCounted c.args.descs.now items c.loop-at.counts) (take_all c.loop-at.at c.args.methods.now (omega (arith, c.loop-at-test.false))) c.loop-at.invariant
