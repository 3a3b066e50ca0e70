use Rattle.cjvm_io.specs.Sinks.{shown}
use Rattle.one_jvm.specs.Steps.Parts.{asked_by}
use Rattle.one_jvm.proofs.Judged.{judged_run, order_has_text}
use Rattle.one_jvm.proofs.top.run.Goals as goal

pub order_listing-listing-requires : goal.order_listing-listing-requires
order_listing-listing-requires g c = order_has_text c.args.image.now (asked_by c.args.request.now) (shown g.O.Sink.held g.O.Sink.faults c.args.out.now) (shown g.O.Sink.held g.O.Sink.faults c.run_program-order.new.out) c.run_program-order.result.stop c.run_program-order.result.order c.requires.written c.run_program-order.ensures.ran

pub returns-clause-judged : goal.returns-clause-judged
returns-clause-judged g c words told before now call found =
    judged_run words told (asked_by c.args.request.now) call before now c.args.image.now found (shown g.O.Sink.held g.O.Sink.faults c.args.out.now) (shown g.O.Sink.held g.O.Sink.faults c.run_program-order.new.out) c.run_program-order.result.stop c.run_program-order.result.order c.run_program-order.result.text c.order_listing-listing.result c.refusal_after-refusal.result _ _
    c.run_program-order.ensures.ran c.run_program-order.ensures.told c.run_program-order.ensures.quiet c.order_listing-listing.ensures.text c.order_listing-listing.ensures.unasked c.refusal_after-refusal.ensures c.text_or_none.ensures c.listing_or_none.ensures
