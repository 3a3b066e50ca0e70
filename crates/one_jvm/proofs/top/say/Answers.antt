use Rattle.std.proofs.Common.{ap, ◌∙◌, [], None}
use Rattle.cjvm_io.specs.Sinks.{shown}
use Rattle.one_jvm.specs.Answers.{the_faults}
use Rattle.one_jvm.proofs.Judged.{judged_said, judged_as}
use Rattle.one_jvm.proofs.top.say.Goals as goal

pub returns-clause-judged : goal.returns-clause-judged
returns-clause-judged g c words told asked before now call found =
    judged_as words told (the_faults before now (g.O.Sink.faults c.args.out.now) (g.O.Sink.faults c.write_line-refusal.new.out)) (shown g.O.Sink.held g.O.Sink.faults c.args.out.now) (shown g.O.Sink.held g.O.Sink.faults c.write_line-refusal.new.out) c.without_run.result.order [] c.without_run.result.stop None c.without_run.result.end None c.without_run.result.refusal c.write_line-refusal.result c.without_run.result.text.items [] c.without_run.result.listing [] c.without_run.result.name.now []
    c.without_run.ensures.no_run.1 c.without_run.ensures.no_run.0 c.without_run.ensures.end c.without_run.ensures.refused (c.without_run.ensures.told ∙ c.new.ensures.items) c.without_run.ensures.no_run.2 c.without_run.ensures.named
    (judged_said words told asked call before now c.args.line.now found (shown g.O.Sink.held g.O.Sink.faults c.args.out.now) (shown g.O.Sink.held g.O.Sink.faults c.write_line-refusal.new.out) c.write_line-refusal.result c.write_line-refusal.ensures.says)
