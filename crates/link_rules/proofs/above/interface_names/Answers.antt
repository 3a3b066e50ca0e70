use Rattle.std.proofs.Common.{ap, ◌∙◌}
use Rattle.link_rules.specs.Classes.{names_interface}
use Rattle.link_rules.proofs.MarkLaws.{tested_more}
use Rattle.link_rules.proofs.above.interface_names.Goals as goal

pub loop-index-preserved : goal.loop-index-preserved
loop-index-preserved c = tested_more (names_interface c.args.program.now) c.args.pool.now c.loop-index.told c.push.new.self c.names_interface.result c.loop-index.index c.loop-index.invariant.0 c.loop-index.invariant.1 (c.names_interface.ensures ∙ ap (names_interface c.args.program.now) c.text.ensures) c.in_ok-push.ensures.ok
