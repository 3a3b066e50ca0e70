use Rattle.link_rules.specs.Walks.Missing.{knows_method_text}
use Rattle.link_rules.proofs.MarkLaws.{tested_more}
use Rattle.link_rules.proofs.known.known_methods.Goals as goal

pub loop-index-preserved : goal.loop-index-preserved
loop-index-preserved c = tested_more (knows_method_text c.args.names.now) c.args.pool.now c.loop-index.told c.push.new.self c.in_ok-knows_method_text.field-0 c.loop-index.index c.loop-index.invariant.0 c.loop-index.invariant.1 (c.in_ok-knows_method_text.ensures) c.in_ok-push.ensures.ok
