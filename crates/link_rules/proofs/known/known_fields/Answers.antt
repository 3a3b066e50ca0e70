use Rattle.std.proofs.Common.{ap, ◌∙◌}
use Rattle.link_rules.specs.Walks.Missing.{knows_field_text}
use Rattle.link_rules.proofs.MarkLaws.{tested_more}
use Rattle.link_rules.proofs.known.known_fields.Goals as goal

pub loop-index-preserved : goal.loop-index-preserved
loop-index-preserved c = tested_more (knows_field_text c.args.names.now) c.args.pool.now c.loop-index.told c.push.new.self c.in_ok-knows_field_text.field-0 c.loop-index.index c.loop-index.invariant.0 c.loop-index.invariant.1 (c.in_ok-knows_field_text.ensures ∙ ap (knows_field_text c.args.names.now) c.text.ensures) c.in_ok-push.ensures.ok
