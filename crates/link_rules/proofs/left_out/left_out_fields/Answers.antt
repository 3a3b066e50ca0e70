use Rattle.std.proofs.Common.{ap, ◌∙◌}
use Rattle.link_rules.specs.Descriptors.{is_left_out_text}
use Rattle.link_rules.proofs.MarkLaws.{tested_more}
use Rattle.link_rules.proofs.left_out.left_out_fields.Goals as goal

pub loop-index-preserved : goal.loop-index-preserved
loop-index-preserved c = tested_more is_left_out_text c.args.pool.now c.loop-index.told c.push.new.self c.in_ok-is_left_out_text.field-0 c.loop-index.index c.loop-index.invariant.0 c.loop-index.invariant.1 (c.in_ok-is_left_out_text.ensures ∙ ap is_left_out_text c.text.ensures) c.in_ok-push.ensures.ok
