use Rattle.std.proofs.Common.{sym, ◌∙◌}
use Rattle.link_uses.proofs.ItemLaws.{got, field_kept}
use Rattle.link_uses.proofs.items.field_at.Goals as goal

pub returns-in-Some : goal.returns-in-Some
returns-in-Some c = field_kept c.args.resolver.now c.args.pool.now c.args.found.now c.args.item c.in-Some.found.now c.requires (got c.args.found.now c.args.item c.in-Some.found.now c.in-Some.ensures.lookup.0 c.in-Some.ensures.lookup.1) (sym c.is_field.ensures ∙ c.if-is_field.true)
