use Rattle.std.proofs.Common.{sym, ◌∙◌}
use Rattle.link_uses.proofs.ItemLaws.{got, method_kept}
use Rattle.link_uses.proofs.items.method_at.Goals as goal

pub returns-in-Some : goal.returns-in-Some
returns-in-Some c = method_kept c.args.resolver.now c.args.pool.now c.args.found.now c.args.item c.in-Some.found.now c.requires (got c.args.found.now c.args.item c.in-Some.found.now c.in-Some.ensures.lookup.0 c.in-Some.ensures.lookup.1) (sym c.is_method.ensures ∙ c.if-is_method.true)
