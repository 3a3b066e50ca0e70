use Rattle.std.proofs.Common.{ap, sym, ◌∙◌, position}
use Rattle.numbering.specs.Seen.{is_seen}
use Rattle.numbering.proofs.Mapped.{position_map, any_map}
use Rattle.numbering.proofs.numbers.Numbers.find.Goals as goal

pub returns-clause-number : goal.returns-clause-number
returns-clause-number g c = c.get_index_of.ensures.index ∙ sym (position_map (λ x. x.now) (g.T.PartialEq.eq c.args.item.now) c.self.inside.set.keys) ∙ ap (position (g.T.PartialEq.eq c.args.item.now)) c.self.view_is

pub returns-clause-seen : goal.returns-clause-seen
returns-clause-seen g c = c.get_index_of.ensures.found ∙ sym (any_map (λ x. x.now) (g.T.PartialEq.eq c.args.item.now) c.self.inside.set.keys) ∙ ap (λ items. is_seen g.T.PartialEq.eq items c.args.item.now) c.self.view_is
