use Rattle.std.proofs.Common.{ap, ◌∙◌, position, map, subst, ◌<◌, length}
use Rattle.numbering.specs.Seen.{with_item}
use Rattle.numbering.proofs.Places.{seen_map, number_map}
use Rattle.numbering.proofs.numbers.Numbers.number.Goals as goal

pub returns-clause-items : goal.returns-clause-items
returns-clause-items g c = ap (map (λ x. x.now)) c.in_ok-at.ensures.keys ∙ seen_map (λ x. x.now) g.T.PartialEq.eq c.self.inside.set.keys c.args.item ∙ ap (λ items. with_item g.T.PartialEq.eq items c.args.item.now) c.self.view_is

pub returns-clause-number : goal.returns-clause-number
returns-clause-number g c =
    let keys = c.in_ok-at.ensures.keys in
    ap (λ ks. position (g.T.PartialEq.eq c.args.item.now) (map (λ x. x.now) ks)) keys
    ∙ number_map (λ x. x.now) g.T.PartialEq.eq c.self.inside.set.keys c.args.item c.in_ok-at.at (g.met.T.Eq.laws.refl c.args.item.now) c.in_ok-at.ensures.index (subst (λ ks. c.in_ok-at.at < length ks) keys c.in_ok-at.ensures.within)
