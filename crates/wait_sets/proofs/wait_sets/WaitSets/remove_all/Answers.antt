use Rattle.std.proofs.Common.{rules, ◌∙◌, ap}
use Rattle.std.proofs.lemmas.Fn.{filter_same}
use Rattle.wait_sets.specs.WaitSets.{without_all}
use Rattle.wait_sets.proofs.wait_sets.WaitSets.remove_all.Goals as goal

pub returns-clause-items : goal.returns-clause-items
returns-clause-items c =
    filter_same _ _ _ (λ x b f' k. search rules) _ _ c.retain.ensures.filtered ∙ ap (λ s. without_all c.args.name s.items) c.self.view_is
