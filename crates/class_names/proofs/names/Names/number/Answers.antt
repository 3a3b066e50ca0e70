use Rattle.std.proofs.Common.{ap, sym, ◌∙◌, position}
use Rattle.class_names.specs.Known.{is_name, is_known}
use Rattle.class_names.proofs.Mapped.{position_map, any_map}
use Rattle.class_names.proofs.names.Names.number.Goals as goal

pub returns-clause-at : goal.returns-clause-at
returns-clause-at c = c.get_index_of.ensures.index ∙ sym (position_map (λ x. x.now) (is_name c.args.name.now) c.self.inside.set.keys) ∙ ap (position (is_name c.args.name.now)) c.self.view_is

pub returns-clause-found : goal.returns-clause-found
returns-clause-found c = c.get_index_of.ensures.found ∙ sym (any_map (λ x. x.now) (is_name c.args.name.now) c.self.inside.set.keys) ∙ ap (λ names. is_known names c.args.name.now) c.self.view_is
