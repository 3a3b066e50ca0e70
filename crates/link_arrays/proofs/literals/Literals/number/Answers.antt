use Rattle.std.proofs.Common.{ap, sym, ◌∙◌, position}
use Rattle.class_names.specs.Known.{is_name}
use Rattle.class_names.proofs.Mapped.{position_map}
use Rattle.link_arrays.proofs.literals.Literals.number.Goals as goal

pub returns-clause-at : goal.returns-clause-at
returns-clause-at c =
    c.get_index_of.ensures.index
    ∙ sym (position_map (λ x. x.now) (is_name c.args.content.now) c.self.inside.contents.keys)
    ∙ ap (position (is_name c.args.content.now)) c.self.view_is
