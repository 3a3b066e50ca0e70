use Rattle.std.proofs.Common.{not, ap, sym, ◌∙◌}
use Rattle.class_names.specs.Known.{is_known, is_name}
use Rattle.class_names.proofs.Mapped.{any_map}
use Rattle.class_names.proofs.names.Names.add.Goals as goal

pub returns-clause-new : goal.returns-clause-new
returns-clause-new c = c.in_ok-fresh.ensures.added ∙ ap not (sym (any_map (λ x. x.now) (is_name c.args.name.now) c.self.inside.set.keys) ∙ ap (λ names. is_known names c.args.name.now) c.self.view_is)
