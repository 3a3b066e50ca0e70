use Rattle.std.proofs.Common.{ap, ◌∙◌, map}
use Rattle.class_names.specs.Known.{is_name}
use Rattle.numbering.specs.Seen.{with_item}
use Rattle.numbering.proofs.Places.{seen_map}
use Rattle.link_arrays.proofs.literals.Literals.add.Goals as goal

pub returns : goal.returns
returns c =
    ap (map (λ x. x.now)) c.in_ok-insert.ensures.keys
    ∙ seen_map (λ x. x.now) is_name c.self.inside.contents.keys c.args.content
    ∙ ap (λ contents. with_item is_name contents c.args.content.now) c.self.view_is
