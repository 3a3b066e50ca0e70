use Rattle.std.proofs.Common.{ap, ◌∙◌, ◌++◌}
use Rattle.link_image.proofs.SignLaws.{class_more}
use Rattle.link_image.proofs.signs.add_class.Goals as goal

pub returns : goal.returns
returns c = λ fs a. class_more fs c.args.file.now c.args.all.now c.in_ok-class.class _ a c.in_ok-class.ensures (c.in_ok-append.ensures.ok ∙ ap (λ z. c.args.all.now.names ++ z) c.as_slice.ensures) (c.in_ok-append-2.ensures.ok ∙ ap (λ z. c.args.all.now.descs ++ z) c.as_slice-2.ensures)
