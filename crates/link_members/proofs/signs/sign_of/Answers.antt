use Rattle.std.proofs.Common.{ap, ◌∙◌}
use Rattle.class_names.specs.Texts.{text_in}
use Rattle.link_members.specs.Signs.{sign_of}
use Rattle.link_members.proofs.signs.sign_of.Goals as goal

pub returns : goal.returns
returns c =
    let m = c.args.method.now in
    c.sign_at.ensures ∙ ap (λ pool. sign_of c.args.names.now (text_in pool m.name, text_in pool m.desc)) c.as_slice.ensures
