use Rattle.std.proofs.Common.{◌∙◌, ap}
use Rattle.program_image.specs.Built.Signs.{sign_at}
use Rattle.program_image.specs.Built.Members.{member_at}
use Rattle.program_image.proofs.Rows.{there}
use Rattle.program_image.proofs.MemberLaws.{look_up}
use Rattle.program_image.proofs.members.Members.declared_by.Goals as goal

pub returns : goal.returns
returns c =
    let ms = c.args.methods.now in
    let kept = c.args.self.now in
    let called = there ms c.args.called c.requires.called_in in
    c.copied.ensures ∙ c.get.ensures.value
    ∙ ap (λ signs. member_at kept.declared.entries (c.args.class, sign_at signs c.args.called)) c.as_slice.ensures
    ∙ look_up c.args.classes.now ms kept.signs kept.declared.entries c.args.class c.args.called called.0 c.requires.members.signed c.requires.members.declared called.1
