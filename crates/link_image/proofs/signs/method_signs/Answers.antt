use Rattle.std.proofs.Common.{◌≡◌, ◌∙◌, sym, ap, subst, map}
use Rattle.program_image.specs.declared.info.MethodInfo.{MethodInfo}
use Rattle.link_image.specs.Kept.Backs.{AreBacks}
use Rattle.link_image.proofs.SignLaws.{names_are, descs_are}
use Rattle.link_image.proofs.signs.method_signs.Goals as goal

pub signs-requires-clause-names : goal.signs-requires-clause-names
signs-requires-clause-names c =
    subst (λ z. AreBacks z c.in_ok-backs.backs.names) (sym (ap (map (λ (m : MethodInfo). m.name)) c.requires ∙ names_are c.args.program.now)) c.in_ok-backs.ensures.names

pub signs-requires-clause-descs : goal.signs-requires-clause-descs
signs-requires-clause-descs c =
    subst (λ z. AreBacks z c.in_ok-backs.backs.descs) (sym (ap (map (λ (m : MethodInfo). m.desc)) c.requires ∙ descs_are c.args.program.now)) c.in_ok-backs.ensures.descs
