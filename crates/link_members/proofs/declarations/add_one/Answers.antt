use Rattle.std.proofs.Common.{◌++◌, ◌∷◌, [], if◌then◌else◌, ◌∙◌, ap}
use Rattle.link_members.specs.Signs.{is_sign}
use Rattle.link_members.proofs.DeclaredLaws.{one_more}
use Rattle.link_members.proofs.declarations.add_one.Goals as goal

pub returns : goal.returns
returns c = λ k.
    c.in_ok-put.ensures k
    ∙ ap (λ z. if is_sign c.args.sign k then c.push.new.self else z) (c.take-some.ensures.left k)
    ∙ one_more c.args.sign k _ c.push.new.self c.args.method (c.in_ok-push.ensures.ok ∙ ap (λ z. z ++ c.args.method ∷ []) c.take-some.ensures.taken)
