use Rattle.std.proofs.Common.{subst, ap, ◌∙◌}
use Rattle.std.specs.List.{flat_map}
use Rattle.link_rules.specs.Answers.{IsAnswer}
use Rattle.link_members.specs.Declarations.{bad_by}
use Rattle.link_members.proofs.DeclaredWalks.{refused_alike}
use Rattle.link_members.proofs.overrides.check_class.Goals as goal

pub returns : goal.returns
returns c =
    let names = c.args.declarations.now.names in
    let entries = c.args.declarations.now.methods.entries in
    let f = c.args.f.now in
    let near = c.in_ok-near.near in
    let same = ap (λ z. flat_map (bad_by names entries z f) f.methods) c.as_slice.ensures
    ∙ refused_alike c.args.program.now names entries near c.args.number f c.requires.declared c.in_ok-near.ensures in
    subst (λ z. IsAnswer z c.check_methods.result) same c.check_methods.ensures
