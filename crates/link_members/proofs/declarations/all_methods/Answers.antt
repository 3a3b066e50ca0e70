use Rattle.std.proofs.Common.{◌≡◌, ◌+◌, ◌++◌, length, ap, sym, ◌∙◌, arith}
use Rattle.link_rules.specs.Numbers.{numbered}
use Rattle.link_members.specs.Declarations.{methods_at, signed_in}
use Rattle.link_members.proofs.DeclaredLaws.{numbered_both}
use Rattle.link_members.proofs.declarations.all_methods.Goals as goal

pub returns : goal.returns
returns c = λ k.
    let boot = c.parts.result.0.now in
    let files = c.parts.result.1.now in
    let in_class = signed_in c.args.names.now k in
    let behind : length boot ≡ 0 + length boot = omega arith in
    c.in_ok-add_classes-2.ensures k
    ∙ ap (λ z. z ++ numbered in_class (length boot) files) (c.in_ok-add_classes.ensures k ∙ ap (λ z. methods_at z k ++ numbered in_class 0 boot) c.new-methods.ensures.empty)
    ∙ ap (λ n. numbered in_class 0 boot ++ numbered in_class n files) behind
    ∙ sym (numbered_both in_class 0 boot files)
    ∙ ap (numbered in_class 0) c.parts.ensures
