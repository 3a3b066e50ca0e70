use Rattle.std.proofs.Common.{not, ap, ◌∙◌, subst}
use Rattle.class_names.specs.Texts.{class_text}
use Rattle.link_rules.specs.declared.error.LinkWhy.TheVariants.{WrongKind}
use Rattle.link_rules.specs.Answers.{IsAnswer, refused_if}
use Rattle.link_rules.specs.Classes.{names_interface}
use Rattle.link_rules.specs.Walks.Kinds.{wrong_interface_item}
use Rattle.link_rules.proofs.above.check_interface.Goals as goal

pub returns : goal.returns
unfolding wrong_interface_item
returns c =
    let all = c.args.program.now in
    let f = c.args.file.now in
    let i = c.args.interface in
    let named = c.item_names_interface-is_wrong.ensures ∙ ap (λ pool. names_interface all (class_text pool i)) c.as_slice-pool.ensures in
    let text = c.class_text-text.ensures ∙ ap (λ pool. class_text pool i) c.as_slice-pool.ensures in
    let same = ap (λ b. refused_if (not b) WrongKind f c.class_text-text.result.now) named
    ∙ ap (refused_if (not (names_interface all (class_text f.pool i))) WrongKind f) text in
    subst (λ z. IsAnswer z c.refuse_class_if.result) same c.refuse_class_if.ensures
