use Rattle.std.proofs.Common.{◌≡◌, List, [], ◌++◌, sym, ap, ◌∙◌, subst}
use Rattle.std.proofs.lemmas.Result.{err_from_is_err_and}
use Rattle.class_format.specs.declared.class.ClassFile.{ClassFile}
use Rattle.hierarchy.specs.Hierarchy.{IsRanked}
use Rattle.jvm_base.specs.Words.{from}
use Rattle.link_arrays.specs.Arrays.{array_types}
use Rattle.link_arrays.specs.Literals.{literals}
use Rattle.link_image.specs.Image.{image_of}
use Rattle.link_rules.specs.declared.error.LinkErr.{LinkErr}
use Rattle.link_rules.specs.Answers.{IsFirst}
use Rattle.link_rules.specs.Numbers.{above_rows}
use Rattle.class_link.specs.Linked.{no_start}
use Rattle.class_link.specs.Refusals.{classes_of, name_refusals, above_refusals, member_refusals, rule_refusals}
use Rattle.class_link.proofs.Fits.{none_wrong, not_refused}
use Rattle.class_link.proofs.MainLaws.{main_within}
use Rattle.class_link.proofs.Stages.{second_first, third_first, fourth_first, fifth_first, five_none}
use Rattle.class_link.proofs.linking.link_program.Goals as goal

pub returns-in_err-ranks-clause-answer : goal.returns-in_err-ranks-clause-answer
unfolding rule_refusals
returns-in_err-ranks-clause-answer c =
    let files : List ClassFile = c.args.files.now in
    let e : LinkErr = c.in_err-ranks.field-0.0 in
    let program = c.in_ok-program.ensures.program ∙ ap (λ z. z ++ files) c.requires.boot in
    let none = subst (λ z. name_refusals z files ≡ []) c.requires.boot c.in_ok-program.ensures.answer in
    let first = subst (λ z. IsFirst (above_refusals z 34 files) e) program c.in_err-ranks.ensures.answer in
    let p = err_from_is_err_and c.from_residual-in_err-ranks.result c.from_residual-in_err-ranks.ensures.1 in
    rw (p.1, p.2) (second_first _ _ _ e none first)

pub returns-in_err-resolver-clause-answer : goal.returns-in_err-resolver-clause-answer
unfolding rule_refusals
returns-in_err-resolver-clause-answer c =
    let files : List ClassFile = c.args.files.now in
    let e : LinkErr = c.in_err-resolver.field-0.0 in
    let program = c.in_ok-program.ensures.program ∙ ap (λ z. z ++ files) c.requires.boot in
    let none = subst (λ z. name_refusals z files ≡ []) c.requires.boot c.in_ok-program.ensures.answer in
    let above = subst (λ z. above_refusals z 34 files ≡ []) program c.in_ok-ranks.ensures.answer in
    let first = subst (λ z. IsFirst (member_refusals z 34 files) e) program c.in_err-resolver.ensures.answer in
    let p = err_from_is_err_and c.from_residual-in_err-resolver.result c.from_residual-in_err-resolver.ensures.1 in
    rw (p.1, p.2) (third_first _ _ _ _ e none above first)

pub returns-in_err-start-clause-answer : goal.returns-in_err-start-clause-answer
unfolding rule_refusals
returns-in_err-start-clause-answer c =
    let files : List ClassFile = c.args.files.now in
    let e : LinkErr = c.in_err-start.field-0.0 in
    let program = c.in_ok-program.ensures.program ∙ ap (λ z. z ++ files) c.requires.boot in
    let none = subst (λ z. name_refusals z files ≡ []) c.requires.boot c.in_ok-program.ensures.answer in
    let above = subst (λ z. above_refusals z 34 files ≡ []) program c.in_ok-ranks.ensures.answer in
    let members = subst (λ z. member_refusals z 34 files ≡ []) program c.in_ok-resolver.ensures.answer in
    let p = err_from_is_err_and c.from_residual-in_err-start.result c.from_residual-in_err-start.ensures.1 in
    rw (p.1, p.2) (fourth_first _ _ _ _ _ e none above members c.in_err-start.ensures.answer)

pub returns-in_err-arrays-clause-answer : goal.returns-in_err-arrays-clause-answer
unfolding rule_refusals
returns-in_err-arrays-clause-answer c =
    let files : List ClassFile = c.args.files.now in
    let e : LinkErr = c.in_err-arrays.field-0.0 in
    let program = c.in_ok-program.ensures.program ∙ ap (λ z. z ++ files) c.requires.boot in
    let none = subst (λ z. name_refusals z files ≡ []) c.requires.boot c.in_ok-program.ensures.answer in
    let above = subst (λ z. above_refusals z 34 files ≡ []) program c.in_ok-ranks.ensures.answer in
    let members = subst (λ z. member_refusals z 34 files ≡ []) program c.in_ok-resolver.ensures.answer in
    let p = err_from_is_err_and c.from_residual-in_err-arrays.result c.from_residual-in_err-arrays.ensures.1 in
    rw (p.1, p.2) (fifth_first _ _ _ _ _ e none above members c.in_ok-start.ensures.answer c.in_err-arrays.ensures.answer)

pub image-requires-clause-program : goal.image-requires-clause-program
image-requires-clause-program c =
    c.in_ok-resolver.ensures.resolver ∙ c.in_ok-program.ensures.program ∙ ap (λ z. z ++ c.args.files.now) c.requires.boot

pub image-requires-clause-count : goal.image-requires-clause-count
image-requires-clause-count c = not_refused _ _ c.in_ok-arrays.ensures.answer

pub image-requires-clause-declared : goal.image-requires-clause-declared
image-requires-clause-declared c = none_wrong c.in_ok-program.program 34 c.args.files.now c.in_ok-resolver.ensures.answer

pub image-requires-clause-start : goal.image-requires-clause-start
image-requires-clause-start c = main_within c.args.files.now c.args.main.now c.in_ok-start.start c.in_ok-start.ensures.found

pub returns-clause-answer : goal.returns-clause-answer
unfolding rule_refusals
returns-clause-answer c =
    let files : List ClassFile = c.args.files.now in
    let program = c.in_ok-program.ensures.program ∙ ap (λ z. z ++ files) c.requires.boot in
    let none = subst (λ z. name_refusals z files ≡ []) c.requires.boot c.in_ok-program.ensures.answer in
    let above = subst (λ z. above_refusals z 34 files ≡ []) program c.in_ok-ranks.ensures.answer in
    let members = subst (λ z. member_refusals z 34 files ≡ []) program c.in_ok-resolver.ensures.answer in
    five_none _ _ _ _ _ none above members c.in_ok-start.ensures.answer c.in_ok-arrays.ensures.answer

pub returns-clause-image : goal.returns-clause-image
returns-clause-image c =
    let files : List ClassFile = c.args.files.now in
    c.in_ok-image.ensures ∙ sym (ap (λ o. image_of (classes_of files) (array_types files) (literals files) (from no_start (λ x. x) o)) c.in_ok-start.ensures.found)

pub returns-clause-ranked : goal.returns-clause-ranked
returns-clause-ranked c =
    let program = c.in_ok-program.ensures.program ∙ ap (λ z. z ++ c.args.files.now) c.requires.boot in
    (c.in_ok-ranks.ranks, subst (λ z. IsRanked (above_rows z) c.in_ok-ranks.ranks) program c.in_ok-ranks.ensures.ranked)

-- memory ran out
pub returns-in_err-image-clause-answer : goal.returns-in_err-image-clause-answer
returns-in_err-image-clause-answer c =
    let p = err_from_is_err_and c.from_residual-in_err-image.result c.from_residual-in_err-image.ensures.1 in
    rw (p.1, p.2) tt
