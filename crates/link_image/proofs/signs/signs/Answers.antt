use Rattle.std.proofs.Common.{◌≡◌, ◌∙◌, ◌-◌, sym, ap, subst, arith, Some, length, map, position, slice_get, slice_index_or}
use Rattle.std.specs.Prelude.{IfSome, option_map}
use Rattle.jvm_base.specs.contracts.desc.MethodDescPartialEq.TheImpl as method_desc
use Rattle.program_image.specs.declared.info.MethodInfo.{MethodInfo}
use Rattle.program_image.specs.Built.Signs.{Sign}
use Rattle.program_image.specs.Signatures.{same_text}
use Rattle.link_image.specs.Kept.Backs.{AreBacks}
use Rattle.std.proofs.lemmas.Option.{slice_get-get_or}
use Rattle.program_image.proofs.Signatures.{signs_step, signs_all}
use Rattle.link_image.proofs.SignLaws.{known_name, known_desc}
use Rattle.link_image.proofs.signs.signs.Goals as goal

pub number-requires : goal.number-requires
number-requires c =
    let ms = c.args.methods.now in
    let i = c.loop-place.place in
    let m = c.index-methods-place.result in
    let at : slice_get ms i ≡ Some m = slice_get-get_or ms i m c.loop-place-test.true ∙ ap Some (sym c.index-methods-place.is) in
    let backs : AreBacks (map (λ (x : MethodInfo). x.name) ms) c.as_slice-name_backs.result.now = subst (λ z. AreBacks (map (λ (x : MethodInfo). x.name) ms) z) (sym c.as_slice-name_backs.ensures) c.requires.names in
    let known = c.name_at-known_name.ensures ∙ ap (λ z. option_map (λ (s : Sign). s.0) (slice_get z (i - slice_index_or c.as_slice-name_backs.result.now i 0))) c.as_slice.ensures in
    subst (λ z. IfSome c.name_at-known_name.result (λ n. position (same_text z) c.loop-place.names ≡ Some n)) (sym c.get.ensures)
    (known_name ms c.loop-place.names c.loop-place.descs c.loop-place.signs i m c.as_slice-name_backs.result.now c.name_at-known_name.result c.loop-place.invariant backs c.loop-place-test.true at known)

pub number-requires-in-loop-place : goal.number-requires-in-loop-place
number-requires-in-loop-place c =
    let ms = c.args.methods.now in
    let i = c.loop-place.place in
    let m = c.index-methods-place.result in
    let at : slice_get ms i ≡ Some m = slice_get-get_or ms i m c.loop-place-test.true ∙ ap Some (sym c.index-methods-place.is) in
    let backs : AreBacks (map (λ (x : MethodInfo). x.desc) ms) c.as_slice-desc_backs.result.now = subst (λ z. AreBacks (map (λ (x : MethodInfo). x.desc) ms) z) (sym c.as_slice-desc_backs.ensures) c.requires.descs in
    let known = c.desc_at-known_desc.ensures ∙ ap (λ z. option_map (λ (s : Sign). s.1) (slice_get z (i - slice_index_or c.as_slice-desc_backs.result.now i 0))) c.as_slice-in-loop-place.ensures in
    subst (λ z. IfSome c.desc_at-known_desc.result (λ n. position (method_desc.eq-value.it z) c.loop-place.descs ≡ Some n)) (sym c.get-in-loop-place.ensures)
    (known_desc ms c.loop-place.names c.loop-place.descs c.loop-place.signs i m c.as_slice-desc_backs.result.now c.desc_at-known_desc.result c.loop-place.invariant backs c.loop-place-test.true at known)

pub loop-place-preserved : goal.loop-place-preserved
loop-place-preserved c =
    let ms = c.args.methods.now in
    let i = c.loop-place.place in
    let m = c.index-methods-place.result in
    let at : slice_get ms i ≡ Some m = slice_get-get_or ms i m c.loop-place-test.true ∙ ap Some (sym c.index-methods-place.is) in
    signs_step ms c.loop-place.names c.number.new.numbers c.loop-place.descs c.number-in-loop-place.new.numbers c.loop-place.signs c.push.new.self i m c.get.result.now c.get-in-loop-place.result.now c.in_ok-name.name c.in_ok-desc.desc at c.get.ensures c.get-in-loop-place.ensures c.in_ok-name.ensures.items c.in_ok-desc.ensures.items c.in_ok-push.ensures.ok c.in_ok-name.ensures.number c.in_ok-desc.ensures.number c.loop-place.invariant

pub returns : goal.returns
returns c = let n : length c.args.methods.now ≡ c.loop-place.place = (let a = c.loop-place-test.false in let b = c.loop-place.auto.place-end in omega arith) in signs_all c.args.methods.now c.loop-place.names c.loop-place.descs c.loop-place.signs c.loop-place.place n c.loop-place.invariant
