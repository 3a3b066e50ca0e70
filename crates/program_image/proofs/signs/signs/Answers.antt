use Rattle.std.proofs.Common.{◌≡◌, ◌∙◌, sym, ap, arith, Some, length, slice_get}
use Rattle.std.proofs.lemmas.Option.{slice_get-get_or}
use Rattle.program_image.proofs.Signatures.{signs_none, signs_step, signs_all}
use Rattle.program_image.proofs.signs.signs.Goals as goal

pub loop-method-init : goal.loop-method-init
loop-method-init c = signs_none c.args.methods.now c.new-names.result c.new-descs.result c.new-signs.result c.new-signs.ensures

pub loop-method-preserved : goal.loop-method-preserved
loop-method-preserved c =
    let ms = c.args.methods.now in
    let i = c.loop-method.method-index in
    let m = c.method-item.result in
    let at : slice_get ms i ≡ Some m = slice_get-get_or ms i m c.loop-method-test.true ∙ ap Some (sym c.method-item.is) in
    signs_step ms c.loop-method.names c.number.new.self c.loop-method.descs c.number-in-loop-method.new.self c.loop-method.signs c.push.new.self i m c.get.result.now c.get-in-loop-method.result.now c.in_ok-name.name c.in_ok-desc.desc at c.get.ensures c.get-in-loop-method.ensures c.in_ok-name.ensures.items c.in_ok-desc.ensures.items c.in_ok-push.ensures.ok c.in_ok-name.ensures.number c.in_ok-desc.ensures.number c.loop-method.invariant

pub returns : goal.returns
returns c = let n : length c.args.methods.now ≡ c.loop-method.method-index = (let a = c.loop-method-test.false in let b = c.loop-method.auto.method-index-end in omega arith) in signs_all c.args.methods.now c.loop-method.names c.loop-method.descs c.loop-method.signs c.loop-method.method-index n c.loop-method.invariant
