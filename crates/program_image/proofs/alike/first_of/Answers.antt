use Rattle.std.proofs.Common.{◌≡◌, ◌∙◌, Some, None, length, take, slice_index, sym, ap, arith}
use Rattle.std.specs.Prelude.{if◌then◌else◌}
use Rattle.hierarchy.specs.Walks.{first_some}
use Rattle.program_image.specs.Built.Alike.{with_text}
use Rattle.program_image.proofs.AlikeLaws.{all_items, first_here, none_more}
use Rattle.program_image.proofs.alike.first_of.Goals as goal

pub returns-then-has_text : goal.returns-then-has_text
returns-then-has_text c =
    let x = slice_index c.args.some.now c.loop-class.class-index in
    first_here (with_text c.args.by c.args.classes.now c.args.text.now) c.args.some.now c.loop-class.class-index x c.loop-class-test.true c.loop-class.invariant
    (sym c.has_text.ensures ∙ ap (λ b. if b then Some x else None) c.if-has_text.true)

pub loop-class-preserved : goal.loop-class-preserved
loop-class-preserved c =
    let x = slice_index c.args.some.now c.loop-class.class-index in
    none_more (with_text c.args.by c.args.classes.now c.args.text.now) c.args.some.now c.loop-class.class-index c.loop-class-test.true c.loop-class.invariant
    (sym c.has_text.ensures ∙ ap (λ b. if b then Some x else None) c.if-has_text.false)

pub returns : goal.returns
returns c =
    let ask = with_text c.args.by c.args.classes.now c.args.text.now in
    let end : length c.args.some.now ≡ c.loop-class.class-index = (let a = c.loop-class-test.false in let b = c.loop-class.auto.class-index-end in omega arith) in
    sym (all_items ask c.args.some.now c.loop-class.class-index end c.loop-class.invariant)
