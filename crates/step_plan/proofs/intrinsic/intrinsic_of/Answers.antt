use Rattle.std.proofs.Common.{◌≡◌, ◌∙◌, ◌≤◌, sym, ap, length, arith}
use Rattle.std.specs.Prelude.{slice_get, option_map, map}
use Rattle.std.proofs.lemmas.Option.{slice_get-map, slice_get-get_or, slice_get_past}
use Rattle.machine_state.specs.Intrinsics.{intrinsics}
use Rattle.step_plan.specs.declared.intrinsic.Intrinsic.TheVariants.{ValueOf}
use Rattle.step_plan.specs.Texts.{seen}
use Rattle.step_plan.proofs.intrinsic.intrinsic_of.Goals as goal

pub returns-then-number-table : goal.returns-then-number-table
returns-then-number-table c =
    let t = c.as_slice-table.result.now in
    let k = c.args.number in
    ap (option_map seen) (sym (slice_get-get_or t k ValueOf c.if-number-table.true))
    ∙ sym (slice_get-map seen t k)
    ∙ ap (λ xs. slice_get (map seen xs) k) c.as_slice-table.ensures

pub returns-else-number-table : goal.returns-else-number-table
returns-else-number-table c =
    let t = c.as_slice-table.result.now in
    let e : length t ≡ 34 = ap length c.as_slice-table.ensures in
    let l : length intrinsics ≤ c.args.number = (let a = c.if-number-table.false in omega arith) in
    sym (slice_get_past intrinsics c.args.number l)
