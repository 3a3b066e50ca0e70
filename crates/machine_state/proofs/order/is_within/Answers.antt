use Rattle.std.proofs.Common.{◌≡◌, ◌≤◌, ◌-◌, ◌∙◌, Some, ap, sym, arith}
use Rattle.std.specs.Prelude.{get_or}
use Rattle.std.proofs.lemmas.Bool.Decides.{nat_tests}
use Rattle.std.proofs.lemmas.Option.{slice_get-get_or}
use Rattle.machine_state.specs.declared.order.Row.{Row}
use Rattle.machine_state.proofs.OrderLaws.{within}
use Rattle.machine_state.proofs.order.is_within.Goals as goal

pub returns-then-place-eq0 : goal.returns-then-place-eq0
returns-then-place-eq0 c e =
    let r : Row = c.in-Some.row.now in
    let l = c.in-Some.ensures.lookup.3 in
    let z : c.args.place ≡ 0 = grind (arith, nat_tests) in
    within c.args.rows.now c.args.at c.args.place r r c.requires (slice_get-get_or c.args.rows.now c.args.place r l.0 ∙ ap Some (sym (l.1 r))) c.if-at-row.true (λ more. absurd (omega arith))

pub returns-else-place-eq0 : goal.returns-else-place-eq0
returns-else-place-eq0 c e =
    let none : Row = record { choice = record { thread = 0; pick = 0; name = record { node = 0; class = 0; index = 0 } }; until = 0 } in
    let before : (get_or c.args.rows.now (c.args.place - 1) none).until ≤ c.args.at = grind (arith, nat_tests) in
    let r : Row = c.in-Some.row.now in
    let l = c.in-Some.ensures.lookup.3 in
    within c.args.rows.now c.args.at c.args.place r none c.requires (slice_get-get_or c.args.rows.now c.args.place r l.0 ∙ ap Some (sym (l.1 r))) c.if-at-row.true
    (λ more. before)
