use Rattle.std.proofs.Common.{◌≡◌, ℕ, ◌+◌, ◌-◌, ◌++◌, List, length, ap, ◌∙◌, arith}
use Rattle.std.specs.Prelude.{replicate}
use Rattle.machine_state.specs.declared.state.Choice.{Choice}
use Rattle.machine_state.specs.OrderRows.{end_of_rows, spelled}
use Rattle.machine_state.proofs.Results.{on_ok_more}
use Rattle.machine_state.proofs.OrderLaws.{row_count}
use Rattle.machine_state.proofs.order.Order.push_many.Goals as goal

pub add-requires-clause-above : goal.add-requires-clause-above
add-requires-clause-above c =
    let e : end_of_rows 0 c.self.inside.rows ≡ length c.args.self.now = row_count c.self.inside.rows c.args.self.now c.self.invariant c.self.view_is in
    let l : c.len.result ≡ length c.args.self.now = c.len.ensures in
    let u : c.in-Some.until ≡ c.len.result + c.args.count = c.in-Some.ensures.1 in
    omega arith

pub returns-clause-ok : goal.returns-clause-ok
returns-clause-ok c =
    let e : end_of_rows 0 c.self.inside.rows ≡ length c.args.self.now = row_count c.self.inside.rows c.args.self.now c.self.invariant c.self.view_is in
    let l : c.len.result ≡ length c.args.self.now = c.len.ensures in
    let u : c.in-Some.until ≡ c.len.result + c.args.count = c.in-Some.ensures.1 in
    let n : c.in-Some.until - end_of_rows 0 c.self.inside.rows ≡ c.args.count = omega arith in
    on_ok_more c.add.result (λ h. h ∙ ap (λ (k : ℕ). spelled 0 c.self.inside.rows ++ replicate k c.args.choice) n ∙ ap (λ (all : List Choice). all ++ replicate c.args.count c.args.choice) c.self.view_is) c.add.ensures.ok
