use Rattle.machine_state.specs.declared.order.Row.{Row}
use Rattle.machine_state.proofs.Results.{by_result, on_ok_more}
use Rattle.machine_state.proofs.OrderLaws.{grown_last, rising_pushed, spelled_pushed}
use Rattle.machine_state.proofs.order.add.Goals as goal

pub returns-then-is_last-clause-rising : goal.returns-then-is_last-clause-rising
returns-then-is_last-clause-rising c =
    let x : Row = record { choice = c.args.choice; until = c.args.until } in
    let l = c.is_last.ensures c.if-is_last.true in
    let h = grown_last c.args.rows.now x l.0 (rw c.as_slice.ensures at l.1) l.2 c.requires.rising c.requires.above in
    rw c.set.ensures (rw c.len.ensures h.0)

pub returns-then-is_last-clause-ok : goal.returns-then-is_last-clause-ok
returns-then-is_last-clause-ok c =
    let x : Row = record { choice = c.args.choice; until = c.args.until } in
    let l = c.is_last.ensures c.if-is_last.true in
    let h = grown_last c.args.rows.now x l.0 (rw c.as_slice.ensures at l.1) l.2 c.requires.rising c.requires.above in
    rw c.set.ensures (rw c.len.ensures h.1)

pub returns-clause-rising : goal.returns-clause-rising
returns-clause-rising c =
    let x : Row = record { choice = c.args.choice; until = c.args.until } in
    by_result c.push.result c.push.ensures.ok c.push.ensures.err
    (λ e. rw e (rising_pushed 0 c.args.rows.now x c.requires.rising c.requires.above))
    (λ e. rw e c.requires.rising)

pub returns-clause-ok : goal.returns-clause-ok
returns-clause-ok c =
    let x : Row = record { choice = c.args.choice; until = c.args.until } in
    on_ok_more c.push.result (λ e. rw e (spelled_pushed 0 c.args.rows.now x)) c.push.ensures.ok
