use Rattle.machine_state.proofs.Results.{on_ok_more}
use Rattle.shared_state.proofs.MakingLaws.{made_here}
use Rattle.shared_state.proofs.made.make_at.Goals as goal

pub returns-in-Some-clause-ok : goal.returns-in-Some-clause-ok
returns-in-Some-clause-ok c =
    let es = c.args.effects.now in
    let at = c.args.at in
    let heap = c.args.heap.now in
    on_ok_more c.make_one.result (λ same. made_here es at c.in-Some.effect.now c.make_one.new.effect heap c.make_one.new.heap c.in-Some.ensures.value c.requires.new same c.make_one.ensures.mark) c.make_one.ensures.ok
