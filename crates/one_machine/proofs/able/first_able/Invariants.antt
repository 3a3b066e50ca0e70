use Rattle.std.proofs.Common.{◌≡◌}
use Rattle.std.specs.Prelude.{drop}
use Rattle.machine_state.specs.Runs.{some_can}
use Rattle.step_attempt.specs.Going.{state_at}
use Rattle.one_machine.specs.Ready.{IsFirst}
use Rattle.one_machine.proofs.able.first_able.Given as goal

-- one of all can step where one of those to come can; none of those before can
abbrev pub invariant-loop-at : goal.invariant-loop-at
invariant-loop-at l =
    (some_can l.site.image.now (state_at l.site) l.at (drop l.at (state_at l.site).threads) ≡ some_can l.site.image.now (state_at l.site) l.from (drop l.from (state_at l.site).threads))
    × IsFirst l.site.image.now (state_at l.site) l.from l.at
