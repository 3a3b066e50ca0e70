use Rattle.std.proofs.Common.{◌≡◌}
use Rattle.std.specs.List.{list_any}
use Rattle.std.specs.Prelude.{drop}
use Rattle.one_machine.specs.Going.{is_started}
use Rattle.one_machine.proofs.taking.is_any_started.Given as goal

-- one of all starts a thread where one of those to come does
abbrev pub invariant-loop-effect : goal.invariant-loop-effect
invariant-loop-effect l =
    list_any is_started (drop l.effect-index l.effects) ≡ list_any is_started l.effects
