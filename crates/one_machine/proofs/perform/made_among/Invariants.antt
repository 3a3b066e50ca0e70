use Rattle.std.proofs.Common.{◌≡◌, ◌+◌, ◌≤◌, length}
use Rattle.std.specs.Prelude.{filter, drop}
use Rattle.one_machine.specs.Doing.{is_made}
use Rattle.one_machine.proofs.perform.made_among.Given as goal

-- those counted and those to come are all, and no more are counted than were looked at
abbrev pub invariant-loop-effect : goal.invariant-loop-effect
invariant-loop-effect l = record {
  all : l.count + length (filter is_made (drop l.effect-index l.effects)) ≡ length (filter is_made l.effects);
  few : l.count ≤ l.effect-index;
}
