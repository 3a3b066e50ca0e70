use Rattle.std.proofs.Common.{◌≡◌, ◌++◌, replicate}
use Rattle.class_init.proofs.classes.push_all.Given as goal

abbrev pub invariant-loop : goal.invariant-loop
invariant-loop l = l.states.items ≡ l.fn.states.items ++ replicate l.counter l.state
