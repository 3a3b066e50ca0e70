use Rattle.hierarchy.specs.Steps.Search.{Spread}
use Rattle.hierarchy.proofs.upwards.spread.Given as goal

abbrev pub invariant-loop-m : goal.invariant-loop-m
invariant-loop-m l = Spread l.row l.c l.initial.seen l.initial.todo l.seen l.todo l.m-index
