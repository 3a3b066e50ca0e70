use Rattle.std.proofs.Common.{◌≡◌, ◌-◌, ◌++◌, map}
use Rattle.program_image.specs.Selection.{over_class, supers}
use Rattle.step_serve.proofs.Chains.{walk_next}
use Rattle.step_serve.proofs.blanks.supers.Given as goal

abbrev pub invariant-loop : goal.invariant-loop
invariant-loop l =
    l.list ++ walk_next (l.most - l.counter) (map over_class l.image.classes) l.next
    ≡ supers l.image.classes l.fn.class
