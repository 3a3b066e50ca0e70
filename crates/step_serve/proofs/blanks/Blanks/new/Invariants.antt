use Rattle.std.proofs.Common.{◌≡◌, map, take}
use Rattle.step_serve.specs.Blank.{own_zeros}
use Rattle.step_serve.proofs.blanks.Blanks.new.Given as goal

abbrev pub invariant-loop-class : goal.invariant-loop-class
invariant-loop-class l = l.rows ≡ map (λ k. own_zeros k.fields) (take l.class l.image.classes)
