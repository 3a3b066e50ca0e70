use Rattle.std.proofs.Common.{◌≡◌, ◌++◌, length, reverse}
use Rattle.std.specs.List.{flat_map}
use Rattle.program_image.specs.Selection.{supers}
use Rattle.step_serve.specs.Blank.{own_row}
use Rattle.step_serve.proofs.blanks.Blanks.zeros.Given as goal

abbrev pub invariant-loop-top : goal.invariant-loop-top
invariant-loop-top l =
    l.zeros ++ flat_map (own_row l.self) (reverse l.supers)
    ≡ flat_map (own_row l.self) (reverse (supers l.image.classes l.fn.class))

abbrev pub decreases-loop-top : goal.decreases-loop-top
decreases-loop-top l = length l.supers
