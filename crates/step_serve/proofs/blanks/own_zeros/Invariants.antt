use Rattle.std.proofs.Common.{◌≡◌, ◌++◌, drop}
use Rattle.step_serve.specs.Blank.{own_zeros}
use Rattle.step_serve.proofs.blanks.own_zeros.Given as goal

abbrev pub invariant-loop-field : goal.invariant-loop-field
invariant-loop-field l = l.zeros ++ own_zeros (drop l.field-index l.fields) ≡ own_zeros l.fields
