use Rattle.std.proofs.Common.{◌≡◌, false, take}
use Rattle.std.specs.List.{list_any}
use Rattle.program_reads.specs.Finding.{is_constant_at}
use Rattle.program_reads.proofs.constants.has_constant.Given as goal

abbrev pub invariant-loop-field : goal.invariant-loop-field
invariant-loop-field l = list_any (is_constant_at l.place) (take l.field-index l.fields) ≡ false
