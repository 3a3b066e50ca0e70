use Rattle.std.proofs.Common.{◌≡◌, ◌++◌, drop}
use Rattle.shared_state.specs.First.{own_statics}
use Rattle.shared_state.proofs.start.own_statics.Given as goal

abbrev pub invariant-loop-field : goal.invariant-loop-field
invariant-loop-field l = l.values ++ own_statics (drop l.field-index l.fields) ≡ own_statics l.fields
