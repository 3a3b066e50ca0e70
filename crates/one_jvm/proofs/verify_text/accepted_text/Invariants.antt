use Rattle.std.proofs.Common.{◌≡◌, ◌*◌, ◌≤◌, take}
use Rattle.std.specs.List.{sum_by}
use Rattle.one_jvm.specs.Outcomes.{coded_methods}
use Rattle.one_jvm.proofs.verify_text.accepted_text.Given as goal

-- so many methods of the classes before this one have code
abbrev pub invariant-loop-class : goal.invariant-loop-class
invariant-loop-class l = (l.methods ≡ sum_by coded_methods (take l.class-index l.classes)) × (l.methods ≤ l.class-index * 65535)
