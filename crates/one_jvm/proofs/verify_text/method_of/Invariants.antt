use Rattle.std.proofs.Common.{◌≡◌, ◌+◌, length, take}
use Rattle.std.specs.List.{flat_map}
use Rattle.one_jvm.specs.Outcomes.{method_texts}
use Rattle.one_jvm.proofs.verify_text.method_of.Given as goal

abbrev pub invariant-loop-class : goal.invariant-loop-class
invariant-loop-class l = l.number ≡ length (flat_map method_texts (take l.class-index l.classes)) + l.rest
