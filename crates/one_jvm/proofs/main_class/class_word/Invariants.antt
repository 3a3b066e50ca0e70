use Rattle.std.proofs.Common.{◌≡◌}
use Rattle.std.specs.Char.Escape.{encode_utf16}
use Rattle.std.specs.List.{flat_map}
use Rattle.one_jvm.specs.Verdicts.{slashed}
use Rattle.one_jvm.proofs.main_class.class_word.Given as goal

abbrev pub invariant-loop-c : goal.invariant-loop-c
invariant-loop-c l = l.units ≡ flat_map (λ c. encode_utf16 (slashed c)) l.yielded
