use Rattle.std.proofs.Common.{◌≡◌, replicate}
use Rattle.jvm_base.specs.Letters.{array_letter}
use Rattle.link_arrays.proofs.desc_text.desc_text.Given as goal

abbrev pub invariant-loop : goal.invariant-loop
invariant-loop l = l.units.items ≡ replicate l.counter array_letter
