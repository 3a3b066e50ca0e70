use Rattle.std.proofs.Common.{◌≡◌, take, length, min}
use Rattle.jvm_base.specs.Text.{text_bytes}
use Rattle.jvm_base.proofs.units.Units.byte_len.Given as goal

abbrev pub invariant-loop-unit : goal.invariant-loop-unit
invariant-loop-unit l = l.len ≡ min (length (text_bytes (take l.unit-index l.unit-items))) 18446744073709551615
