-- The slots of parameters that were read.
use Rattle.std.proofs.Common.{◌≡◌, ◌≤◌, ℕ, List, Option, Some, None}
use Rattle.std.specs.Prelude.{option_and_then}
use Rattle.jvm_base.specs.declared.desc.MethodDesc.{MethodDesc}
use Rattle.jvm_base.specs.Descriptors.{args_slots, method_of}
use Rattle.jvm_base.proofs.Methods.{method_reader}

-- what is read takes at most 255 slots
pub few_slots : (text : Option (List ℕ)) (m : MethodDesc) → option_and_then method_of text ≡ Some m → args_slots m.args ≤ 255
few_slots None m e = absurd cc
few_slots (Some us) m e = (method_reader.takes us m e).0.slots
