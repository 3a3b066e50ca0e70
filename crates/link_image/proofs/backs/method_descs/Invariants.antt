use Rattle.std.proofs.Common.{◌≡◌, map, take}
use Rattle.class_format.specs.declared.class.MethodItem.{MethodItem}
use Rattle.link_image.proofs.backs.method_descs.Given as goal

abbrev pub invariant-loop-method : goal.invariant-loop-method
invariant-loop-method l = l.indices ≡ map (λ (x : MethodItem). x.desc) (take l.method-index l.methods)
