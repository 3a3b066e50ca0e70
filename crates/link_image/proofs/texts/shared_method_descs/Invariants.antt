use Rattle.std.proofs.Common.{◌≡◌, map, take}
use Rattle.link_image.specs.Kept.Texts.{method_desc_in}
use Rattle.link_image.proofs.texts.shared_method_descs.Given as goal

abbrev pub invariant-loop-place : goal.invariant-loop-place
invariant-loop-place l = l.method_descs ≡ map (method_desc_in l.pool) (take l.place l.indices)
