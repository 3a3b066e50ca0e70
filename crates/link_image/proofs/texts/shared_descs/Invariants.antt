use Rattle.std.proofs.Common.{◌≡◌, map, take}
use Rattle.link_image.specs.Kept.Texts.{field_desc_in}
use Rattle.link_image.proofs.texts.shared_descs.Given as goal

abbrev pub invariant-loop-place : goal.invariant-loop-place
invariant-loop-place l = l.descs ≡ map (field_desc_in l.pool) (take l.place l.indices)
