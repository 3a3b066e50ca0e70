use Rattle.std.proofs.Common.{◌≡◌, map, take}
use Rattle.class_names.specs.Texts.{text_in}
use Rattle.link_image.proofs.texts.shared_names.Given as goal

abbrev pub invariant-loop-place : goal.invariant-loop-place
invariant-loop-place l = l.names ≡ map (text_in l.pool) (take l.place l.indices)
