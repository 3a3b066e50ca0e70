use Rattle.std.proofs.Common.{◌∙◌, arith}
use Rattle.class_names.specs.Texts.{text_in}
use Rattle.link_image.proofs.BackLaws.{made_there}
use Rattle.link_image.proofs.texts.shared_names.Goals as goal

pub name-requires : goal.name-requires
name-requires c = made_there (text_in c.args.pool.now) c.args.indices.now c.args.backs.now c.as_slice.result.now c.loop-place.place c.requires (c.as_slice.ensures ∙ c.loop-place.invariant) (omega arith)
