use Rattle.std.proofs.Common.{◌∙◌, arith}
use Rattle.link_image.specs.Kept.Texts.{field_desc_in}
use Rattle.link_image.proofs.BackLaws.{made_there}
use Rattle.link_image.proofs.texts.shared_descs.Goals as goal

pub desc-requires : goal.desc-requires
desc-requires c = made_there (field_desc_in c.args.pool.now) c.args.indices.now c.args.backs.now c.as_slice.result.now c.loop-place.place c.requires (c.as_slice.ensures ∙ c.loop-place.invariant) (omega arith)
