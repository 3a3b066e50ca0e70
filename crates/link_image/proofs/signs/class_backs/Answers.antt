use Rattle.class_format.specs.declared.class.MethodItem.{MethodItem}
use Rattle.class_names.specs.Texts.{text_in}
use Rattle.link_image.specs.Kept.Texts.{method_desc_in}
use Rattle.link_image.proofs.SignLaws.{backs_of}
use Rattle.link_image.proofs.signs.class_backs.Goals as goal

pub returns : goal.returns
returns c = record {
  names = backs_of (text_in c.args.file.now.pool) (λ (m : MethodItem). m.name) c.args.file.now.methods _ _ c.in_ok-names.names c.in_ok-backs.field-0 c.in_ok-backs.ensures c.as_slice.ensures c.in_ok-names.ensures c.as_slice-methods.ensures;
  descs = backs_of (method_desc_in c.args.file.now.pool) (λ (m : MethodItem). m.desc) c.args.file.now.methods _ _ c.in_ok-descs.descs c.in_ok-backs-2.field-0 c.in_ok-backs-2.ensures c.as_slice-2.ensures c.in_ok-descs.ensures c.as_slice-methods.ensures;
}
