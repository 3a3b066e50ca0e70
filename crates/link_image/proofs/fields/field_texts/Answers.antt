use Rattle.class_format.specs.declared.class.FieldItem.{FieldItem}
use Rattle.class_names.specs.Texts.{text_in}
use Rattle.link_image.specs.Kept.Texts.{field_desc_in}
use Rattle.link_image.proofs.BackLaws.{made_of}
use Rattle.link_image.proofs.fields.field_texts.Goals as goal

pub returns : goal.returns
returns c = record {
  names = made_of text_in (λ (x : FieldItem). x.name) c.args.file.now.pool c.as_slice-pool.result.now c.args.file.now.fields c.as_slice.result.now c.as_slice-in_names.result.now c.in_ok-in_names.in_names c.in_ok-shared_names.field-0 c.in_ok-shared_names.ensures c.as_slice-pool.ensures c.as_slice-in_names.ensures c.in_ok-in_names.ensures c.as_slice.ensures;
  descs = made_of field_desc_in (λ (x : FieldItem). x.desc) c.args.file.now.pool c.as_slice-pool.result.now c.args.file.now.fields c.as_slice-2.result.now c.as_slice-in_descs.result.now c.in_ok-in_descs.in_descs c.in_ok-shared_descs.field-0 c.in_ok-shared_descs.ensures c.as_slice-pool.ensures c.as_slice-in_descs.ensures c.in_ok-in_descs.ensures c.as_slice-2.ensures;
}
