use Rattle.std.proofs.Common.{◌≡◌, drop}
use Rattle.std.specs.List.{flat_map}
use Rattle.class_names.specs.Known.{add_names}
use Rattle.link_uses.specs.Kept.{AreAdded}
use Rattle.link_uses.specs.Owned.{field_signature, signature_texts}
use Rattle.link_uses.proofs.owned.add_field_texts.Given as goal

abbrev pub invariant-loop-field : goal.invariant-loop-field
invariant-loop-field l = record {
  texts : add_names l.names (flat_map (λ x. signature_texts (field_signature l.file x)) (drop l.field-index l.fields)) ≡ add_names l.initial.names (flat_map (λ x. signature_texts (field_signature l.file x)) l.fields);
  added : AreAdded l.names l.pool l.added;
}
