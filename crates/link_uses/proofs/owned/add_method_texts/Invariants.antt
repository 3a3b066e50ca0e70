use Rattle.std.proofs.Common.{◌≡◌, drop}
use Rattle.std.specs.List.{flat_map}
use Rattle.class_names.specs.Known.{add_names}
use Rattle.link_uses.specs.Kept.{AreAdded}
use Rattle.link_uses.specs.Owned.{method_signature, signature_texts}
use Rattle.link_uses.proofs.owned.add_method_texts.Given as goal

abbrev pub invariant-loop-method : goal.invariant-loop-method
invariant-loop-method l = record {
  texts : add_names l.names (flat_map (λ x. signature_texts (method_signature l.file x)) (drop l.method-index l.methods)) ≡ add_names l.initial.names (flat_map (λ x. signature_texts (method_signature l.file x)) l.methods);
  added : AreAdded l.names l.pool l.added;
}
