use Rattle.std.proofs.Common.{◌≡◌, drop}
use Rattle.std.specs.List.{flat_map}
use Rattle.class_names.specs.Known.{add_names}
use Rattle.link_uses.specs.Owned.{class_texts}
use Rattle.link_uses.proofs.owned.add_file_texts.Given as goal

abbrev pub invariant-loop-file : goal.invariant-loop-file
invariant-loop-file l =
    add_names l.names (flat_map class_texts (drop l.file-index l.files)) ≡ add_names l.initial.names (flat_map class_texts l.files)
