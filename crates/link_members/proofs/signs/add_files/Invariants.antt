use Rattle.std.proofs.Common.{◌≡◌, drop}
use Rattle.std.specs.List.{flat_map}
use Rattle.class_names.specs.Known.{add_names}
use Rattle.link_members.specs.Signs.{file_texts}
use Rattle.link_members.proofs.signs.add_files.Given as goal

abbrev pub invariant-loop-file : goal.invariant-loop-file
invariant-loop-file l =
    add_names l.names (flat_map file_texts (drop l.file-index l.files)) ≡ add_names l.initial.names (flat_map file_texts l.files)
