use Rattle.std.proofs.Common.{◌≡◌, ◌++◌, drop, take, map}
use Rattle.class_names.specs.Classes.{this_name}
use Rattle.link_rules.specs.Classes.{same_class}
use Rattle.link_rules.proofs.classes.add_files.Given as goal

abbrev pub invariant-loop-file : goal.invariant-loop-file
invariant-loop-file l = record {
  named : l.names ≡ l.initial.names ++ map this_name (take l.file-index l.files);
  answer : same_class l.initial.names l.files ≡ same_class l.names (drop l.file-index l.files);
}
