use Rattle.std.proofs.Common.{◌≡◌, ◌+◌, drop}
use Rattle.class_link.specs.Mains.{main_from}
use Rattle.class_link.proofs.main_class.find_main.Given as goal

abbrev pub invariant-loop-file : goal.invariant-loop-file
invariant-loop-file l = record {
  number : l.number ≡ 34 + l.file-index;
  found : main_from 34 l.main l.files ≡ main_from l.number l.main (drop l.file-index l.files);
}
