use Rattle.std.proofs.Common.{◌≡◌, ◌++◌, drop, map}
use Rattle.class_names.specs.Classes.{codes_of}
use Rattle.link_rules.specs.Numbers.{numbered}
use Rattle.link_rules.specs.Decoding.{undecoded_file}
use Rattle.link_rules.proofs.decoding.decode_files.Given as goal

abbrev pub invariant-loop-file : goal.invariant-loop-file
invariant-loop-file l = record {
  number : l.number ≡ l.file-index;
  answer : numbered undecoded_file 0 l.files ≡ numbered undecoded_file l.number (drop l.file-index l.files);
  codes : map codes_of l.files ≡ l.codes ++ map codes_of (drop l.file-index l.files);
}
