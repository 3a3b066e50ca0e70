use Rattle.std.proofs.Common.{◌≡◌, ◌++◌, drop, map}
use Rattle.class_names.specs.Classes.{code_of, codes_of}
use Rattle.link_rules.specs.Numbers.{numbered}
use Rattle.link_rules.specs.Decoding.{undecoded, undecoded_file}
use Rattle.link_rules.proofs.decoding.decode_file.Given as goal

abbrev pub invariant-loop-method : goal.invariant-loop-method
invariant-loop-method l = record {
  number : l.number ≡ l.method-index;
  answer : undecoded_file l.class l.file ≡ numbered (λ k m. undecoded l.class k l.file.pool m.code) l.number (drop l.method-index l.methods);
  codes : codes_of l.file ≡ l.codes ++ map (code_of l.file.pool) (drop l.method-index l.methods);
}
