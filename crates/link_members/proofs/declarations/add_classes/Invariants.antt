use Rattle.std.proofs.Common.{◌≡◌, ◌++◌, ◌+◌, drop}
use Rattle.link_rules.specs.Numbers.{numbered}
use Rattle.link_members.specs.Declarations.{methods_at, signed_in}
use Rattle.link_members.specs.Signs.{Sign}
use Rattle.link_members.proofs.declarations.add_classes.Given as goal

abbrev pub invariant-loop-file : goal.invariant-loop-file
invariant-loop-file l = record {
  number : l.number ≡ l.first + l.file-index;
  left : (k : Sign) → methods_at l.methods.entries k ++ numbered (signed_in l.names k) l.number (drop l.file-index l.files) ≡ methods_at l.initial.methods.entries k ++ numbered (signed_in l.names k) l.first l.files;
}
