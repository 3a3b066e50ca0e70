use Rattle.std.proofs.Common.{◌≡◌, ◌+◌, ◌++◌, drop}
use Rattle.link_rules.specs.Numbers.{map_from}
use Rattle.link_image.specs.Methods.{method_numbers}
use Rattle.link_image.proofs.classes.method_numbers.Given as goal

abbrev pub invariant-loop-method : goal.invariant-loop-method
invariant-loop-method l = record {
  number : l.number ≡ l.first + l._method-index;
  numbers : method_numbers l.first l.file ≡ l.numbers ++ map_from (λ i m. l.first + i) l._method-index (drop l._method-index l.file.methods);
}
