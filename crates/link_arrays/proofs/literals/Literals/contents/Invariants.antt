use Rattle.std.proofs.Common.{◌≡◌, ◌++◌, drop, map}
use Rattle.link_arrays.proofs.literals.Literals.contents.Given as goal

abbrev pub invariant-loop-content : goal.invariant-loop-content
invariant-loop-content l = record {
  all : map (λ x. x.now) l.content-items ≡ l.self;
  left : map (λ x. x.now) l.content-items ≡ l.contents ++ map (λ x. x.now) (drop l.content-index l.content-items);
}
