use Rattle.std.proofs.Common.{◌≡◌, take, length}
use Rattle.std.specs.List.{list_any}
use Rattle.link_members.specs.Declarations.{is_other, AreMarked}
use Rattle.link_members.proofs.near.mark_all.Given as goal

abbrev pub invariant-loop-k : goal.invariant-loop-k
invariant-loop-k l = record {
  long : length l.near ≡ length l.initial.near;
  marked : AreMarked l.program l.f l.initial.near l.near (λ d. list_any (is_other l.number d) (take l.k-index l.walk));
}
