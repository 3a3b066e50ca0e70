-- What a list ends as, where a `&mut` to one of its items is returned.
use Rattle.std.specs.Prelude.{ℕ, List, Option, slice_set}
use Rattle.std.specs.Borrow.{LendsIf, Fml, RattleType, MutBor}
use Rattle.jvm_base.specs.contracts.list.List.{the_row}

-- once the borrow ends, the item at i is the last value written through it; at None the list stays
abbrev pub lends_item : (T : RattleType) → MutBor (List T.Denot) → ℕ → Option (MutBor T.Denot) → Fml
lends_item T s i r = LendsIf (the_row T) T s r (slice_set s.now i) s.now
