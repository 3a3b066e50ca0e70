use Rattle.std.proofs.Common.{◌≡◌, take, slice_index}
use Rattle.std.specs.List.{sum_by}
use Rattle.link_image.specs.Kept.Bases.{AreKnown}
use Rattle.link_image.proofs.BaseLaws.{through}
use Rattle.link_image.proofs.bases.+base.Given as goal

abbrev pub decreases-base : goal.decreases-base
decreases-base l = slice_index l.ranks.now l.c

abbrev pub invariant-loop-k : goal.invariant-loop-k
invariant-loop-k l = record {
  sum : l.sum ≡ sum_by (through l.program) (take l.k-index l.k-items);
  known : AreKnown l.program l.known;
}
