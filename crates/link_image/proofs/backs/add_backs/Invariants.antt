use Rattle.link_image.specs.Kept.Backs.{AreSeen}
use Rattle.link_image.proofs.BackLaws.{AreFound}
use Rattle.link_image.proofs.backs.add_backs.Given as goal

abbrev pub invariant-loop-place : goal.invariant-loop-place
invariant-loop-place l = record {
  found : AreFound l.indices l.backs l.place;
  seen : AreSeen l.seen l.indices l.place;
}
