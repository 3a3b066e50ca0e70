use Rattle.std.proofs.Common.{◌≡◌, ◌++◌, drop}
use Rattle.link_rules.specs.Numbers.{map_from}
use Rattle.link_image.specs.Fields.{base_of}
use Rattle.link_image.specs.Kept.Bases.{AreKnown}
use Rattle.link_image.proofs.bases.add_bases.Given as goal

abbrev pub invariant-loop-c : goal.invariant-loop-c
invariant-loop-c l = record {
  known : AreKnown l.program l.known;
  bases : l.initial.all ++ map_from (λ c f. base_of l.program c) 0 l.program ≡ l.all ++ map_from (λ c f. base_of l.program c) l.c (drop l.c l.program);
}
