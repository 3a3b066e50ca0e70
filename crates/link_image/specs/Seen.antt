-- What names are looked up in, as contracts see it.
use Rattle.std.specs.Prelude.{◌≡◌, ◌+◌, ◌<◌, ◌≤◌, ◌^◌, length}
use Rattle.link_image.specs.declared.lookup.Lookup.{Lookup}
use Rattle.link_image.specs.Targets.{Known}

-- its lists
abbrev pub seen_lookup : Lookup → Known
seen_lookup l = record { all = l.resolver.now; arrays = l.arrays.now; literals = l.constants.literals.now; infos = l.infos.now }

-- the counts are those of its lists, and fit
pub record IsFit (l : Lookup) : Type 0 where
  pub classes : l.constants.classes ≡ length l.resolver.now + length l.arrays.now
  pub few : l.constants.classes ≤ 16777216
  pub room : l.constants.classes + length l.constants.literals.now < 2 ^ 32
