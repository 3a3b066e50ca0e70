-- What an image keeps, and what holds of it.
use Rattle.std.specs.Prelude.{◌<◌, ◌≤◌, ◌^◌, length}
use Rattle.program_image.specs.declared.image.Image.TheInside.{Inside}
use Rattle.program_image.specs.Program.{Program}
use Rattle.program_image.specs.Built.Ancestry.{IsAncestry}
use Rattle.program_image.specs.Built.Members.{IsMembers}
use Rattle.program_image.specs.Built.Alike.{AreNames}

-- the program that an image is
abbrev pub program_of : Inside → Program
program_of a = record { classes = a.classes; methods = a.methods; targets = a.targets.entries; literals = a.literals; main = a.main }

-- the tables that are kept are right, and the counts fit
pub record IsBuilt (a : Inside) : Type 0 where
  pub few_classes : length a.classes ≤ 16777216
  pub few_methods : length a.methods < 2 ^ 32
  pub ancestry : IsAncestry a.classes a.ancestry
  pub members : IsMembers a.classes a.methods a.members
  pub names : AreNames a.classes a.names.entries
