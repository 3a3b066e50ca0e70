use Rattle.std.proofs.Common.{◌≡◌, map, take}
use Rattle.program_image.specs.Built.Packages.{package_number}
use Rattle.program_image.proofs.packages.packages.Given as goal

abbrev pub invariant-loop-class : goal.invariant-loop-class
invariant-loop-class l = l.packages ≡ map (package_number l.classes) (take l.class-index l.classes)
