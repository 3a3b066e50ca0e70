use Rattle.std.proofs.Common.{◌≡◌, map, take}
use Rattle.link_arrays.specs.ArrayClasses.{array_class}
use Rattle.link_arrays.proofs.array_class.array_classes.Given as goal

abbrev pub invariant-loop-array : goal.invariant-loop-array
invariant-loop-array l = l.classes ≡ map (array_class l.program l.arrays) (take l.array-index l.arrays)
