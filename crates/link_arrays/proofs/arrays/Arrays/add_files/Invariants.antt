use Rattle.std.proofs.Common.{◌≡◌, drop}
use Rattle.std.specs.List.{flat_map}
use Rattle.program_image.specs.Signatures.{same_desc}
use Rattle.link_arrays.specs.Arrays.{file_types}
use Rattle.link_arrays.specs.Counting.{AreSoFar}
use Rattle.link_arrays.specs.Seen.{with_items}
use Rattle.link_arrays.proofs.arrays.Arrays.add_files.Given as goal

abbrev pub invariant-loop-i : goal.invariant-loop-i
invariant-loop-i l = record {
  left : with_items same_desc l.initial.self (flat_map file_types l.files) ≡ with_items same_desc l.self (flat_map file_types (drop l.i l.files));
  so_far : AreSoFar l.declared l.self;
}
