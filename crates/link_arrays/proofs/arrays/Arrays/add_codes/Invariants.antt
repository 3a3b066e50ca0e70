use Rattle.std.proofs.Common.{◌≡◌, drop}
use Rattle.std.specs.List.{flat_map}
use Rattle.program_image.specs.Signatures.{same_desc}
use Rattle.link_arrays.specs.Arrays.{code_types}
use Rattle.link_arrays.specs.Counting.{AreSoFar}
use Rattle.link_arrays.specs.Marks.{AreAdded}
use Rattle.link_arrays.specs.Seen.{with_items}
use Rattle.link_arrays.proofs.arrays.Arrays.add_codes.Given as goal

abbrev pub invariant-loop-code : goal.invariant-loop-code
invariant-loop-code l = record {
  left : with_items same_desc l.initial.self (flat_map (code_types l.pool) l.codes) ≡ with_items same_desc l.self (flat_map (code_types l.pool) (drop l.code-index l.codes));
  so_far : AreSoFar l.declared l.self;
  added : AreAdded l.pool l.keys l.self;
}
