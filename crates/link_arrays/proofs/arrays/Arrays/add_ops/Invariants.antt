use Rattle.std.proofs.Common.{◌≡◌, drop}
use Rattle.std.specs.List.{flat_map}
use Rattle.program_image.specs.Signatures.{same_desc}
use Rattle.link_arrays.specs.Arrays.{op_types}
use Rattle.link_arrays.specs.Counting.{AreSoFar}
use Rattle.link_arrays.specs.Marks.{AreAdded}
use Rattle.link_arrays.specs.Seen.{with_items}
use Rattle.link_arrays.proofs.arrays.Arrays.add_ops.Given as goal

abbrev pub invariant-loop-placed : goal.invariant-loop-placed
invariant-loop-placed l = record {
  left : with_items same_desc l.initial.self (flat_map (λ p. op_types l.pool p.op) l.ops) ≡ with_items same_desc l.self (flat_map (λ p. op_types l.pool p.op) (drop l.placed-index l.ops));
  so_far : AreSoFar l.declared l.self;
  added : AreAdded l.pool l.keys l.self;
}
