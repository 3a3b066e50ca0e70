use Rattle.std.proofs.Common.{◌≡◌, ℕ, ◌≤◌}
use Rattle.numbering.specs.Seen.{is_seen}
use Rattle.program_image.specs.Signatures.{same_desc}
use Rattle.link_arrays.specs.Arrays.{array, levels}
use Rattle.link_arrays.specs.Seen.{with_items}
use Rattle.link_arrays.proofs.arrays.Arrays.add_parts.Given as goal

abbrev pub invariant-loop-dims : goal.invariant-loop-dims
invariant-loop-dims l = record {
  whole : with_items same_desc l.initial.self (levels l.desc.dims l.desc.elem) ≡ with_items same_desc l.self (levels l.dims l.desc.elem);
  lower : (m : ℕ) → m ≤ l.dims → is_seen same_desc l.self (array m l.desc.elem) ≡ is_seen same_desc l.initial.self (array m l.desc.elem);
}

abbrev pub decreases-loop-dims : goal.decreases-loop-dims
decreases-loop-dims l = l.dims
