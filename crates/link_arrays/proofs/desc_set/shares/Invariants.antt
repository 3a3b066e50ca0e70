use Rattle.std.proofs.Common.{◌≡◌, map, take}
use Rattle.link_arrays.specs.Sets.{share_of}
use Rattle.link_arrays.proofs.desc_set.shares.Given as goal

abbrev pub invariant-loop-elem : goal.invariant-loop-elem
invariant-loop-elem l = l.shares ≡ map share_of (take l.elem-index l.elems)
