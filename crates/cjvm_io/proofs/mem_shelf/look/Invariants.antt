use Rattle.std.proofs.Common.{◌≡◌, map, length, string_bytes}
use Rattle.cjvm_io.specs.Shelves.{bytes_under, named_bytes}
use Rattle.cjvm_io.proofs.mem_shelf.look.Given as goal

abbrev pub invariant-loop-file : goal.invariant-loop-file
invariant-loop-file l = bytes_under (named_bytes l.initial.files) l.name ≡ bytes_under (named_bytes l.rest) l.name

abbrev pub decreases-loop-file : goal.decreases-loop-file
decreases-loop-file l = length l.rest
