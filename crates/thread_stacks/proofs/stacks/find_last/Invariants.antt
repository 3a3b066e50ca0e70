use Rattle.std.proofs.Common.{◌≡◌, ◌-◌, false, drop, length}
use Rattle.thread_stacks.specs.Stacks.{has_one}
use Rattle.thread_stacks.proofs.stacks.find_last.Given as goal

abbrev pub invariant-loop-newer : goal.invariant-loop-newer
invariant-loop-newer l = has_one l.thread (drop (length l.segments - l.newer) l.segments) ≡ false
