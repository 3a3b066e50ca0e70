use Rattle.std.proofs.Common.{◌≡◌, Some}
use Rattle.one_machine.specs.Gliding.{frame_move, after_moves}
use Rattle.one_machine.proofs.glide.glide_frame.Given as goal

-- so many moves led to the frame
abbrev pub invariant-loop-taken : goal.invariant-loop-taken
invariant-loop-taken l = after_moves (frame_move l.image) l.taken l.fn.frame ≡ Some l.frame
