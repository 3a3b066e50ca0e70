-- What instructions throw to handlers, range by range.
use Rattle.std.specs.Prelude.{◌≡◌, ℕ, ◌<◌, true, if◌then◌else◌, List, [], length, slice_get, Option, Some, None}
use Rattle.std.proofs.Math.ListN.{replicate}
use Rattle.program_image.specs.Program.{Program}
use Rattle.flow_types.specs.Tree.{superclasses}
use Rattle.flow_types.specs.Frames.{clash_frame, frame_of, IsFrame}
use Rattle.flow_types.specs.declared.flow_frame.FlowFrame.{FlowFrame}
use Rattle.flow_verifier.specs.declared.method.Handler.{Handler}
use Rattle.flow_verifier.specs.declared.method.Method.{Method}
use Rattle.flow_verifier.specs.declared.catches.Catches.{Catches}
use Rattle.flow_verifier.specs.Methods.{ops_of, room_of}
use Rattle.flow_verifier.specs.Given.{given, catching}
use Rattle.flow_verifier.specs.Typing.{frame_at, FitsPlace, IsClosed}
use Rattle.flow_verifier.specs.Worklist.Leading.{ways_caught}
use Rattle.flow_verifier.specs.Worklist.Ranges.{covers_place, range_at, AreRanges}

-- a frame's locals below no operand; the clash frame for itself
abbrev pub without_operands : FlowFrame → FlowFrame
without_operands f = if f.clash then clash_frame else frame_of f.locals [] f.fresh

-- those of a method's handlers that cover the instruction at a place
pub record AreCovering (p : Program) (m : Method) (at : ℕ) (hs : List Handler) : Type 0 where
  pub own : (k : ℕ) (h : Handler) → slice_get hs k ≡ Some h →
      (covers_place (ops_of p m.number) at h ≡ true)
      × ((q : ℕ) × (slice_get m.handlers q ≡ Some h))
  pub all : (q : ℕ) (h : Handler) → slice_get m.handlers q ≡ Some h →
      covers_place (ops_of p m.number) at h ≡ true → (k : ℕ) × (slice_get hs k ≡ Some h)
  pub count : length hs ≡ ways_caught p m at

-- of the first n handlers each that covers a place takes what an instruction there throws from c
abbrev pub TakenAt : Program → Method → ℕ → FlowFrame → ℕ → List (Option FlowFrame) → Type 0
TakenAt p m at c n fs = (k : ℕ) (h : Handler) →
    k < n → slice_get m.handlers k ≡ Some h → covers_place (ops_of p m.number) at h ≡ true →
    FitsPlace (superclasses p) (given p m at c (catching h)) (frame_at fs h.to)

-- the handlers of each range take what it has caught
abbrev pub AreTaken : Program → Method → Catches → List (Option FlowFrame) → Type 0
AreTaken p m s fs = (i : ℕ) (c : FlowFrame) →
    frame_at s.frames (range_at s.ranges i) ≡ Some c → TakenAt p m i c (length m.handlers) fs

-- and those of each closed assignment do
pub record IsCatching (p : Program) (m : Method)
    (fs : List (Option FlowFrame)) (s : Catches) : Type 0 where
  pub ranges : AreRanges p m s.ranges
  pub long : length s.frames ≡ s.ranges.count
  pub frames : (r : ℕ) (c : FlowFrame) → frame_at s.frames r ≡ Some c →
      IsFrame (superclasses p) (room_of m) c × (without_operands c ≡ c)
  pub taken : AreTaken p m s fs
  pub below : (gs : List (Option FlowFrame)) → IsClosed p m gs → AreTaken p m s gs

-- no range has caught anything
pub record IsUncaught (p : Program) (m : Method) (s : Catches) : Type 0 where
  pub ranges : AreRanges p m s.ranges
  pub frames : s.frames ≡ replicate s.ranges.count None
