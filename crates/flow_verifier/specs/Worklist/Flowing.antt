-- What one flow does to the frames and to the list of those that rose.
use Rattle.std.specs.Prelude.{◌≡◌, ℕ, Bool, true, false, ◌⊎◌, length, List, [], ◌∷◌, ◌++◌, slice_set, Option, Some, None}
use Rattle.flow_types.specs.Frames.{clash_frame, frame_joined}
use Rattle.flow_types.specs.declared.flow_frame.FlowFrame.{FlowFrame}
use Rattle.flow_verifier.specs.Worklist.Catching.{without_operands}
use Rattle.flow_verifier.specs.Worklist.Going.{In}
use Rattle.flow_verifier.specs.Typing.{frame_at, FitsPlace}

-- the frame of a place, if it has one, once another flows there
abbrev pub merged : List (Option ℕ) → Option FlowFrame → FlowFrame → FlowFrame
merged supers None g = g
merged supers (Some f) g = frame_joined supers f g

-- a frame has as many locals as that of a place, if neither is the clash frame
abbrev pub IsAlike : FlowFrame → Option FlowFrame → Type 0
IsAlike g None = Unit {0}
IsAlike g (Some f) = f.clash ≡ false → g.clash ≡ false → length f.locals ≡ length g.locals

-- a frame has flowed to a place, of which the frame rose or took it already
abbrev pub Rose :
    List (Option ℕ) → FlowFrame → (before after : Option FlowFrame) → Bool → Type 0
Rose supers g before after true =
    (after ≡ Some (merged supers before g)) × (FitsPlace supers g before → ⊥)
Rose supers g before after false = (after ≡ before) × FitsPlace supers g before

-- a frame has flowed to a place: its frame takes it and stays, or rises, and is put on the list
-- where it doesn't wait there already
pub data Flows (supers : List (Option ℕ)) (g : FlowFrame) (to : ℕ)
    (fs : List (Option FlowFrame)) (todo : List ℕ)
    (gs : List (Option FlowFrame)) (more : List ℕ) : Type 0 where
  stays :
      FitsPlace supers g (frame_at fs to) →
      gs ≡ fs → more ≡ todo → Flows supers g to fs todo gs more
  rises :
      (FitsPlace supers g (frame_at fs to) → ⊥) →
      gs ≡ slice_set fs to (Some (merged supers (frame_at fs to) g)) →
      more ≡ todo ++ (to ∷ []) → Flows supers g to fs todo gs more
  waits :
      (FitsPlace supers g (frame_at fs to) → ⊥) →
      gs ≡ slice_set fs to (Some (merged supers (frame_at fs to) g)) →
      more ≡ todo → In to todo → Flows supers g to fs todo gs more

-- what a range has caught once it catches a frame more; where no handler covers it, the clash frame
-- may stand for it
abbrev pub IsMore : List (Option ℕ) → Bool → Option FlowFrame → FlowFrame → FlowFrame → Type 0
IsMore supers covered before f c =
    (c ≡ merged supers before (without_operands f)) ⊎ ((covered ≡ false) × (c ≡ clash_frame))
