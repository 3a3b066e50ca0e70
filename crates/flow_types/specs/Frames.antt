-- The order of frames.
use Rattle.std.specs.Prelude.{◌≡◌, ℕ, ◌≤◌, Bool, true, false, not, ◌&&◌, ◌||◌, if◌then◌else◌, List, [], length, Option, Some, None}
use Rattle.std.specs.Bool.{MatchBool}
use Rattle.flow_types.specs.declared.flow_type.FlowType.{FlowType}
use Rattle.flow_types.specs.TypeLists.{types_fit, types_joined, stacks_joined, AreTypes, AreOperands}
use Rattle.flow_types.specs.declared.flow_frame.FlowFrame.{FlowFrame}

-- the one frame that comes from stacks that don't meet; it has no types
abbrev pub clash_frame : FlowFrame
clash_frame = record { locals = []; stack = []; fresh = false; clash = true }

-- a frame of these types
abbrev pub frame_of : List FlowType → List FlowType → Bool → FlowFrame
frame_of locals stack fresh =
    record { locals = locals; stack = stack; fresh = fresh; clash = false }

-- locals and stack fit type by type, and one that isn't fresh fits one that is
abbrev pub parts_fit : List (Option ℕ) → FlowFrame → FlowFrame → Bool
parts_fit supers low high =
    types_fit supers low.locals high.locals
    && (types_fit supers low.stack high.stack && (not low.fresh || high.fresh))

-- a frame may flow to where another one stands; the clash frame lies above every frame
unfoldable pub frame_fits : List (Option ℕ) → FlowFrame → FlowFrame → Bool
frame_fits supers low high =
    if high.clash then true else (if low.clash then false else parts_fit supers low high)

-- of two frames of which the least stack that both fit is known, or that there is none
abbrev pub parts_joined :
    List (Option ℕ) → FlowFrame → FlowFrame → Option (List FlowType) → FlowFrame
parts_joined supers a b None = clash_frame
parts_joined supers a b (Some stack) =
    frame_of (types_joined supers a.locals b.locals) stack (a.fresh || b.fresh)

-- the least frame that both fit
unfoldable pub frame_joined : List (Option ℕ) → FlowFrame → FlowFrame → FlowFrame
frame_joined supers a b =
    if a.clash then clash_frame
    else (if b.clash then clash_frame
    else parts_joined supers a b (stacks_joined supers a.stack b.stack))

-- how many locals a method has, and how deep a stack of its frames may be
pub record Room : Type 0 where
  pub locals : ℕ
  pub stack : ℕ

-- a frame of that room, of types that stand where they may
pub record IsOpen (supers : List (Option ℕ)) (room : Room) (f : FlowFrame) : Type 0 where
  pub count : length f.locals ≡ room.locals
  pub deep : length f.stack ≤ room.stack
  pub locals : AreTypes supers f.locals
  pub stack : AreTypes supers f.stack
  pub operands : AreOperands f.stack

-- a frame of a method: the one clash frame, or one with its number of locals
unfoldable pub IsFrame : List (Option ℕ) → Room → FlowFrame → Type 0
IsFrame supers room f = MatchBool f.clash (f ≡ clash_frame) (IsOpen supers room f)

-- a frame lies above two frames of a method, and below each other frame of one that does
pub record IsJoin (supers : List (Option ℕ)) (a b f : FlowFrame) : Type 0 where
  pub first : (room : Room) →
      IsFrame supers room a → IsFrame supers room b → frame_fits supers a f ≡ true
  pub second : (room : Room) →
      IsFrame supers room a → IsFrame supers room b → frame_fits supers b f ≡ true
  pub least : (room : Room) (u : FlowFrame) → IsFrame supers room u →
      frame_fits supers a u ≡ true → frame_fits supers b u ≡ true → frame_fits supers f u ≡ true
