-- How many frames can lie above one.
use Rattle.std.specs.Prelude.{ℕ, ◌+◌, Bool, true, false, if◌then◌else◌, List, [], ◌∷◌, Option}
use Rattle.flow_types.specs.TypeRank.{type_rank}
use Rattle.flow_types.specs.declared.flow_type.FlowType.{FlowType}
use Rattle.flow_types.specs.declared.flow_frame.FlowFrame.{FlowFrame}

-- the sum over the types of a list
abbrev pub types_rank : List (Option ℕ) → List FlowType → ℕ
types_rank supers [] = 0
types_rank supers (t ∷ ts) = type_rank supers t + types_rank supers ts

-- a frame that isn't fresh lies below the one that is
abbrev pub old_rank : Bool → ℕ
old_rank true = 0
old_rank false = 1

-- how many frames can lie above one
unfoldable pub frame_rank : List (Option ℕ) → FlowFrame → ℕ
frame_rank supers f =
    if f.clash then 0
    else 1 + (types_rank supers f.locals + (types_rank supers f.stack + old_rank f.fresh))
