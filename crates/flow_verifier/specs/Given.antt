-- What an instruction gives to those after it, and the rules that it breaks.
use Rattle.std.specs.Prelude.{ℕ, ◌+◌, ◌==◌, nat_lt, nat_le, Bool, false, not, ◌&&◌, if◌then◌else◌, List, [], ◌∷◌, ◌++◌, length, map, filter, reverse, slice_get, Option, Some, None}
use Rattle.std.specs.List.{list_any}
use Rattle.jvm_base.specs.Words.{from}
use Rattle.code_table.specs.declared.code.Placed.{Placed}
use Rattle.program_image.specs.Program.{Program}
use Rattle.flow_types.specs.Tree.{superclasses, is_below}
use Rattle.flow_types.specs.Frames.{clash_frame, frame_of}
use Rattle.flow_types.specs.declared.flow_type.FlowType.{FlowType}
use Rattle.flow_types.specs.declared.flow_type.FlowType.TheVariants.{Class}
use Rattle.flow_types.specs.declared.flow_frame.FlowFrame.{FlowFrame}
use Rattle.instruction_table.specs.LowestRule.{lowest}
use Rattle.instruction_table.specs.Rows.{row, jumps, falls, throwable}
use Rattle.instruction_table.specs.Working.{site_of, slots, is_empty, row_rules, next}
use Rattle.instruction_table.specs.declared.row.Row.{Row}
use Rattle.instruction_table.specs.declared.work.Work.{Work}
use Rattle.instruction_table.specs.declared.rule.TheConstants as rule
use Rattle.flow_verifier.specs.Methods.{ops_of, place_of}
use Rattle.flow_verifier.specs.declared.method.Handler.{Handler}
use Rattle.flow_verifier.specs.declared.method.Edge.{Edge}
use Rattle.flow_verifier.specs.declared.method.Edge.TheVariants.{Next, Caught}
use Rattle.flow_verifier.specs.declared.method.Method.{Method}

-- a frame at work has its newest operand first
abbrev pub work_of : FlowFrame → Work
work_of f = record { locals = f.locals; stack = reverse f.stack; fresh = f.fresh }

-- a frame at work as a frame, which has its newest operand last
abbrev pub frame_of_work : Work → FlowFrame
frame_of_work w = frame_of w.locals (reverse w.stack) w.fresh

-- ---- rules

-- what a stack breaks that needs more room than there is
abbrev pub depth_rules : ℕ → List FlowType → List ℕ
depth_rules max ts = if nat_lt max (slots ts) then rule.TOO_DEEP ∷ [] else []

-- an operand is missing, which is the lowest rule that a row can break
abbrev pub is_missing : List ℕ → Bool
is_missing rules = from false (λ r. r == rule.MISSING) (lowest rules)

-- what the stack after breaks; its depth is defined where no operand is missing
abbrev pub after_rules : ℕ → List ℕ → List FlowType → List ℕ
after_rules max rules ts = if is_missing rules then [] else depth_rules max ts

-- what is broken where control goes on past the last instruction
abbrev pub last_rules : Bool → List ℕ
last_rules past = if past then rule.PAST_THE_END ∷ [] else []

-- what an instruction of the method takes and gives
abbrev pub row_at : Program → Method → Placed → Row
row_at p m o = row p m.number o.at o.op

-- control may go on from the last instruction
abbrev pub is_past : Program → Method → ℕ → Placed → Bool
is_past p m i o = falls o.op && (i + 1 == length (ops_of p m.number))

-- the rules that an instruction breaks: on depth before, on its operands and locals, on the depth
-- after, and on where control goes
abbrev pub op_rules : Program → Method → ℕ → Placed → Work → List ℕ
op_rules p m i o w =
    let site = site_of p m.number in
    let rules = row_rules site (row_at p m o) w in
    depth_rules m.max_stack w.stack
    ++ (rules
    ++ (after_rules m.max_stack rules (next site (row_at p m o) w).stack
    ++ last_rules (is_past p m i o)))

-- a handler at the place catches what isn't thrown
abbrev pub is_bad_at : Program → ℕ → Handler → Bool
is_bad_at p i h = h.to == i && not (is_below (superclasses p) h.class throwable)

-- rules that are broken whatever the frame: too few locals for the parameters, or a bad handler
abbrev pub place_rules : Program → Method → ℕ → List ℕ
place_rules p m i =
    (if i == 0 && m.crowded then rule.NO_LOCAL ∷ [] else [])
    ++ (if list_any (is_bad_at p i) m.handlers then rule.HANDLER ∷ [] else [])

-- the rules that an instruction breaks, if it is there
abbrev pub rules_there : Program → Method → ℕ → Option Placed → Work → List ℕ
rules_there p m i None w = []
rules_there p m i (Some o) w = op_rules p m i o w

-- the rules that are broken at a place in a frame that isn't the clash frame
abbrev pub open_rules : Program → Method → ℕ → FlowFrame → List ℕ
open_rules p m i f =
    place_rules p m i ++ rules_there p m i (slice_get (ops_of p m.number) i) (work_of f)

-- the rules that the instruction at a place breaks in a frame
unfoldable pub broken : Program → Method → ℕ → FlowFrame → List ℕ
broken p m i f = if f.clash then rule.CLASH ∷ [] else open_rules p m i f

-- ---- what flows

-- what an instruction makes of a frame, if it is there
abbrev pub next_there : Program → Method → Option Placed → Work → Work
next_there p m None w = w
next_there p m (Some o) w = next (site_of p m.number) (row_at p m o) w

-- what goes on with control; an instruction that breaks a rule gives the clash frame
abbrev pub frame_after : Program → Method → ℕ → FlowFrame → FlowFrame
frame_after p m i f =
    if is_empty (open_rules p m i f)
    then frame_of_work (next_there p m (slice_get (ops_of p m.number) i) (work_of f))
    else clash_frame

-- what goes to a handler: the locals from before, and what it takes alone on the stack
abbrev pub frame_caught : FlowFrame → ℕ → FlowFrame
frame_caught f class = frame_of f.locals (Class class ∷ []) f.fresh

-- what a frame that isn't the clash frame gives along an edge
abbrev pub given_by : Program → Method → ℕ → FlowFrame → Edge → FlowFrame
given_by p m i f (Next to) = frame_after p m i f
given_by p m i f (Caught to class) = frame_caught f class

-- what an instruction with a frame gives along an edge
unfoldable pub given : Program → Method → ℕ → FlowFrame → Edge → FlowFrame
given p m i f e = if f.clash then clash_frame else given_by p m i f e

-- the place to which an edge leads
abbrev pub target : Edge → ℕ
target (Next to) = to
target (Caught to class) = to

-- to the instructions at these addresses
abbrev pub jump_edges : List Placed → List ℕ → List Edge
jump_edges ops to = map (λ at. Next (place_of ops at)) to

-- to the instruction behind, if control may go on and there is one
abbrev pub fall_edges : ℕ → ℕ → Placed → List Edge
fall_edges count i o = if falls o.op && nat_lt (i + 1) count then Next (i + 1) ∷ [] else []

-- an address lies in the range of a handler
abbrev pub covers : ℕ → Handler → Bool
covers at h = nat_le h.start at && nat_lt at h.until

-- to a handler
abbrev pub catching : Handler → Edge
catching h = Caught h.to h.class

-- where an instruction leads, if it is there: to its handlers, by jumps, and to the one behind it
abbrev pub edges_there : List Placed → List Handler → ℕ → Option Placed → List Edge
edges_there ops handlers i None = []
edges_there ops handlers i (Some o) =
    map catching (filter (covers o.at) handlers)
    ++ (jump_edges ops (jumps o.op)
    ++ fall_edges (length ops) i o)

-- the successors and the handlers of an instruction, by place
unfoldable pub edges : Program → Method → ℕ → List Edge
edges p m i = edges_there (ops_of p m.number) m.handlers i (slice_get (ops_of p m.number) i)
