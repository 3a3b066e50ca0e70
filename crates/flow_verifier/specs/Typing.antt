-- Assignments of frames: closed, least, a method's typing, and the first rule broken.
use Rattle.program_image.specs.Program.{Program}
use Rattle.flow_types.specs.Tree.{superclasses}
use Rattle.flow_verifier.specs.Methods.{ops_of}
use Rattle.std.specs.Prelude.{◌≡◌, ℕ, zero, suc, ◌+◌, ◌*◌, ◌<◌, true, List, [], length, slice_get, Option, Some, None, Result, Ok, Err}
use Rattle.flow_types.specs.Frames.{frame_of, frame_fits, IsFrame}
use Rattle.flow_types.specs.declared.flow_frame.FlowFrame.{FlowFrame}
use Rattle.flow_verifier.specs.declared.method.Method.{Method}
use Rattle.flow_verifier.specs.declared.method.Edge.{Edge}
use Rattle.flow_verifier.specs.Methods.{room_of}
use Rattle.code_table.specs.declared.code.Placed.{Placed}
use Rattle.instruction_table.specs.LowestRule.{lowest}
use Rattle.flow_verifier.specs.Given.{broken, given, target, edges}
use Rattle.flow_verifier.specs.declared.answer.VerifyErr.{VerifyErr}
use Rattle.flow_verifier.specs.declared.answer.VerifyErr.TheVariants.{Flow, NoMemory}

-- no frame, where there is none or nothing
abbrev pub known : Option (Option FlowFrame) → Option FlowFrame
known None = None
known (Some o) = o

-- the frame of an instruction, if it has one
abbrev pub frame_at : List (Option FlowFrame) → ℕ → Option FlowFrame
frame_at fs i = known (slice_get fs i)

-- a frame may flow to a place that has this frame, or none, which takes nothing
abbrev pub FitsPlace : List (Option ℕ) → FlowFrame → Option FlowFrame → Type 0
FitsPlace supers f None = ⊥
FitsPlace supers f (Some g) = frame_fits supers f g ≡ true

-- a place's frame fits another's; none fits everything
abbrev pub FitsThere : List (Option ℕ) → Option FlowFrame → Option FlowFrame → Type 0
FitsThere supers None o = Unit {0}
FitsThere supers (Some f) o = FitsPlace supers f o

-- the frame in which a method begins
abbrev pub entry_frame : Method → FlowFrame
entry_frame m = frame_of m.entry [] m.fresh

-- a frame of the method, or none, for each instruction
pub record IsAssignment (p : Program) (m : Method) (fs : List (Option FlowFrame)) : Type 0 where
  pub long : length fs ≡ length (ops_of p m.number)
  pub frames : (i : ℕ) (f : FlowFrame) →
      frame_at fs i ≡ Some f → IsFrame (superclasses p) (room_of m) f

-- the entry frame fits the first, and what each instruction with a frame gives fits where it leads
pub record IsClosed (p : Program) (m : Method) (fs : List (Option FlowFrame)) : Type 0 where
  pub assignment : IsAssignment p m fs
  pub entry : FitsPlace (superclasses p) (entry_frame m) (frame_at fs 0)
  pub each : (i k : ℕ) (f : FlowFrame) (e : Edge) →
      frame_at fs i ≡ Some f → slice_get (edges p m i) k ≡ Some e →
      FitsPlace (superclasses p) (given p m i f e) (frame_at fs (target e))

-- a closed assignment that fits every closed one
pub record IsLeast (p : Program) (m : Method) (fs : List (Option FlowFrame)) : Type 0 where
  pub closed : IsClosed p m fs
  pub least : (gs : List (Option FlowFrame)) → IsClosed p m gs →
      (i : ℕ) → FitsThere (superclasses p) (frame_at fs i) (frame_at gs i)

-- the least closed assignment, where it breaks no rule
pub record IsTyping (p : Program) (m : Method) (fs : List (Option FlowFrame)) : Type 0 where
  pub least : IsLeast p m fs
  pub keeps : (i : ℕ) (f : FlowFrame) → frame_at fs i ≡ Some f → broken p m i f ≡ []

-- the lowest address at which it breaks a rule, and the lowest rule that it breaks there
pub record IsBroken (p : Program) (m : Method) (rule at : ℕ)
    (fs : List (Option FlowFrame)) : Type 0 where
  pub least : IsLeast p m fs
  pub place : ℕ
  pub placed : Placed
  pub is_placed : slice_get (ops_of p m.number) place ≡ Some placed
  pub address : placed.at ≡ at
  pub here : (f : FlowFrame)
      × (frame_at fs place ≡ Some f) × (lowest (broken p m place f) ≡ Some rule)
  pub below : (i : ℕ) (o : Placed) (f : FlowFrame) →
      slice_get (ops_of p m.number) i ≡ Some o → o.at < at →
      frame_at fs i ≡ Some f → broken p m i f ≡ []

-- the method has a typing, or its least closed assignment breaks a rule first there, and nothing is
-- its typing
abbrev pub Judged : Program → Method → Result (List (Option FlowFrame)) VerifyErr → Type 0
Judged p m (Ok fs) = IsTyping p m fs
Judged p m (Err NoMemory) = Unit {0}
Judged p m (Err (Flow e)) =
    (e.method ≡ m.number)
    × ((fs : List (Option FlowFrame)) × IsBroken p m e.rule e.at fs)
    × ((fs : List (Option FlowFrame)) → IsTyping p m fs → ⊥)

-- the lowest rule that is broken at a place
abbrev pub rule_of : Program → Method → ℕ → Option FlowFrame → Option ℕ
rule_of p m i None = None
rule_of p m i (Some f) = lowest (broken p m i f)

-- no rule is broken below n
abbrev pub NoneBroken : Program → Method → List (Option FlowFrame) → ℕ → Type 0
NoneBroken p m fs n = (i : ℕ) → i < n → rule_of p m i (frame_at fs i) ≡ None

-- the first place at which a rule is broken
abbrev pub IsFirst : Program → Method → List (Option FlowFrame) → ℕ → ℕ → Type 0
IsFirst p m fs rule place =
    (place < length fs)
    × NoneBroken p m fs place
    × (rule_of p m place (frame_at fs place) ≡ Some rule)

-- the sum over the first n numbers
abbrev pub sum_to : (ℕ → ℕ) → ℕ → ℕ
sum_to w zero = 0
sum_to w (suc n) = w 0 + sum_to (λ i. w (suc i)) n

-- how many ways lead from the instructions to others
abbrev pub ways : Program → Method → ℕ
ways p m = sum_to (λ i. length (edges p m i)) (length (ops_of p m.number))

-- locals, stack places, and one for a handler's exception
abbrev pub places : Method → ℕ
places m = length m.entry + (m.max_stack + 1)

-- the most steps that a verification can take
abbrev pub most_steps : Program → Method → ℕ
most_steps p m = ways p m * (places m * (length (superclasses p) + 260) + 3)
