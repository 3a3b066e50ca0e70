-- What holds while frames still rise.
use Rattle.code_table.specs.declared.code.Placed.{Placed}
use Rattle.program_image.specs.Program.{Program}
use Rattle.flow_types.specs.Tree.{superclasses}
use Rattle.std.specs.Prelude.{Bool, true, false, ◌≡◌, ℕ, ◌+◌, ◌<◌, ◌⊎◌, List, [], ◌∷◌, length, slice_get, slice_set, IsPermutation, Option, Some, None}
use Rattle.std.specs.Bool.{MatchBool}
use Rattle.std.specs.List.{list_any}
use Rattle.std.proofs.Math.ListN.{replicate}
use Rattle.flow_types.specs.Frames.{clash_frame, frame_fits, IsFrame}
use Rattle.flow_types.specs.declared.flow_frame.FlowFrame.{FlowFrame}
use Rattle.flow_types.specs.declared.flow_type.FlowType.TheVariants.{Class}
use Rattle.flow_verifier.specs.declared.method.Method.{Method}
use Rattle.flow_verifier.specs.declared.method.Handler.{Handler}
use Rattle.flow_verifier.specs.declared.method.Edge.{Edge}
use Rattle.flow_verifier.specs.declared.method.Edge.TheVariants.{Next}
use Rattle.flow_verifier.specs.declared.facts.Facts.{Facts}
use Rattle.flow_verifier.specs.declared.rising.Rising.{Rising}
use Rattle.flow_verifier.specs.declared.visit.Visit.{Visit}
use Rattle.flow_verifier.specs.declared.catches.Catch.{Catch}
use Rattle.flow_verifier.specs.Methods.{ops_of, room_of}
use Rattle.flow_verifier.specs.Worklist.Ranges.{flag_at}
use Rattle.flow_verifier.specs.Worklist.Leading.{successors, ways_caught}
use Rattle.flow_verifier.specs.Worklist.HandlerTrees.{handlers_in, IsBounded}
use Rattle.flow_verifier.specs.Worklist.Catching.{without_operands, AreCovering, TakenAt, IsCatching, IsUncaught}
use Rattle.flow_verifier.specs.Given.{is_bad_at, catching, given, target, edges}
use Rattle.flow_verifier.specs.Typing.{frame_at, FitsPlace, FitsThere, entry_frame, IsAssignment, IsClosed}

-- i stands on the list
abbrev pub In : ℕ → List ℕ → Type 0
In i [] = ⊥
In i (x ∷ xs) = (i ≡ x) ⊎ In i xs

-- who is flagged stands on the list
unfoldable pub IsFlagged : List Bool → List ℕ → Type 0
IsFlagged queued todo = (i : ℕ) → slice_get queued i ≡ Some true → In i todo

-- what an instruction gives fits where it leads
abbrev pub Settled : Program → Method → List (Option FlowFrame) → ℕ → Type 0
Settled p m fs i = (k : ℕ) (f : FlowFrame) (e : Edge) →
    frame_at fs i ≡ Some f → slice_get (edges p m i) k ≡ Some e →
    FitsPlace (superclasses p) (given p m i f e) (frame_at fs (target e))

-- frames of the method that take the entry frame and fit each closed assignment
pub record IsBelow (p : Program) (m : Method) (fs : List (Option FlowFrame)) : Type 0 where
  pub assignment : IsAssignment p m fs
  pub entry : FitsPlace (superclasses p) (entry_frame m) (frame_at fs 0)
  pub below : (gs : List (Option FlowFrame)) → IsClosed p m gs →
      (i : ℕ) → FitsThere (superclasses p) (frame_at fs i) (frame_at gs i)

-- who isn't on the list is settled
pub record IsGoing (p : Program) (m : Method)
    (fs : List (Option FlowFrame)) (todo : List ℕ) : Type 0 where
  pub under : IsBelow p m fs
  pub rest : (i : ℕ) → In i todo ⊎ Settled p m fs i

-- the first j ways from one instruction, with the frame f, are done
pub record IsPartly (p : Program) (m : Method) (at : ℕ) (f : FlowFrame) (j : ℕ)
    (fs : List (Option FlowFrame)) (todo : List ℕ) : Type 0 where
  pub under : IsBelow p m fs
  pub frame : IsFrame (superclasses p) (room_of m) f
  pub base : FitsPlace (superclasses p) f (frame_at fs at)
  pub others : (i : ℕ) → (i ≡ at → ⊥) → In i todo ⊎ Settled p m fs i
  pub own : In at todo ⊎ ((frame_at fs at ≡ Some f)
      × ((k : ℕ) (e : Edge) → k < j → slice_get (edges p m at) k ≡ Some e →
      FitsPlace (superclasses p) (given p m at f e) (frame_at fs (target e))))

-- so are the first j ways from an instruction taken off the list, if it has a frame
pub record IsTakenOff (p : Program) (m : Method) (at j : ℕ)
    (fs : List (Option FlowFrame)) (todo : List ℕ) : Type 0 where
  pub under : IsBelow p m fs
  pub others : (i : ℕ) → (i ≡ at → ⊥) → In i todo ⊎ Settled p m fs i
  pub own : In at todo ⊎ ((k : ℕ) (f : FlowFrame) (e : Edge) → k < j →
      frame_at fs at ≡ Some f → slice_get (edges p m at) k ≡ Some e →
      FitsPlace (superclasses p) (given p m at f e) (frame_at fs (target e)))

-- ---- the code's view

-- for each place whether a bad handler is there, and the method's handlers in some order
pub record IsKnown (p : Program) (m : Method) (facts : Facts) : Type 0 where
  pub bad : (i : ℕ) → flag_at facts.bad i ≡ list_any (is_bad_at p i) m.handlers
  pub handlers : IsPermutation m.handlers (handlers_in facts.handlers)
  pub bounded : IsBounded facts.handlers

-- each place has a flag, and who is flagged stands on the list
pub record IsMarked (s : Rising) : Type 0 where
  pub wide : length s.queued ≡ length s.frames
  pub flags : IsFlagged s.queued s.todo

-- no frame but the entry's, which is on the list
pub record IsStart (p : Program) (m : Method) (s : Rising) : Type 0 where
  pub frames : s.frames ≡ slice_set (replicate (length (ops_of p m.number)) None) 0 (Some (entry_frame m))
  pub todo : s.todo ≡ 0 ∷ []
  pub marked : IsMarked s
  pub uncaught : IsUncaught p m s.catches

-- a frame's locals below one operand; the clash frame for itself
abbrev pub IsCatcher : FlowFrame → FlowFrame → Type 0
IsCatcher f c = MatchBool f.clash (c ≡ clash_frame)
    ((c.clash ≡ false) × (c.locals ≡ f.locals) × (c.fresh ≡ f.fresh) × (length c.stack ≡ 1))

-- a catcher with another class
pub record IsPut (c d : FlowFrame) (class : ℕ) : Type 0 where
  pub stack : d.stack ≡ slice_set c.stack 0 (Class class)
  pub locals : d.locals ≡ c.locals
  pub fresh : d.fresh ≡ c.fresh
  pub clash : d.clash ≡ c.clash

-- what goes on with control from the instruction at a place that has the frame
pub record IsFlowing (p : Program) (m : Method) (f : FlowFrame) (v : Visit) : Type 0 where
  pub to : v.to ≡ successors p m v.at
  pub next : (to : ℕ) → v.next ≡ given p m v.at f (Next to)

-- it has gone on to the first j successors
pub record IsVisiting (p : Program) (m : Method) (v : Visit) (j : ℕ) (s : Rising) : Type 0 where
  pub frame : FlowFrame
  pub flowing : IsFlowing p m frame v
  pub partly : IsPartly p m v.at frame (ways_caught p m v.at + j) s.frames s.todo
  pub marked : IsMarked s
  pub catching : IsCatching p m s.frames s.catches

-- what a place's range has caught with the place's frame: no more than handlers take in the end
pub record IsCaught (p : Program) (m : Method) (f : FlowFrame) (c : Catch) : Type 0 where
  pub placed : Placed
  pub is_placed : slice_get (ops_of p m.number) c.at ≡ Some placed
  pub handlers : AreCovering p m c.at c.handlers
  pub frame : IsFrame (superclasses p) (room_of m) c.caught
  pub bare : without_operands c.caught ≡ c.caught
  pub above : frame_fits (superclasses p) (without_operands f) c.caught ≡ true
  pub below : (gs : List (Option FlowFrame)) → IsClosed p m gs →
      TakenAt p m c.at c.caught (length m.handlers) gs
  pub catcher : IsCatcher c.caught c.thrown

-- it has flowed to the first n of the handlers that cover the place
pub record IsThrowing (p : Program) (m : Method) (c : Catch) (n : ℕ) (s : Rising) : Type 0 where
  pub frame : FlowFrame
  pub caught : IsCaught p m frame c
  pub partly : IsPartly p m c.at frame 0 s.frames s.todo
  pub taken : (k : ℕ) (h : Handler) → k < n → slice_get c.handlers k ≡ Some h →
      FitsPlace (superclasses p) (given p m c.at c.caught (catching h)) (frame_at s.frames h.to)
  pub marked : IsMarked s
  pub catching : IsCatching p m s.frames s.catches
