-- What comes of an order that is taken again.
use Rattle.std.specs.Prelude.{◌≡◌, ◌≢◌, ℕ, ◌+◌, ◌≤◌, List, [], length, take, slice_get, Option, Some, None}
use Rattle.std.specs.Io.KnownBytes.{Appends}
use Rattle.program_image.specs.Program.{Program}
use Rattle.machine_state.specs.declared.state.Choice.{Choice}
use Rattle.machine_state.specs.declared.state.End.TheVariants.{AllEnded, Dead, Going}
use Rattle.machine_state.specs.Runs.{LeadsTo, end_of}
use Rattle.machine_state.specs.State.{State}
use Rattle.machine_state.specs.Step.{step}
use Rattle.order_text.specs.Faults.{IsFirstFault}
use Rattle.order_text.specs.Spelling.{IsOrderText}
use Rattle.one_jvm.specs.declared.outcome.Stop.{Stop}
use Rattle.one_jvm.specs.declared.outcome.Stop.TheVariants.{Done, Uncaught, Deadlock}

-- what is replayed: a program, the strings that its `main` is given, and the text of an order
pub record Replayed : Type 0 where
  pub program : Program
  pub args : List (List ℕ)
  pub text : List ℕ

-- so many choices of the order are enabled, one behind the other, and lead to this state
pub record Follows (p : Program) (args : List (List ℕ)) (order : List Choice) (taken : ℕ)
    (last : State) : Type 0 where
  pub within : taken ≤ length order
  pub leads : LeadsTo p args (take taken order) last

-- ---- how a replay ends

-- the text is no order's, and this is the line of its first fault
abbrev pub IsBadOrder : ℕ → Replayed → Type 0
IsBadOrder line r = IsFirstFault r.text line

-- the choice of this number, counted from 1, isn't enabled behind those before it
pub record IsNotEnabled (number : ℕ) (r : Replayed) : Type 0 where
  pub order : List Choice
  pub text : IsOrderText r.text order
  pub taken : ℕ
  pub is : number ≡ taken + 1
  pub before : State
  pub follows : Follows r.program r.args order taken before
  pub choice : Choice
  pub next : slice_get order taken ≡ Some choice
  pub refused : step r.program before choice ≡ None

-- all choices are enabled, and the last state has P
pub record IsWholeOrder (P : Program → State → Type 0) (r : Replayed) : Type 0 where
  pub order : List Choice
  pub text : IsOrderText r.text order
  pub last : State
  pub leads : LeadsTo r.program r.args order last
  pub such : P r.program last

-- a thread can take one more step
abbrev pub IsGoing : Program → State → Type 0
IsGoing p m = end_of p m ≡ Going

-- all choices are enabled, and one more would be
abbrev pub IsEarly : Replayed → Type 0
IsEarly r = IsWholeOrder IsGoing r

-- how a state stands that no step follows
abbrev pub StandsAs : Stop → Program → State → Type 0
StandsAs Done p m = (end_of p m ≡ AllEnded) × (m.uncaught ≡ [])
StandsAs Uncaught p m = (end_of p m ≡ AllEnded) × (m.uncaught ≢ [])
StandsAs Deadlock p m = end_of p m ≡ Dead
StandsAs _ p m = ⊥

-- all choices are enabled, and no step follows
abbrev pub EndsAs : Stop → Replayed → Type 0
EndsAs s r = IsWholeOrder (StandsAs s) r

-- ---- what it prints

-- the sink gained what is printed by the choices up to the first that isn't enabled
pub record PrintsAll (before now : Option (List ℕ)) (r : Replayed) : Type 0 where
  pub order : List Choice
  pub text : IsOrderText r.text order
  pub taken : ℕ
  pub last : State
  pub follows : Follows r.program r.args order taken last
  pub stops : (choice : Choice) → slice_get order taken ≡ Some choice
      → step r.program last choice ≡ None
  pub written : Appends before now last.output

-- the sink gained so much of what some first choices print
pub record PrintsPart (Gains : Option (List ℕ) → Option (List ℕ) → List ℕ → Type 0)
    (before now : Option (List ℕ)) (r : Replayed) : Type 0 where
  pub order : List Choice
  pub text : IsOrderText r.text order
  pub taken : ℕ
  pub last : State
  pub follows : Follows r.program r.args order taken last
  pub written : Gains before now last.output
