-- Files and words have one verdict at most. A call stops at the first test that it doesn't pass: one
-- stage for each test, and one lemma for all.
use Rattle.std.proofs.Common.{◌≡◌, ℕ, zero, suc, ◌+◌, ◌≤◌, ◌<◌, Bool, true, false, nat_lt, if◌then◌else◌, List, [], ◌∷◌, ◌++◌, length, take, map, Option, Some, None, Result, Ok, Err, refl, sym, ap, subst, ◌∙◌, ◌⊎◌, inl, inr, arith}
use Rattle.std.specs.Prelude.{slice_get}
use Rattle.std.proofs.Math.Seq.{take-length}
use Rattle.std.proofs.lemmas.Bool.{le-ltb, lt-ltb, ne_eqb, cases_order}
use Rattle.std.proofs.lemmas.Option.{slice_get_within}
use Rattle.cjvm_io.specs.Shelves.{Files, bytes_under}
use Rattle.std.specs.List.{All}
use Rattle.acceptance.specs.Accepted as accepting
use Rattle.acceptance.proofs.OneRejection.{one_rejection, not_both as not_accepted}
use Rattle.class_format.specs.declared.class.ClassFile.{ClassFile}
use Rattle.class_format.specs.Meaning.{IsClass}
use Rattle.class_format.proofs.Recursion.{all_of}
use Rattle.flow_verifier.specs.declared.answer.FlowErr.{FlowErr}
use Rattle.class_file.specs.declared.error.ClassErr.{ClassErr}
use Rattle.class_file.specs.Reading.Classes.{class_at}
use Rattle.class_file.proofs.ClassLaws.{class_again}
use Rattle.class_file.proofs.Refused.{refused_comes}
use Rattle.jvm_base.specs.Words.{from}
use Rattle.link_rules.specs.declared.error.LinkErr.{LinkErr}
use Rattle.class_link.specs.Linked.{linked}
use Rattle.class_link.specs.Refusals.{link_refusals}
use Rattle.command_words.specs.declared.words.Command.{Command}
use Rattle.command_words.specs.declared.words.Command.TheVariants.{Run, Check, Replay}
use Rattle.machine_state.specs.declared.state.Choice.{Choice}
use Rattle.machine_state.specs.declared.state.End.TheVariants.{AllEnded, Dead, Going}
use Rattle.machine_state.specs.Runs.{run, LeadsTo}
use Rattle.machine_state.specs.Start.{start}
use Rattle.machine_state.specs.State.{State}
use Rattle.machine_state.specs.Step.{step}
use Rattle.machine_state.proofs.NameTests.{some_is, not_both}
use Rattle.order_text.specs.Faults.{IsFirstFault}
use Rattle.order_text.specs.Spelling.{IsOrderText}
use Rattle.program_image.specs.Program.{Program}
use Rattle.one_jvm.specs.declared.outcome.Stop.{Stop}
use Rattle.one_jvm.specs.declared.outcome.Stop.TheVariants as stop
use Rattle.one_jvm.specs.declared.outcome.Refusal.{Refusal}
use Rattle.one_jvm.specs.declared.outcome.Refusal.TheVariants.{Usage, File, Link, Flow, NoFile, ReadFault, WriteFault, TooLong, NoMemory, BadOrder, NotEnabled, EarlyOrder}
use Rattle.one_jvm.specs.Replays.{Replayed, Follows, IsBadOrder, IsNotEnabled, IsGoing, IsEarly, StandsAs, EndsAs}
use Rattle.one_jvm.specs.Words.{Asked, IsCall, IsNoCall}
use Rattle.one_jvm.specs.Verdicts.{is_order, limit_of, IsMissing, IsLong, IsRefusedFile, IsClassFile, IsOrderFile, AreClassFiles, AreRead, StopsAt, StopsFor, main_of, AreAccepted, AreRefused, AreUntyped, IsProgram, IsChecked, Replays, HasReplay, Names, IsVerdict}
use Rattle.one_jvm.specs.Outcomes.{status_of}
use Rattle.one_jvm.proofs.LoadLemmas.{read_classes}
use Rattle.one_jvm.proofs.RunLaws.{one_last}
use Rattle.one_jvm.proofs.WordLemmas.{one_call}

-- a test stops with a verdict, or is passed and finds what the next stage goes on with
abbrev Tests : {A V : Type 0} → (V → Type 0) → (A → Type 0) → (A → V → Type 0) → V → Type 0
Tests {A} stops finds next v = stops v ⊎ ((a : A) × finds a × next a v)

-- a test that isn't both passed and not, that stops and finds in one way, has one verdict if the next stage has
one_stage : {A V : Type 0} (stops : V → Type 0) (finds : A → Type 0) (next : A → V → Type 0)
    → ((v w : V) → stops v → stops w → v ≡ w) → ((a b : A) → finds a → finds b → a ≡ b)
    → ((v : V) (a : A) → stops v → finds a → ⊥) → ((a : A) (v w : V) → finds a → next a v → next a w → v ≡ w)
    → (v w : V) → Tests stops finds next v → Tests stops finds next w → v ≡ w
one_stage stops finds next stop find either rest v w (inl p) (inl q) = stop v w p q
one_stage stops finds next stop find either rest v w (inl p) (inr q) = absurd (either v q.0 p q.1)
one_stage stops finds next stop find either rest v w (inr p) (inl q) = absurd (either w p.0 q p.1)
one_stage {A} stops finds next stop find either rest v w (inr p) (inr q) =
    rest p.0 v w p.1 p.2 (subst (λ (a : A). next a w) (find q.0 p.0 q.1 p.1) q.2)

-- ---- files as they are read

-- bytes that are a class file, or their refusal at the place k
abbrev class_by : ℕ → Result ClassFile ClassErr → Result (List ClassFile) Refusal
class_by k (Ok class) = Ok (class ∷ [])
class_by k (Err why) = Err (File k why)

-- short bytes: those of an order, which is no class, or of a class file
abbrev read_short : Bool → ℕ → List ℕ → Result (List ClassFile) Refusal
read_short true k bytes = Ok []
read_short false k bytes = class_by k (class_at bytes)

-- what there is under a name is read, or is refused
abbrev read_at : Bool → ℕ → Option (List ℕ) → Result (List ClassFile) Refusal
read_at order k None = Err (NoFile k)
read_at order k (Some bytes) = if nat_lt (limit_of order) (length bytes) then Err (TooLong k) else read_short order k bytes

-- what is made of some classes and of those behind them
abbrev behind : List ClassFile → Result (List ClassFile) Refusal → Result (List ClassFile) Refusal
behind first (Ok classes) = Ok (first ++ classes)
behind first (Err e) = Err e

abbrev joined : Result (List ClassFile) Refusal → Result (List ClassFile) Refusal → Result (List ClassFile) Refusal
joined (Ok first) rest = behind first rest
joined (Err e) rest = Err e

-- class files are read, or the first that isn't is refused; the first has the place k
abbrev read_all : ℕ → List (Option (List ℕ)) → Result (List ClassFile) Refusal
read_all k [] = Ok []
read_all k (content ∷ contents) = joined (read_at false k content) (read_all (k + 1) contents)

-- the same behind an order
abbrev read_behind : List (Option (List ℕ)) → Result (List ClassFile) Refusal
read_behind [] = Ok []
read_behind (content ∷ contents) = joined (read_at true 0 content) (read_all 1 contents)

-- the files of a command
abbrev read_files : Command → List (Option (List ℕ)) → Result (List ClassFile) Refusal
read_files Replay contents = read_behind contents
read_files command contents = read_all 0 contents

-- a short file is judged by its bytes
short_read : (order : Bool) (k : ℕ) (content : Option (List ℕ)) (bytes : List ℕ) → content ≡ Some bytes → length bytes ≤ limit_of order → read_at order k content ≡ read_short order k bytes
short_read order k content bytes has short =
    let test : nat_lt (limit_of order) (length bytes) ≡ false = le-ltb (limit_of order) (length bytes) short in
    ap (read_at order k) has ∙ ap (λ (b : Bool). if b then Err (TooLong k) else read_short order k bytes) test

-- a class file is read
class_read : (k : ℕ) (content : Option (List ℕ)) (class : ClassFile) → IsClassFile content class → read_at false k content ≡ Ok (class ∷ [])
class_read k content class i = short_read false k content i.bytes i.has i.short ∙ ap (class_by k) (class_again class i.bytes i.spells)

-- an order's file is
order_read : (k : ℕ) (content : Option (List ℕ)) → IsOrderFile content → read_at true k content ≡ Ok []
order_read k content i = short_read true k content i.bytes i.has i.short

-- a missing file isn't
missing_read : (k : ℕ) (order : Bool) (content : Option (List ℕ)) → IsMissing order content → read_at order k content ≡ Err (NoFile k)
missing_read k order content m = ap (read_at order k) m

-- nor is a long one
long_read : (k : ℕ) (order : Bool) (content : Option (List ℕ)) → IsLong order content → read_at order k content ≡ Err (TooLong k)
long_read k order content l =
    let test : nat_lt (limit_of order) (length l.bytes) ≡ true = lt-ltb (limit_of order) (length l.bytes) l.long in
    ap (read_at order k) l.has ∙ ap (λ (b : Bool). if b then Err (TooLong k) else read_short order k l.bytes) test

-- nor one that is refused
refused_read : (k : ℕ) (why : ClassErr) (order : Bool) (content : Option (List ℕ)) → IsRefusedFile why order content → read_at order k content ≡ Err (File k why)
refused_read k why order content r =
    ap (λ (b : Bool). read_at b k content) r.wanted ∙ short_read false k content r.bytes r.has r.short ∙ ap (class_by k) (refused_comes r.bytes why r.refused)

-- class files are read
classes_read : (k : ℕ) (contents : List (Option (List ℕ))) (classes : List ClassFile) → AreClassFiles contents classes → read_all k contents ≡ Ok classes
classes_read k [] [] a = refl
classes_read k [] (c ∷ classes) a = absurd a
classes_read k (x ∷ contents) [] a = absurd a
classes_read k (x ∷ contents) (c ∷ classes) a = rw (class_read k x c a.0, classes_read (k + 1) contents classes a.1) refl

-- files are read
files_read : (command : Command) (contents : List (Option (List ℕ))) (classes : List ClassFile) → AreRead command contents classes → read_files command contents ≡ Ok classes
files_read Run contents classes a = classes_read 0 contents classes a
files_read Check contents classes a = classes_read 0 contents classes a
files_read Replay [] [] a = refl
files_read Replay [] (c ∷ classes) a = absurd a
files_read Replay (x ∷ contents) classes a = rw (order_read 0 x a.0, classes_read 1 contents classes a.1) refl

-- reading stops where a file is refused, behind class files
stop_read : (n k : ℕ) (contents : List (Option (List ℕ))) (content : Option (List ℕ)) (classes : List ClassFile) (e : Refusal) → slice_get contents k ≡ Some content → AreClassFiles (take k contents) classes → read_at false (n + k) content ≡ Err e → read_all n contents ≡ Err e
stop_read n k [] content classes e at a r = absurd (let lt = slice_get_within {A = Option (List ℕ)} [] k content at in omega arith)
stop_read n zero (x ∷ contents) content classes e at a r =
    let both : Some x ≡ Some content = at in
    let same : x ≡ content = cc in
    let first : n ≡ n + 0 = omega arith in
    let here : read_at false n x ≡ Err e = ap (read_at false n) same ∙ ap (λ (m : ℕ). read_at false m content) first ∙ r in
    rw here refl
stop_read n (suc k) (x ∷ contents) content [] e at a r = absurd a
stop_read n (suc k) (x ∷ contents) content (c ∷ classes) e at a r =
    let place : (n + 1) + k ≡ n + suc k = omega arith in
    let later : read_at false ((n + 1) + k) content ≡ Err e = ap (λ (m : ℕ). read_at false m content) place ∙ r in
    rw (class_read n x c a.0, stop_read (n + 1) k contents content classes e at a.1 later) refl

-- behind files that are read
stop_files : (command : Command) (k : ℕ) (contents : List (Option (List ℕ))) (content : Option (List ℕ)) (classes : List ClassFile) (e : Refusal) → slice_get contents k ≡ Some content → AreRead command (take k contents) classes → read_at (is_order command k) k content ≡ Err e → read_files command contents ≡ Err e
stop_files Run k contents content classes e at a r =
    let place : 0 + k ≡ k = omega arith in
    stop_read 0 k contents content classes e at a (ap (λ (m : ℕ). read_at false m content) place ∙ r)
stop_files Check k contents content classes e at a r =
    let place : 0 + k ≡ k = omega arith in
    stop_read 0 k contents content classes e at a (ap (λ (m : ℕ). read_at false m content) place ∙ r)
stop_files Replay k [] content classes e at a r = absurd (let lt = slice_get_within {A = Option (List ℕ)} [] k content at in omega arith)
stop_files Replay zero (x ∷ contents) content classes e at a r =
    let both : Some x ≡ Some content = at in
    let same : x ≡ content = cc in
    let here : read_at true 0 x ≡ Err e = ap (read_at true 0) same ∙ r in
    rw here refl
stop_files Replay (suc k) (x ∷ contents) content classes e at a r =
    let place : 1 + k ≡ suc k = omega arith in
    let other : is_order Replay (suc k) ≡ false = ne_eqb (suc k) 0 (λ f. omega arith) in
    let here : read_at false (suc k) content ≡ Err e = ap (λ (b : Bool). read_at b (suc k) content) (sym other) ∙ r in
    let later : read_all 1 contents ≡ Err e = stop_read 1 k contents content classes e at a.1 (ap (λ (m : ℕ). read_at false m content) place ∙ here) in
    rw (order_read 0 x a.0, later) refl

-- ---- orders as they are taken

-- no more choices are enabled than those before one that isn't
blocked : (p : Program) (m : State) (order : List Choice) (k : ℕ) (before : State) (choice : Choice) (n : ℕ) → run p m (take k order) ≡ Some before → slice_get order k ≡ Some choice → step p before choice ≡ None → k < n → run p m (take n order) ≡ None
unfolding run
blocked p m [] k before choice n e at none l = absurd (let lt = slice_get_within {A = Choice} [] k choice at in omega arith)
blocked p m (c ∷ cs) zero before choice zero e at none l = absurd (omega arith)
blocked p m (c ∷ cs) zero before choice (suc n) e at none l =
    let here : m ≡ before = some_is e in
    let this : c ≡ choice = some_is at in
    ap (from None (λ (next : State). run p next (take n cs))) (ap (λ (x : State). step p x c) here ∙ ap (step p before) this ∙ none)
blocked p m (c ∷ cs) (suc k) before choice zero e at none l = absurd (omega arith)
blocked p m (c ∷ cs) (suc k) before choice (suc n) e at none l = by_step (step p m c) e (λ next f. blocked p next cs k before choice n f at none (let q = l in omega arith))
  where
    by_step : (o : Option State) → from None (λ next. run p next (take k cs)) o ≡ Some before → ((next : State) → run p next (take k cs) ≡ Some before → run p next (take n cs) ≡ None)
        → from None (λ next. run p next (take n cs)) o ≡ None
    by_step None f g = refl
    by_step (Some next) f g = g next f

-- the choice of this number isn't enabled
record Stuck (r : Replayed) (order : List Choice) (number : ℕ) : Type 0 where
  taken : ℕ
  is : number ≡ taken + 1
  before : State
  follows : Follows r.program r.args order taken before
  choice : Choice
  next : slice_get order taken ≡ Some choice
  refused : step r.program before choice ≡ None

module _ (r : Replayed) (order : List Choice) where
  -- it is not behind another one
  not_behind : (j k : ℕ) (a : Stuck r order j) (b : Stuck r order k) → a.taken < b.taken → ⊥
  not_behind j k a b l = not_both (blocked r.program (start r.program r.args) order a.taken a.before a.choice b.taken a.follows.leads a.next a.refused l) b.follows.leads

  -- so there is one at most
  one_stuck : (j k : ℕ) → Stuck r order j → Stuck r order k → j ≡ k
  one_stuck j k a b = by_order (cases_order a.taken b.taken)
    where
      by_order : (a.taken ≡ b.taken) ⊎ ((a.taken < b.taken) ⊎ (b.taken < a.taken)) → j ≡ k
      by_order (inl e) = a.is ∙ ap (λ (n : ℕ). n + 1) e ∙ sym b.is
      by_order (inr (inl l)) = absurd (not_behind j k a b l)
      by_order (inr (inr l)) = absurd (not_behind k j b a l)

  -- and then the order isn't enabled whole
  stuck_not_whole : (k : ℕ) (last : State) → Stuck r order k → LeadsTo r.program r.args order last → ⊥
  stuck_not_whole k last a e =
      let none = blocked r.program (start r.program r.args) order a.taken a.before a.choice (length order) a.follows.leads a.next a.refused (slice_get_within order a.taken a.choice a.next) in
      not_both (ap (run r.program (start r.program r.args)) (sym (take-length order)) ∙ none) e

-- a state stands in one way
one_standing : (p : Program) (m : State) (s u : Stop) → StandsAs s p m → StandsAs u p m → s ≡ u
one_standing p m stop.Done stop.Done a b = refl
one_standing p m stop.Done stop.Uncaught a b = absurd (b.1 a.1)
one_standing p m stop.Done stop.Deadlock a b = absurd (let f : AllEnded ≡ Dead = sym a.0 ∙ b in cc)
one_standing p m stop.Uncaught stop.Done a b = absurd (a.1 b.1)
one_standing p m stop.Uncaught stop.Uncaught a b = refl
one_standing p m stop.Uncaught stop.Deadlock a b = absurd (let f : AllEnded ≡ Dead = sym a.0 ∙ b in cc)
one_standing p m stop.Deadlock stop.Done a b = absurd (let f : AllEnded ≡ Dead = sym b.0 ∙ a in cc)
one_standing p m stop.Deadlock stop.Uncaught a b = absurd (let f : AllEnded ≡ Dead = sym b.0 ∙ a in cc)
one_standing p m stop.Deadlock stop.Deadlock a b = refl
one_standing p m (stop.StepLimit t) u a b = absurd a
one_standing p m (stop.ThreadsFull t) u a b = absurd a
one_standing p m stop.WriteFault u a b = absurd a
one_standing p m stop.NoMemory u a b = absurd a
one_standing p m s (stop.StepLimit t) a b = absurd b
one_standing p m s (stop.ThreadsFull t) a b = absurd b
one_standing p m s stop.WriteFault a b = absurd b
one_standing p m s stop.NoMemory a b = absurd b

-- which is none where one can go on
not_going : (p : Program) (m : State) (s : Stop) → IsGoing p m → StandsAs s p m → ⊥
not_going p m stop.Done g a = absurd (let f : Going ≡ AllEnded = sym g ∙ a.0 in cc)
not_going p m stop.Uncaught g a = absurd (let f : Going ≡ AllEnded = sym g ∙ a.0 in cc)
not_going p m stop.Deadlock g a = absurd (let f : Going ≡ Dead = sym g ∙ a in cc)
not_going p m (stop.StepLimit t) g a = a
not_going p m (stop.ThreadsFull t) g a = a
not_going p m stop.WriteFault g a = a
not_going p m stop.NoMemory g a = a

-- ---- the stages

-- what files and words come to: a refusal, or none and the end of a replay, where there is one
data Found : Type 0 where
  Refuses : Refusal → Found
  Does : Option Stop → Found

-- the refusal of these
abbrev refusal_in : Found → Option Refusal
refusal_in (Refuses e) = Some e
refusal_in (Does s) = None

-- one can go on behind the last choice, or none can
abbrev AtEnd : Program → State → Found → Type 0
AtEnd p last = Tests (λ v. (v ≡ Refuses EarlyOrder) × IsGoing p last) (λ (s : Stop). StandsAs s p last) (λ s v. v ≡ Does (Some s))

-- all choices are enabled or aren't
abbrev AtOrder : Replayed → List Choice → Found → Type 0
AtOrder r order = Tests (λ v. (k : ℕ) × (v ≡ Refuses (NotEnabled k)) × Stuck r order k) (λ (last : State). LeadsTo r.program r.args order last) (λ last. AtEnd r.program last)

-- a text is an order's or isn't
abbrev AtText : Replayed → Found → Type 0
AtText r = Tests (λ v. (line : ℕ) × (v ≡ Refuses (BadOrder line)) × IsBadOrder line r) (λ order. IsOrderText r.text order) (λ order. AtOrder r order)

-- this is replayed
abbrev Retakes : Asked → List (Option (List ℕ)) → List ClassFile → Replayed → Type 0
Retakes a contents classes r =
    (a.command ≡ Replay) × (r.program ≡ linked classes (main_of a.main classes)) × (r.args ≡ a.args) × (slice_get contents 0 ≡ Some (Some r.text))

-- accepted files are replayed or aren't
abbrev AtTask : Asked → List (Option (List ℕ)) → List ClassFile → Found → Type 0
AtTask a contents classes = Tests (λ v. (v ≡ Does None) × (a.command ≡ Replay → ⊥)) (Retakes a contents classes) (λ r. AtText r)

-- linked class files are accepted or aren't
abbrev AtVerify : Asked → List (Option (List ℕ)) → List ClassFile → Found → Type 0
AtVerify a contents classes = Tests (λ v. (e : FlowErr) × (v ≡ Refuses (Flow e)) × accepting.AreUntyped e classes (main_of a.main classes)) (λ (u : Unit {0}). accepting.AreAccepted classes (main_of a.main classes)) (λ u. AtTask a contents classes)

-- class files are linked or aren't
abbrev AtLink : Asked → List (Option (List ℕ)) → List ClassFile → Found → Type 0
AtLink a contents classes = Tests (λ v. (e : LinkErr) × (v ≡ Refuses (Link e)) × (slice_get (link_refusals classes (main_of a.main classes)) 0 ≡ Some e)) (λ (u : Unit {0}). link_refusals classes (main_of a.main classes) ≡ []) (λ u. AtVerify a contents classes)

-- files are read or aren't
abbrev AtFiles : Asked → List (Option (List ℕ)) → Found → Type 0
AtFiles a contents = Tests (λ v. (e : Refusal) × (v ≡ Refuses e) × (read_files a.command contents ≡ Err e)) (λ classes. (read_files a.command contents ≡ Ok classes) × All IsClass classes) (λ classes. AtLink a contents classes)

-- what there is under the names of the files
abbrev contents_of : Files → Asked → List (Option (List ℕ))
contents_of fs a = map (bytes_under fs) a.files

-- the words are a command's or aren't
abbrev AtWords : Files → List (List ℕ) → Found → Type 0
AtWords fs words = Tests (λ v. (v ≡ Refuses Usage) × IsNoCall words) (IsCall words) (λ a. AtFiles a (contents_of fs a))

-- no text is two orders', and no two lines are its first fault
pub record OneReading : Type 0 where
  pub order : (text : List ℕ) (a b : List Choice) → IsOrderText text a → IsOrderText text b → a ≡ b
  pub fault : (text : List ℕ) (a b : ℕ) → IsFirstFault text a → IsFirstFault text b → a ≡ b

-- ---- each stage has one verdict at most

one_at_end : (p : Program) (last : State) (v w : Found) → AtEnd p last v → AtEnd p last w → v ≡ w
one_at_end p last = one_stage _ _ _
    (λ v w a b. a.0 ∙ sym b.0)
    (λ s u a b. one_standing p last s u a b)
    (λ v s a b. not_going p last s a.1 b)
    (λ s v w a b c. b ∙ sym c)

one_at_order : (r : Replayed) (order : List Choice) (v w : Found) → AtOrder r order v → AtOrder r order w → v ≡ w
one_at_order r order = one_stage _ _ _
    (λ v w a b. a.1 ∙ ap (λ (k : ℕ). Refuses (NotEnabled k)) (one_stuck r order a.0 b.0 a.2 b.2) ∙ sym b.1)
    (λ m l a b. one_last r.program (start r.program r.args) m l order a b)
    (λ v m a b. stuck_not_whole r order a.0 m a.2 b)
    (λ m v w a b c. one_at_end r.program m v w b c)

one_at_text : OneReading → (r : Replayed) (v w : Found) → AtText r v → AtText r w → v ≡ w
one_at_text one r = one_stage _ _ _
    (λ v w a b. a.1 ∙ ap (λ (k : ℕ). Refuses (BadOrder k)) (one.fault r.text a.0 b.0 a.2 b.2) ∙ sym b.1)
    (λ o u a b. one.order r.text o u a b)
    (λ v o a b. a.2.other o b)
    (λ o v w a b c. one_at_order r o v w b c)

-- what is replayed, of these three
abbrev the_replayed : Program → List (List ℕ) → List ℕ → Replayed
the_replayed p args text = record { program = p; args = args; text = text }

one_replayed : (a : Asked) (contents : List (Option (List ℕ))) (classes : List ClassFile) (r q : Replayed) → Retakes a contents classes r → Retakes a contents classes q → r ≡ q
one_replayed a contents classes r q h k =
    let both : Some (Some r.text) ≡ Some (Some q.text) = sym h.3 ∙ k.3 in
    let texts : r.text ≡ q.text = cc in
    ap (λ (p : Program). the_replayed p r.args r.text) (h.1 ∙ sym k.1)
    ∙ ap (λ (args : List (List ℕ)). the_replayed q.program args r.text) (h.2 ∙ sym k.2)
    ∙ ap (λ (text : List ℕ). the_replayed q.program q.args text) texts

one_at_task : OneReading → (a : Asked) (contents : List (Option (List ℕ))) (classes : List ClassFile) (v w : Found) → AtTask a contents classes v → AtTask a contents classes w → v ≡ w
one_at_task one a contents classes = one_stage _ _ _
    (λ v w p q. p.0 ∙ sym q.0)
    (λ r q h k. one_replayed a contents classes r q h k)
    (λ v r p h. p.1 h.0)
    (λ r v w h p q. one_at_text one r v w p q)

one_at_verify : OneReading → (a : Asked) (contents : List (Option (List ℕ))) (classes : List ClassFile) → All IsClass classes → (v w : Found) → AtVerify a contents classes v → AtVerify a contents classes w → v ≡ w
one_at_verify one a contents classes formed = one_stage _ _ _
    (λ v w p q. p.1 ∙ ap (λ (e : FlowErr). Refuses (Flow e)) (one_rejection classes (main_of a.main classes) formed p.0 q.0 p.2 q.2) ∙ sym q.1)
    (λ x y p q. refl)
    (λ v x p h. not_accepted classes (main_of a.main classes) p.0 p.2 h)
    (λ x v w h p q. one_at_task one a contents classes v w p q)

-- a list has one first item
one_first : (xs : List LinkErr) (d e : LinkErr) → slice_get xs 0 ≡ Some d → slice_get xs 0 ≡ Some e → d ≡ e
one_first xs d e p q = let both : Some d ≡ Some e = sym p ∙ q in cc

-- an empty one has none
no_first : (xs : List LinkErr) (e : LinkErr) → slice_get xs 0 ≡ Some e → xs ≡ [] → ⊥
no_first [] e p q = absurd cc
no_first (x ∷ xs) e p q = absurd cc

one_at_link : OneReading → (a : Asked) (contents : List (Option (List ℕ))) (classes : List ClassFile) → All IsClass classes → (v w : Found) → AtLink a contents classes v → AtLink a contents classes w → v ≡ w
one_at_link one a contents classes formed = one_stage _ _ _
    (λ v w p q. p.1 ∙ ap (λ (e : LinkErr). Refuses (Link e)) (one_first (link_refusals classes (main_of a.main classes)) p.0 q.0 p.2 q.2) ∙ sym q.1)
    (λ x y p q. refl)
    (λ v x p l. no_first (link_refusals classes (main_of a.main classes)) p.0 p.2 l)
    (λ x v w l p q. one_at_verify one a contents classes formed v w p q)

-- a reading answers one error
same_error : (r : Result (List ClassFile) Refusal) (d e : Refusal) → r ≡ Err d → r ≡ Err e → d ≡ e
same_error r d e p q = let both : (let x : Result (List ClassFile) Refusal = Err d in x ≡ Err e) = sym p ∙ q in cc

-- or one list of classes
same_classes : (r : Result (List ClassFile) Refusal) (d e : List ClassFile) → r ≡ Ok d → r ≡ Ok e → d ≡ e
same_classes r d e p q = let both : (let x : Result (List ClassFile) Refusal = Ok d in x ≡ Ok e) = sym p ∙ q in cc

-- and not both
read_or_not : (r : Result (List ClassFile) Refusal) (e : Refusal) (cs : List ClassFile) → r ≡ Err e → r ≡ Ok cs → ⊥
read_or_not r e cs p q = let both : (let x : Result (List ClassFile) Refusal = Err e in x ≡ Ok cs) = sym p ∙ q in absurd cc

one_at_files : OneReading → (a : Asked) (contents : List (Option (List ℕ))) (v w : Found) → AtFiles a contents v → AtFiles a contents w → v ≡ w
one_at_files one a contents = one_stage _ _ _
    (λ v w p q. p.1 ∙ ap (λ (e : Refusal). Refuses e) (same_error (read_files a.command contents) p.0 q.0 p.2 q.2) ∙ sym q.1)
    (λ x y p q. same_classes (read_files a.command contents) x y p.0 q.0)
    (λ v x p c. read_or_not (read_files a.command contents) p.0 x p.2 c.0)
    (λ x v w c p q. one_at_link one a contents x c.1 v w p q)

one_at_words : OneReading → (fs : Files) (words : List (List ℕ)) (v w : Found) → AtWords fs words v → AtWords fs words w → v ≡ w
one_at_words one fs words = one_stage _ _ _
    (λ v w p q. p.0 ∙ sym q.0)
    (λ a b p q. one_call words a b p q)
    (λ v a p r. p.1 a r)
    (λ a v w r p q. one_at_files one a (contents_of fs a) v w p q)

-- ---- each verdict stands at its stage

module _ (fs : Files) (words : List (List ℕ)) where
  -- of what there is under the names
  at_names : (P : Asked → List (Option (List ℕ)) → Type 0) (v : Found) → ((a : Asked) (contents : List (Option (List ℕ))) → P a contents → AtFiles a contents v) → Names (Some fs) words P → AtWords fs words v
  at_names P v f n = inr (n.asked, n.is_call, subst (λ (contents : List (Option (List ℕ))). AtFiles n.asked contents v) n.under (f n.asked n.contents n.such))

  -- a file at which reading stops
  at_stop : (P : Bool → Option (List ℕ) → Type 0) (k : ℕ) (e : Refusal) → ((order : Bool) (content : Option (List ℕ)) → P order content → read_at order k content ≡ Err e) → StopsFor P k (Some fs) words → AtWords fs words (Refuses e)
  at_stop P k e read = at_names (λ asked. StopsAt P asked.command k) (Refuses e) (λ a contents s.
      inl (e, refl, stop_files a.command k contents s.content s.classes e s.at s.before (read (is_order a.command k) s.content s.such)))

  -- files that are read go on
  at_classes : (a : Asked) (contents : List (Option (List ℕ))) (classes : List ClassFile) (v : Found) → AreRead a.command contents classes → AtLink a contents classes v → AtFiles a contents v
  at_classes a contents classes v are rest = inr (classes, (files_read a.command contents classes are, all_of IsClass classes (read_classes a.command contents classes are)), rest)

  -- so do those that are accepted
  at_accepted : (a : Asked) (contents : List (Option (List ℕ))) (v : Found) (l : AreAccepted a contents) → AtTask a contents l.classes v → AtFiles a contents v
  at_accepted a contents v l rest = at_classes a contents l.classes v l.are (inr (tt, l.accepted.links, inr (tt, l.accepted, rest)))

  -- other commands are done then
  at_done : (a : Asked) (contents : List (Option (List ℕ))) (l : AreAccepted a contents) → (a.command ≡ Replay → ⊥) → AtFiles a contents (Does None)
  at_done a contents l n = at_accepted a contents (Does None) l (inl (refl, n))

  -- and a replay begins
  at_replay : (P : Replayed → Type 0) (v : Found) → ((r : Replayed) → P r → AtText r v) → HasReplay P (Some fs) words → AtWords fs words v
  at_replay P v f = at_names (Replays P) v (λ a contents h.
      at_accepted a contents v h.is.program.accepted (inr (h.replayed, (h.is.program.asks, h.is.program.is, h.is.args, h.is.text), f h.replayed h.such)))

  -- one that comes to its end
  at_end : (s : Stop) → HasReplay (EndsAs s) (Some fs) words → AtWords fs words (Does (Some s))
  at_end s = at_replay (EndsAs s) (Does (Some s)) (λ r e. inr (e.order, e.text, inr (e.last, e.leads, inr (s, e.such, refl))))

  -- what a verdict comes to
  abbrev Comes : Option Refusal → Type 0
  Comes v = (o : Found) × AtWords fs words o × (refusal_in o ≡ v)

  at_words : (v : Option Refusal) → IsVerdict (Some fs) words v → Comes v
  at_words None (inl h) = (Does None, at_names (IsProgram Run h.0) (Does None) (λ a contents r. at_done a contents r.accepted (λ e. absurd (let f : Run ≡ Replay = sym r.asks ∙ e in cc))) h.1, refl)
  at_words None (inr (inl h)) = (Does None, at_names IsChecked (Does None) (λ a contents c. at_done a contents c.accepted (λ e. absurd (let f : Check ≡ Replay = sym c.check ∙ e in cc))) h, refl)
  at_words None (inr (inr h)) = (Does (Some h.0), at_end h.0 h.1, refl)
  at_words (Some (Link e)) h = (Refuses (Link e), at_names (AreRefused e) (Refuses (Link e)) (λ a contents r. at_classes a contents r.classes (Refuses (Link e)) r.are (inl (e, refl, r.first))) h, refl)
  at_words (Some (Flow e)) h = (Refuses (Flow e), at_names (AreUntyped e) (Refuses (Flow e)) (λ a contents r. at_classes a contents r.classes (Refuses (Flow e)) r.are (inr (tt, r.untyped.links, inl (e, refl, r.untyped)))) h, refl)
  at_words (Some Usage) h = (Refuses Usage, inl (refl, h), refl)
  at_words (Some (NoFile k)) h = (Refuses (NoFile k), at_stop IsMissing k (NoFile k) (missing_read k) h, refl)
  at_words (Some (TooLong k)) h = (Refuses (TooLong k), at_stop IsLong k (TooLong k) (long_read k) h, refl)
  at_words (Some (File k why)) h = (Refuses (File k why), at_stop (IsRefusedFile why) k (File k why) (refused_read k why) h, refl)
  at_words (Some (BadOrder line)) h = (Refuses (BadOrder line), at_replay (IsBadOrder line) (Refuses (BadOrder line)) (λ r b. inl (line, refl, b)) h, refl)
  at_words (Some (NotEnabled k)) h = (Refuses (NotEnabled k), at_replay (IsNotEnabled k) (Refuses (NotEnabled k)) (λ r n. inr (n.order, n.text, inl (k, refl, record { taken = n.taken; is = n.is; before = n.before; follows = n.follows; choice = n.choice; next = n.next; refused = n.refused }))) h, refl)
  at_words (Some EarlyOrder) h = (Refuses EarlyOrder, at_replay IsEarly (Refuses EarlyOrder) (λ r e. inr (e.order, e.text, inr (e.last, e.leads, inl (refl, e.such)))) h, refl)
  at_words (Some (ReadFault k)) h = absurd h
  at_words (Some WriteFault) h = absurd h
  at_words (Some NoMemory) h = absurd h

-- files and words have one verdict at most
pub one_verdict : OneReading → (fs : Files) (words : List (List ℕ)) (v w : Option Refusal) → IsVerdict (Some fs) words v → IsVerdict (Some fs) words w → v ≡ w
one_verdict one fs words v w p q =
    let a = at_words fs words v p in
    let b = at_words fs words w q in
    sym a.2 ∙ ap refusal_in (one_at_words one fs words a.0 b.0 a.1 b.1) ∙ b.2

-- files and words have one status at most
pub one_status : OneReading → (fs : Files) (words : List (List ℕ)) (v w : Option Refusal) → IsVerdict (Some fs) words v → IsVerdict (Some fs) words w → status_of v ≡ status_of w
one_status one fs words v w p q = ap status_of (one_verdict one fs words v w p q)

-- and one end of a replay
pub one_end : OneReading → (fs : Files) (words : List (List ℕ)) (s u : Stop) → HasReplay (EndsAs s) (Some fs) words → HasReplay (EndsAs u) (Some fs) words → s ≡ u
one_end one fs words s u p q =
    let both : Does (Some s) ≡ Does (Some u) = one_at_words one fs words (Does (Some s)) (Does (Some u)) (at_end fs words s p) (at_end fs words u q) in
    cc
