-- Each status comes exactly with its cause.
use Rattle.std.proofs.Common.{◌≡◌, ℕ, ◌==◌, List, [], ◌∷◌, Option, Some, None, refl, sym, ap, subst, ◌∙◌, ◌⊎◌, inl, inr, ⊎_elim, if◌then◌else◌, Bool, true, false, ◌||◌, arith}
use Rattle.std.specs.Prelude.{◌↔◌}
use Rattle.std.proofs.lemmas.Bool.{eq-eqb, or_parts}
use Rattle.cjvm_io.specs.Faults.{Rose}
use Rattle.cjvm_io.specs.Shelves.{Files}
use Rattle.cjvm_io.specs.Sinks.{Showing}
use Rattle.command_words.specs.declared.words.Command.{Command}
use Rattle.command_words.specs.declared.words.Command.TheVariants.{Run, Check, Replay}
use Rattle.machine_state.specs.declared.state.Choice.{Choice}
use Rattle.machine_state.specs.State.{State}
use Rattle.one_jvm.specs.Runs.{Job, LeadsTo, IsEnd, RanTo}
use Rattle.one_jvm.specs.Steps.Speaking.{IsSilent, Speaks, EndsSo, IsJudged}
use Rattle.one_jvm.proofs.EndLaws.{is_done, is_uncaught, is_deadlock}
use Rattle.one_jvm.specs.declared.outcome.Stop.{Stop}
use Rattle.one_jvm.specs.declared.outcome.Stop.TheVariants as stop
use Rattle.one_jvm.specs.declared.outcome.Refusal.{Refusal}
use Rattle.one_jvm.specs.declared.outcome.Refusal.TheVariants.{Usage, File, Link, Flow, NoFile, ReadFault, WriteFault, TooLong, NoMemory, BadOrder, NotEnabled, EarlyOrder}
use Rattle.one_jvm.specs.Words.{Asked, IsCall, IsNoCall, AskFor, IsRun, IsCheck, IsReplay, ShowsOrder}
use Rattle.one_jvm.specs.Replays.{Replayed, IsEarly, EndsAs}
use Rattle.one_jvm.specs.Verdicts.{LacksFile, HasLongFile, IsRefusedCall, HasBadOrder, HasCheckedFiles, HasReplay, IsDoneCall, IsVerdict}
use Rattle.one_jvm.specs.Outcomes.{status_of, end_status, outcome_status}
use Rattle.one_jvm.specs.Answers.{Faults, IsHindrance, IsHindered, Because, Ran, Agrees, IsRefusedRun, IsShown, IsShownText, OneOf, hindered, ends, broken, Exactly, Answers, AnswersOneOf, HasEndStatus, EndsRun, HasReplayStatus, EndsReplay, IsStatus, refusal_of, IsClosed}
use Rattle.one_jvm.proofs.RunLoop.{ran_leads}
use Rattle.one_jvm.proofs.WordLemmas.{one_command}

-- ---- the causes by their statuses

-- the causes that a verdict can have
data Cause : Type 0 where
  Accepted : Cause
  Misused : Cause
  Refused : Cause
  Missing : Cause
  Long : Cause
  Misordered : Cause
  Early : Cause
  Never : Cause

-- what each says
abbrev holds : Cause → Option Files → List (List ℕ) → Type 0
holds Accepted told words = IsDoneCall told words
holds Misused told words = IsNoCall words
holds Refused told words = IsRefusedCall told words
holds Missing told words = LacksFile told words
holds Long told words = HasLongFile told words
holds Misordered told words = HasBadOrder told words
holds Early told words = HasReplay IsEarly told words
holds Never told words = ⊥

-- the cause of a status
abbrev cause_of : ℕ → Cause
cause_of k =
    if k == 2 then Misused else if k == 3 then Refused else if k == 4 then Missing else
    if k == 11 then Long else if k == 12 then Misordered else if k == 13 then Early else
    if k == 0 then Accepted else Never

-- a verdict has the cause of its status
caused : (told : Option Files) (words : List (List ℕ)) (v : Option Refusal) → IsVerdict told words v → holds (cause_of (status_of v)) told words
caused told words None h = h
caused told words (Some Usage) h = h
caused told words (Some (File k why)) h = inl (k, why, h)
caused told words (Some (Link e)) h = inr (inl (e, h))
caused told words (Some (Flow e)) h = inr (inr (e, h))
caused told words (Some (NoFile k)) h = (k, h)
caused told words (Some (TooLong k)) h = (k, h)
caused told words (Some (BadOrder k)) h = inl (k, h)
caused told words (Some (NotEnabled k)) h = inr (k, h)
caused told words (Some EarlyOrder) h = h
caused told words (Some (ReadFault k)) h = h
caused told words (Some WriteFault) h = h
caused told words (Some NoMemory) h = h

-- a hindrance has one of its three statuses
strikes : (told : Option Files) (words : List (List ℕ)) (faults : Faults) (e : Refusal) → IsHindrance told words faults e → OneOf hindered (status_of (Some e))
strikes told words faults (ReadFault k) h = inl refl
strikes told words faults WriteFault h = inr (inl refl)
strikes told words faults NoMemory h = inr (inr (inl refl))
strikes told words faults Usage h = absurd h
strikes told words faults (File k why) h = absurd h
strikes told words faults (Link x) h = absurd h
strikes told words faults (Flow x) h = absurd h
strikes told words faults (NoFile k) h = absurd h
strikes told words faults (TooLong k) h = absurd h
strikes told words faults (BadOrder k) h = absurd h
strikes told words faults (NotEnabled k) h = absurd h
strikes told words faults EarlyOrder h = absurd h

-- a read fault's count rose
read_rose : (told : Option Files) (words : List (List ℕ)) (faults : Faults) (e : Refusal) → IsHindrance told words faults e → status_of (Some e) ≡ 5 → Rose faults.read_before faults.read_now
read_rose told words faults (ReadFault k) h e = h.rose
read_rose told words faults WriteFault h e = absurd (omega arith)
read_rose told words faults NoMemory h e = absurd (omega arith)
read_rose told words faults Usage h e = absurd h
read_rose told words faults (File k why) h e = absurd h
read_rose told words faults (Link x) h e = absurd h
read_rose told words faults (Flow x) h e = absurd h
read_rose told words faults (NoFile k) h e = absurd h
read_rose told words faults (TooLong k) h e = absurd h
read_rose told words faults (BadOrder k) h e = absurd h
read_rose told words faults (NotEnabled k) h e = absurd h
read_rose told words faults EarlyOrder h e = absurd h

-- a write fault's count rose
write_rose : (told : Option Files) (words : List (List ℕ)) (faults : Faults) (e : Refusal) → IsHindrance told words faults e → status_of (Some e) ≡ 6 → Rose faults.wrote_before faults.wrote_now
write_rose told words faults (ReadFault k) h e = absurd (omega arith)
write_rose told words faults WriteFault h e = h.1
write_rose told words faults NoMemory h e = absurd (omega arith)
write_rose told words faults Usage h e = absurd h
write_rose told words faults (File k why) h e = absurd h
write_rose told words faults (Link x) h e = absurd h
write_rose told words faults (Flow x) h e = absurd h
write_rose told words faults (NoFile k) h e = absurd h
write_rose told words faults (TooLong k) h e = absurd h
write_rose told words faults (BadOrder k) h e = absurd h
write_rose told words faults (NotEnabled k) h e = absurd h
write_rose told words faults EarlyOrder h e = absurd h

-- the number is one of these
abbrev has : List ℕ → ℕ → Bool
has [] k = false
has (n ∷ ns) k = (k == n) || has ns k

-- a number that isn't among them is none of them
apart : (ks : List ℕ) (k : ℕ) → has ks k ≡ false → OneOf ks k → ⊥
apart [] k e o = o
apart (n ∷ ns) k e (inl p) =
    let q : false ≡ true = sym (or_parts (k == n) (has ns k) e).0 ∙ eq-eqb k n p in absurd cc
apart (n ∷ ns) k e (inr o) = apart ns k (or_parts (k == n) (has ns k) e).1 o

-- what is refused has a verdict
refused_verdict : (fs : Files) (words : List (List ℕ)) → IsRefusedCall (Some fs) words → (e : Refusal) × IsVerdict (Some fs) words (Some e) × (status_of (Some e) ≡ 3)
refused_verdict fs words (inl r) = (File r.0 r.1, r.2, refl)
refused_verdict fs words (inr (inl r)) = (Link r.0, r.1, refl)
refused_verdict fs words (inr (inr r)) = (Flow r.0, r.1, refl)

-- so has one whose order is bad
misordered_verdict : (fs : Files) (words : List (List ℕ)) → HasBadOrder (Some fs) words → (e : Refusal) × IsVerdict (Some fs) words (Some e) × (status_of (Some e) ≡ 12)
misordered_verdict fs words (inl r) = (BadOrder r.0, r.1, refl)
misordered_verdict fs words (inr r) = (NotEnabled r.0, r.1, refl)

-- words that are no command have their verdict
no_run : (told : Option Files) (words : List (List ℕ)) (v : Option Refusal) → IsNoCall words → IsVerdict told words v → v ≡ Some Usage
no_run told words None n (inl h) = absurd (n h.1.asked h.1.is_call)
no_run told words None n (inr (inl h)) = absurd (n h.asked h.is_call)
no_run told words None n (inr (inr h)) = absurd (n h.1.asked h.1.is_call)
no_run told words (Some Usage) n h = refl
no_run told words (Some (File k why)) n h = absurd (n h.asked h.is_call)
no_run told words (Some (Link e)) n h = absurd (n h.asked h.is_call)
no_run told words (Some (Flow e)) n h = absurd (n h.asked h.is_call)
no_run told words (Some (NoFile k)) n h = absurd (n h.asked h.is_call)
no_run told words (Some (TooLong k)) n h = absurd (n h.asked h.is_call)
no_run told words (Some (BadOrder k)) n h = absurd (n h.asked h.is_call)
no_run told words (Some (NotEnabled k)) n h = absurd (n h.asked h.is_call)
no_run told words (Some EarlyOrder) n h = absurd (n h.asked h.is_call)
no_run told words (Some (ReadFault k)) n h = absurd h
no_run told words (Some WriteFault) n h = absurd h
no_run told words (Some NoMemory) n h = absurd h

-- only want of memory hinders a call whose words are no command
wants : (told : Option Files) (words : List (List ℕ)) (faults : Faults) (e : Refusal) → IsHindrance told words faults e → IsNoCall words → status_of (Some e) ≡ 20
wants told words faults NoMemory h n = refl
wants told words faults (ReadFault k) h n = absurd (n h.stops.asked h.stops.is_call)
wants told words faults WriteFault h n = absurd (n h.0.0 h.0.1)
wants told words faults Usage h n = absurd h
wants told words faults (File k why) h n = absurd h
wants told words faults (Link x) h n = absurd h
wants told words faults (Flow x) h n = absurd h
wants told words faults (NoFile k) h n = absurd h
wants told words faults (TooLong k) h n = absurd h
wants told words faults (BadOrder k) h n = absurd h
wants told words faults (NotEnabled k) h n = absurd h
wants told words faults EarlyOrder h n = absurd h

-- ---- as the call knows them

-- the refusal is the plain one, or a fault of standard error hides it
abbrev pub IsOrHides : Option Refusal → Option Refusal → Type 0
IsOrHides plain refusal = (refusal ≡ plain) ⊎ (refusal ≡ Some WriteFault)

-- what was reported is so
pub hides : (name : List ℕ) (plain : Option Refusal) (before now : Showing) (refusal : Option Refusal) → IsClosed name plain before now refusal → IsOrHides plain refusal
hides name plain before now refusal h = ⊎_elim (λ a. inl a.0) (λ b. inr b.0) h

-- a fault of standard error hides a refusal, and what an end tells
pub plain_none : (plain refusal : Option Refusal) → IsOrHides plain refusal → refusal ≡ None → plain ≡ None
plain_none plain refusal h e = ⊎_elim (λ p. sym p ∙ e) (λ p. let q : None ≡ Some WriteFault = sym e ∙ p in absurd cc) h

-- ---- ends of runs that aren't refused

-- the end of a run that isn't refused has one of five statuses
run_end : (s : Stop) → IsRefusedRun s None → OneOf ends (end_status (Some s))
run_end stop.Done a = inl refl
run_end stop.Uncaught a = inr (inl refl)
run_end (stop.StepLimit t) a = inr (inr (inl refl))
run_end stop.Deadlock a = inr (inr (inr (inl refl)))
run_end (stop.ThreadsFull t) a = inr (inr (inr (inr (inl refl))))
run_end stop.WriteFault (inl e) = absurd cc
run_end stop.WriteFault (inr e) = absurd cc
run_end stop.NoMemory (inl e) = absurd cc
run_end stop.NoMemory (inr e) = absurd cc

-- that of a replay has one of three
replay_end : (s : Stop) (r : Replayed) → EndsAs s r → OneOf ends (end_status (Some s))
replay_end stop.Done r e = inl refl
replay_end stop.Uncaught r e = inr (inl refl)
replay_end stop.Deadlock r e = inr (inr (inr (inl refl)))
replay_end (stop.StepLimit t) r e = absurd e.such
replay_end (stop.ThreadsFull t) r e = absurd e.such
replay_end stop.WriteFault r e = absurd e.such
replay_end stop.NoMemory r e = absurd e.such

-- so has the end of any call that isn't refused
pub end_is : (words : List (List ℕ)) (told : Option Files) (s end : Option Stop) (refusal : Option Refusal) → Agrees words s refusal → EndsSo words told s end refusal → refusal ≡ None → OneOf ends (end_status end)
end_is words told (Some s) end None a e n = subst (λ (x : Option Stop). OneOf ends (end_status x)) (sym e) (run_end s a.1)
end_is words told None end None a (inl e) n = subst (λ (x : Option Stop). OneOf ends (end_status x)) (sym e.1) (inl refl)
end_is words told None end None a (inr e) n = subst (λ (x : Option Stop). OneOf ends (end_status x)) (sym e.1) (replay_end e.0 e.2.such.replayed e.2.such.such)
end_is words told s end (Some e) a x n = absurd cc

-- no refusal has one of these
refusal_is : (e : Refusal) → has ends (status_of (Some e)) ≡ false
refusal_is Usage = refl
refusal_is (File k why) = refl
refusal_is (Link x) = refl
refusal_is (Flow x) = refl
refusal_is (NoFile k) = refl
refusal_is (ReadFault k) = refl
refusal_is WriteFault = refl
refusal_is (TooLong k) = refl
refusal_is (BadOrder k) = refl
refusal_is (NotEnabled k) = refl
refusal_is EarlyOrder = refl
refusal_is NoMemory = refl

-- so what has one isn't refused
none_at : (s : Option Stop) (refusal : Option Refusal) → OneOf ends (outcome_status s refusal) → refusal ≡ None
none_at s None o = refl
none_at s (Some e) o = absurd (apart ends (status_of (Some e)) (refusal_is e) o)

-- a number that is none of an end's is that of no end
not_an_end : (k j : ℕ) → has ends k ≡ false → j ≡ k → OneOf ends j → ⊥
not_an_end k j n e o = apart ends k n (subst (OneOf ends) e o)

-- files and words have one verdict at most, and one end of a replay
pub record OneVerdict : Type 0 where
  pub one : (fs : Files) (words : List (List ℕ)) (v w : Option Refusal) → IsVerdict (Some fs) words v → IsVerdict (Some fs) words w → v ≡ w
  pub end : (fs : Files) (words : List (List ℕ)) (s u : Stop) → HasReplay (EndsAs s) (Some fs) words → HasReplay (EndsAs u) (Some fs) words → s ≡ u

module _ (law : OneVerdict) (words : List (List ℕ)) (told : Option Files) (faults : Faults) (s : Option Stop) (plain refusal : Option Refusal) (status : ℕ)
    (is : status ≡ outcome_status s refusal) (okay : plain ≡ None → OneOf ends (end_status s)) (b : Because words told faults plain) (h : IsOrHides plain refusal) where
  -- the status is that of the plain refusal, or of a write fault
  shows : (status ≡ outcome_status s plain) ⊎ (status ≡ 6)
  shows = ⊎_elim (λ e. inl (is ∙ ap (outcome_status s) e)) (λ e. inr (is ∙ ap (outcome_status s) e)) h

  -- where nothing is refused the status is an end's
  plain_end : plain ≡ None → OneOf ends (outcome_status s plain)
  plain_end e = subst (λ (r : Option Refusal). OneOf ends (outcome_status s r)) (sym e) (okay e)

  -- the status of a hindered call is one of three
  when_hindered : IsHindered told words faults plain → OneOf hindered (outcome_status s plain)
  when_hindered x = subst (λ (r : Option Refusal). OneOf hindered (outcome_status s r)) (sym x.shows) (strikes told words faults x.hindrance x.strikes)

  -- a refused call has its status
  plain_status : (k : ℕ) → has ends k ≡ false → outcome_status s plain ≡ k → status_of plain ≡ k
  plain_status k n e = by_plain plain plain_end e
    where
      by_plain : (v : Option Refusal) → (v ≡ None → OneOf ends (outcome_status s v)) → outcome_status s v ≡ k → status_of v ≡ k
      by_plain None o f = absurd (not_an_end k (outcome_status s None) n f (o refl))
      by_plain (Some x) o f = f

  -- a verdict's cause, where the status is the plain refusal's
  of_verdict : (k : ℕ) → has ends k ≡ false → IsVerdict told words plain → outcome_status s plain ≡ k → holds (cause_of k) told words
  of_verdict k n v e = subst (λ (n : ℕ). holds (cause_of n) told words) (plain_status k n e) (caused told words plain v)

  -- a status that no end and no hindrance has comes exactly with its cause
  answers : (k : ℕ) → has ends k ≡ false → (OneOf hindered k → ⊥) → ((fs : Files) → holds (cause_of k) (Some fs) words → (e : Refusal) × IsVerdict (Some fs) words (Some e) × (status_of (Some e) ≡ k)) → Answers told words status k (holds (cause_of k))
  answers k n apart back fs t = record {
    only = λ e. ⊎_elim
        (λ p. ⊎_elim
        (λ v. subst (λ (x : Option Files). holds (cause_of k) x words) t (of_verdict k n v (sym p ∙ e)))
        (λ x. absurd (apart (subst (OneOf hindered) (sym p ∙ e) (when_hindered x)))) b)
        (λ p. absurd (apart (inr (inl (sym e ∙ p))))) shows;
    always = λ c. ⊎_elim
        (λ p. ⊎_elim
        (λ o.
        let v = subst (λ (x : Option Files). IsVerdict x words plain) t o in
        let r = back fs c in
        inl (p ∙ ap (outcome_status s) (law.one fs words plain (Some r.0) v r.1) ∙ r.2))
        (λ x. inr (subst (OneOf hindered) (sym p) (when_hindered x))) b)
        (λ p. inr (inr (inl p))) shows;
  }

  pub refused : Answers told words status 3 IsRefusedCall
  refused = answers 3 refl (apart hindered 3 refl) (λ fs r. refused_verdict fs words r)

  pub no_file : Answers told words status 4 LacksFile
  no_file = answers 4 refl (apart hindered 4 refl) (λ fs l. (NoFile l.0, l.1, refl))

  pub too_long : Answers told words status 11 HasLongFile
  too_long = answers 11 refl (apart hindered 11 refl) (λ fs l. (TooLong l.0, l.1, refl))

  pub bad_order : Answers told words status 12 HasBadOrder
  bad_order = answers 12 refl (apart hindered 12 refl) (λ fs l. misordered_verdict fs words l)

  pub early : Answers told words status 13 (HasReplay IsEarly)
  early = answers 13 refl (apart hindered 13 refl) (λ fs l. (EarlyOrder, l, refl))

  -- an end's status is that of no refusal
  plain_at : OneOf ends status → plain ≡ None
  plain_at o = plain_none plain refusal h (none_at s refusal (subst (OneOf ends) is o))

  pub ended : AnswersOneOf told words status ends IsDoneCall
  ended fs t = record {
    only = λ o.
        let none : plain ≡ None = plain_at o in
        ⊎_elim
        (λ v. subst (λ (x : Option Files). IsDoneCall x words) t (subst (λ (r : Option Refusal). IsVerdict told words r) none v))
        (λ x. absurd (let e : None ≡ Some x.hindrance = sym none ∙ x.shows in cc)) b;
    always = λ c. ⊎_elim
        (λ p. ⊎_elim
        (λ o.
        let v = subst (λ (x : Option Files). IsVerdict x words plain) t o in
        inl (subst (OneOf ends) (sym p) (plain_end (law.one fs words plain None v c))))
        (λ x. inr (subst (OneOf hindered) (sym p) (when_hindered x))) b)
        (λ p. inr (inr (inl p))) shows;
  }

  -- words that are no command have their status, whatever the files
  pub usage : Exactly status 2 broken (IsNoCall words)
  usage = record {
    only = λ e. ⊎_elim
        (λ p. ⊎_elim
        (λ o. of_verdict 2 refl o (sym p ∙ e))
        (λ x. absurd (apart hindered 2 refl (subst (OneOf hindered) (sym p ∙ e) (when_hindered x)))) b)
        (λ p. absurd (apart hindered 2 refl (inr (inl (sym e ∙ p))))) shows;
    always = λ n. ⊎_elim
        (λ p. ⊎_elim
        (λ o. inl (p ∙ ap (outcome_status s) (no_run told words plain n o)))
        (λ x. inr (inr (inl (p ∙ ap (outcome_status s) x.shows ∙ wants told words faults x.hindrance x.strikes n)))) b)
        (λ p. inr (inl p)) shows;
  }

  -- a read fault has its cause
  pub read_fault : status ≡ 5 → Rose faults.read_before faults.read_now
  read_fault e = ⊎_elim
      (λ p. ⊎_elim
      (λ o. absurd (of_verdict 5 refl o (sym p ∙ e)))
      (λ x. read_rose told words faults x.hindrance x.strikes (ap (outcome_status s) (sym x.shows) ∙ sym p ∙ e)) b)
      (λ p. absurd (let q : 5 ≡ 6 = sym e ∙ p in omega (arith, q))) shows

  -- a write fault of the plain refusal has its cause
  pub write_fault : outcome_status s plain ≡ 6 → Rose faults.wrote_before faults.wrote_now
  write_fault e = ⊎_elim
      (λ o. absurd (of_verdict 6 refl o e))
      (λ x. write_rose told words faults x.hindrance x.strikes (ap (outcome_status s) (sym x.shows) ∙ e)) b

  -- nothing is refused exactly where the status is an end's
  pub unrefused : (refusal ≡ None) ↔ OneOf ends status
  unrefused = (
    λ e.
        let none = plain_none plain refusal h e in
        subst (OneOf ends) (sym (is ∙ ap (outcome_status s) (e ∙ sym none))) (plain_end none),
    λ o. none_at s refusal (subst (OneOf ends) is o),
  )

-- a write fault has its cause, at standard output or at standard error
pub any_write_fault : OneVerdict → (words : List (List ℕ)) (told : Option Files) (faults : Faults) (text : List ℕ) (s : Option Stop) (plain refusal : Option Refusal) (before now : Showing) (status : ℕ)
    → status ≡ outcome_status s refusal → (plain ≡ None → OneOf ends (end_status s)) → Because words told faults plain → IsClosed text plain before now refusal
    → status ≡ 6 → Rose faults.wrote_before faults.wrote_now ⊎ Rose before.faults now.faults
any_write_fault law words told faults text s plain refusal before now status is okay b closed e = ⊎_elim
    (λ a. inl (write_fault law words told faults s plain refusal status is okay b (inl a.0) (ap (outcome_status s) (sym a.0) ∙ sym is ∙ e)))
    (λ c. inr c.1) closed

-- what a subject of no refusal is
pub speaks_none : (words : List (List ℕ)) (plain : Option Refusal) (text subject : List ℕ) → Speaks words plain text subject → plain ≡ None → subject ≡ text
speaks_none words None text subject h e = h
speaks_none words (Some x) text subject h e = absurd cc

-- ---- the status of a run or a replay

-- status 0 is that of a check, or of an end where all threads have ended
zero_is : (s : Option Stop) → end_status s ≡ 0 → (s ≡ None) ⊎ (s ≡ Some stop.Done)
zero_is None e = inl refl
zero_is (Some stop.Done) e = inr refl
zero_is (Some stop.Uncaught) e = absurd (omega arith)
zero_is (Some (stop.StepLimit t)) e = absurd (omega arith)
zero_is (Some stop.Deadlock) e = absurd (omega arith)
zero_is (Some (stop.ThreadsFull t)) e = absurd (omega arith)
zero_is (Some stop.WriteFault) e = absurd (omega arith)
zero_is (Some stop.NoMemory) e = absurd (omega arith)

done_by : (s : Stop) → end_status (Some s) ≡ 0 → s ≡ stop.Done
done_by stop.Done e = refl
done_by stop.Uncaught e = absurd (omega arith)
done_by (stop.StepLimit t) e = absurd (omega arith)
done_by stop.Deadlock e = absurd (omega arith)
done_by (stop.ThreadsFull t) e = absurd (omega arith)
done_by stop.WriteFault e = absurd (omega arith)
done_by stop.NoMemory e = absurd (omega arith)

uncaught_by : (s : Stop) → end_status (Some s) ≡ 1 → s ≡ stop.Uncaught
uncaught_by stop.Uncaught e = refl
uncaught_by stop.Done e = absurd (omega arith)
uncaught_by (stop.StepLimit t) e = absurd (omega arith)
uncaught_by stop.Deadlock e = absurd (omega arith)
uncaught_by (stop.ThreadsFull t) e = absurd (omega arith)
uncaught_by stop.WriteFault e = absurd (omega arith)
uncaught_by stop.NoMemory e = absurd (omega arith)

deadlock_by : (s : Stop) → end_status (Some s) ≡ 9 → s ≡ stop.Deadlock
deadlock_by stop.Deadlock e = refl
deadlock_by stop.Done e = absurd (omega arith)
deadlock_by stop.Uncaught e = absurd (omega arith)
deadlock_by (stop.StepLimit t) e = absurd (omega arith)
deadlock_by (stop.ThreadsFull t) e = absurd (omega arith)
deadlock_by stop.WriteFault e = absurd (omega arith)
deadlock_by stop.NoMemory e = absurd (omega arith)

limit_by : (s : Stop) → end_status (Some s) ≡ 8 → (t : ℕ) × (s ≡ stop.StepLimit t)
limit_by (stop.StepLimit t) e = (t, refl)
limit_by stop.Done e = absurd (omega arith)
limit_by stop.Uncaught e = absurd (omega arith)
limit_by stop.Deadlock e = absurd (omega arith)
limit_by (stop.ThreadsFull t) e = absurd (omega arith)
limit_by stop.WriteFault e = absurd (omega arith)
limit_by stop.NoMemory e = absurd (omega arith)

full_by : (s : Stop) → end_status (Some s) ≡ 10 → (t : ℕ) × (s ≡ stop.ThreadsFull t)
full_by (stop.ThreadsFull t) e = (t, refl)
full_by stop.Done e = absurd (omega arith)
full_by stop.Uncaught e = absurd (omega arith)
full_by (stop.StepLimit t) e = absurd (omega arith)
full_by stop.Deadlock e = absurd (omega arith)
full_by stop.WriteFault e = absurd (omega arith)
full_by stop.NoMemory e = absurd (omega arith)

-- how a run ended, as far as its status tells
module _ (j : Job) (last : State) (s : Stop) (e : IsEnd j last s) (refusal : Option Refusal) (status : ℕ) (is : status ≡ outcome_status (Some s) refusal) (h : IsOrHides None refusal) where
  -- it is that of the end, or of a write fault
  run_shows : (status ≡ end_status (Some s)) ⊎ (status ≡ 6)
  run_shows = ⊎_elim (λ q. inl (is ∙ ap (outcome_status (Some s)) q)) (λ q. inr (is ∙ ap (outcome_status (Some s)) q)) h

  -- a status that isn't a write fault's is that of the end
  of_end : (k : ℕ) → (k ≡ 6 → ⊥) → status ≡ k → end_status (Some s) ≡ k
  of_end k n q = ⊎_elim (λ r. sym r ∙ q) (λ r. absurd (n (sym q ∙ r))) run_shows

  -- a status comes with its end
  comes : (x : Stop) → s ≡ x → OneOf (end_status (Some x) ∷ broken) status
  comes x q = ⊎_elim (λ r. inl (r ∙ ap (λ (y : Stop). end_status (Some y)) q)) (λ r. inr (inl r)) run_shows

  ends_as : (x : Stop) → s ≡ x → IsEnd j last x
  ends_as x q = subst (IsEnd j last) q e

  run_done : Exactly status 0 broken (IsEnd j last stop.Done)
  run_done = record { only = λ q. ends_as stop.Done (done_by s (of_end 0 (λ r. absurd (omega arith)) q)); always = λ d. comes stop.Done (is_done j last s d e) }

  run_uncaught : Exactly status 1 broken (IsEnd j last stop.Uncaught)
  run_uncaught = record { only = λ q. ends_as stop.Uncaught (uncaught_by s (of_end 1 (λ r. absurd (omega arith)) q)); always = λ d. comes stop.Uncaught (is_uncaught j last s d e) }

  run_deadlock : Exactly status 9 broken (IsEnd j last stop.Deadlock)
  run_deadlock = record { only = λ q. ends_as stop.Deadlock (deadlock_by s (of_end 9 (λ r. absurd (omega arith)) q)); always = λ d. comes stop.Deadlock (is_deadlock j last s d e) }

  run_limit : status ≡ 8 → (t : ℕ) × IsEnd j last (stop.StepLimit t)
  run_limit q = let l = limit_by s (of_end 8 (λ r. absurd (omega arith)) q) in (l.0, ends_as (stop.StepLimit l.0) l.1)

  run_full : status ≡ 10 → (t : ℕ) × IsEnd j last (stop.ThreadsFull t)
  run_full q = let l = full_by s (of_end 10 (λ r. absurd (omega arith)) q) in (l.0, ends_as (stop.ThreadsFull l.0) l.1)

  end_status_of : (order : List Choice) → LeadsTo j order last → HasEndStatus j order status
  end_status_of order leads = record { last = last; leads = leads; done = run_done; uncaught = run_uncaught; deadlock = run_deadlock; step_limit = run_limit; threads_full = run_full }

-- a run that was cut off has the status of that
cut_status : (j : Job) (order : List Choice) (last : State) (status : ℕ) → LeadsTo j order last → OneOf broken status → HasEndStatus j order status
cut_status j order last status leads o = record {
  last = last;
  leads = leads;
  done = record { only = λ q. absurd (apart broken 0 refl (subst (OneOf broken) q o)); always = λ d. inr o };
  uncaught = record { only = λ q. absurd (apart broken 1 refl (subst (OneOf broken) q o)); always = λ d. inr o };
  deadlock = record { only = λ q. absurd (apart broken 9 refl (subst (OneOf broken) q o)); always = λ d. inr o };
  step_limit = λ q. absurd (apart broken 8 refl (subst (OneOf broken) q o));
  threads_full = λ q. absurd (apart broken 10 refl (subst (OneOf broken) q o));
}

-- where one was refused, or its refusal is hidden
cut_is : (s : Stop) (e : Refusal) (refusal : Option Refusal) (status : ℕ) → OneOf broken (status_of (Some e)) → status ≡ outcome_status (Some s) refusal → IsOrHides (Some e) refusal → OneOf broken status
cut_is s e refusal status o is (inl q) = subst (OneOf broken) (sym (is ∙ ap (outcome_status (Some s)) q)) o
cut_is s e refusal status o is (inr q) = inl (is ∙ ap (outcome_status (Some s)) q)

-- by how it ended
run_status_by : (j : Job) (order : List Choice) (before now : Showing) (s : Stop) (refusal : Option Refusal) (status : ℕ) → RanTo j order before now s → status ≡ outcome_status (Some s) refusal → IsOrHides (refusal_of s) refusal → HasEndStatus j order status
run_status_by j order before now stop.Done refusal status r is h = end_status_of j r.last stop.Done r.ended refusal status is h order r.leads
run_status_by j order before now stop.Uncaught refusal status r is h = end_status_of j r.last stop.Uncaught r.ended refusal status is h order r.leads
run_status_by j order before now (stop.StepLimit t) refusal status r is h = end_status_of j r.last (stop.StepLimit t) r.ended refusal status is h order r.leads
run_status_by j order before now stop.Deadlock refusal status r is h = end_status_of j r.last stop.Deadlock r.ended refusal status is h order r.leads
run_status_by j order before now (stop.ThreadsFull t) refusal status r is h = end_status_of j r.last (stop.ThreadsFull t) r.ended refusal status is h order r.leads
run_status_by j order before now stop.WriteFault refusal status r is h = cut_status j order r.0.last status r.0.leads (cut_is stop.WriteFault WriteFault refusal status (inl refl) is h)
run_status_by j order before now stop.NoMemory refusal status r is h = cut_status j order r.last status r.leads (cut_is stop.NoMemory NoMemory refusal status (inr (inl refl)) is h)

-- a run's own status, or that of want of memory for what is told of it
run_status_for : (j : Job) (order : List Choice) (before now : Showing) (s : Stop) (plain refusal : Option Refusal) (status : ℕ) → RanTo j order before now s → IsRefusedRun s plain → status ≡ outcome_status (Some s) refusal → IsOrHides plain refusal → HasEndStatus j order status
run_status_for j order before now s plain refusal status r (inl e) is h = run_status_by j order before now s refusal status r is (subst (λ (x : Option Refusal). IsOrHides x refusal) e h)
run_status_for j order before now s plain refusal status r (inr e) is h =
    let l = ran_leads j order before now s r in
    cut_status j order l.0 status l.1 (cut_is s NoMemory refusal status (inr (inl refl)) is (subst (λ (x : Option Refusal). IsOrHides x refusal) e h))

-- the status of a refused call is that of its refusal
same_status : (s end : Option Stop) (plain refusal : Option Refusal) (status : ℕ) → (plain ≡ None → end ≡ s) → IsOrHides plain refusal → status ≡ outcome_status end refusal → status ≡ outcome_status s refusal
same_status s end plain (Some e) status same h is = is
same_status s end plain None status same h is = is ∙ ap end_status (same (plain_none plain None h refl))

-- ---- what a judged call has

module _ (law : OneVerdict) (words : List (List ℕ)) (told : Option Files) (faults : Faults) (before now : Showing) (order : List Choice) (s end : Option Stop) (plain refusal : Option Refusal) (text listing name subject : List ℕ) (status : ℕ)
    (v : IsJudged words told faults before now order s end plain text listing name) (speaks : plain ≡ None → subject ≡ text)
    (closed : plain ≡ None → subject ≡ [] → listing ≡ [] → refusal ≡ None) (is : status ≡ outcome_status end refusal) (h : IsOrHides plain refusal) where
  -- words that ask for one command don't ask for another
  apart_run : (c d : Command) → (c ≡ d → ⊥) → AskFor c words → AskFor d words → ⊥
  apart_run c d n a b = n (one_command words a.0 c d a.1 a.2 b)

  -- what is replayed was asked for
  asked_replay : (P : Replayed → Type 0) → HasReplay P told words → IsReplay words
  asked_replay P n = (n.asked, n.is_call, n.such.is.program.asks)

  -- where words ask for a check or a replay, no run was begun
  none_begun : ¬ IsRun words → s ≡ None
  none_begun n = by_stop s v.agrees
    where
      by_stop : (x : Option Stop) → Agrees words x plain → x ≡ None
      by_stop None a = refl
      by_stop (Some x) a = absurd (n a.0)

  pub not_run : ¬ IsRun words → s ≡ None
  not_run n = none_begun n

  -- the end of a run that isn't refused is that of the call
  run_ended : (x : Stop) → s ≡ Some x → plain ≡ None → end ≡ Some x
  run_ended x e n =
      let a : EndsSo words told (Some x) end None = subst (λ (y : Option Stop). EndsSo words told y end None) e (subst (EndsSo words told s end) n v.ends) in
      a

  -- that of a replay is told
  replay_ended : IsReplay words → plain ≡ None → (x : Stop) × (end ≡ Some x) × HasReplay (EndsAs x) told words
  replay_ended r n =
      let none : s ≡ None = none_begun (λ k. apart_run Run Replay (λ e. absurd cc) k r) in
      let a : EndsSo words told None end None = subst (λ (y : Option Stop). EndsSo words told y end None) none (subst (EndsSo words told s end) n v.ends) in
      ⊎_elim (λ c. absurd (apart_run Check Replay (λ e. absurd cc) c.0 r)) (λ x. x) a

  -- a check has none
  check_ended : IsCheck words → plain ≡ None → end ≡ None
  check_ended c n =
      let none : s ≡ None = none_begun (λ k. apart_run Run Check (λ e. absurd cc) k c) in
      let a : EndsSo words told None end None = subst (λ (y : Option Stop). EndsSo words told y end None) none (subst (EndsSo words told s end) n v.ends) in
      ⊎_elim (λ x. x.1) (λ x. absurd (apart_run Check Replay (λ e. absurd cc) c (asked_replay (EndsAs x.0) x.2))) a

  -- other words than a replay's have the end of their run, if any
  same_end : ¬ IsReplay words → plain ≡ None → end ≡ s
  same_end n e = by_stop s (subst (EndsSo words told s end) e v.ends)
    where
      by_stop : (x : Option Stop) → EndsSo words told x end None → end ≡ x
      by_stop (Some x) a = a
      by_stop None (inl a) = a.1
      by_stop None (inr a) = absurd (n (asked_replay (EndsAs a.0) a.2))

  pub is_status : IsStatus words s refusal status
  is_status = by_refusal refusal h is
    where
      by_refusal : (r : Option Refusal) → IsOrHides plain r → status ≡ outcome_status end r → IsStatus words s r status
      by_refusal (Some e) h i = i
      by_refusal None h i = λ n. i ∙ ap end_status (same_end n (plain_none plain None h refl))

  -- ---- what standard error is left

  -- nothing is shown where the words don't ask for it
  unshown : ¬ ShowsOrder words → listing ≡ []
  unshown n = by_stop s v.showing
    where
      by_shows : (asked : Asked) (b : Bool) → IsCall words asked → asked.shows ≡ b → IsShownText b order plain listing → listing ≡ []
      by_shows asked false c e i = i
      by_shows asked true c e i = absurd (n (asked, c, e))

      by_stop : (x : Option Stop) → IsShown words order x plain listing → listing ≡ []
      by_stop None i = i
      by_stop (Some x) i = by_shows i.0 i.0.shows i.1 refl i.2

  unbegun_shown : s ≡ None → listing ≡ []
  unbegun_shown e = subst (λ (x : Option Stop). IsShown words order x plain listing) e v.showing

  -- a check tells nothing
  pub check_quiet : IsCheck words → plain ≡ None → refusal ≡ None
  check_quiet c n =
      let silent : text ≡ [] = subst (λ (x : Option Stop). IsSilent x text) (check_ended c n) (v.silent n) in
      closed n (speaks n ∙ silent) (unbegun_shown (none_begun (λ k. apart_run Run Check (λ e. absurd cc) k c)))

  -- nor does status 0
  zero_silent : status ≡ 0 → (plain ≡ None) × (subject ≡ [])
  zero_silent z =
      let none : refusal ≡ None = none_at end refusal (inl (sym is ∙ z)) in
      let n : plain ≡ None = plain_none plain refusal h none in
      let zero : end_status end ≡ 0 = ap (outcome_status end) (sym none) ∙ sym is ∙ z in
      (n, speaks n ∙ by_end end (zero_is end zero) (v.silent n))
    where
      by_end : (x : Option Stop) → (x ≡ None) ⊎ (x ≡ Some stop.Done) → IsSilent x text → text ≡ []
      by_end x (inl e) i = subst (λ (y : Option Stop). IsSilent y text) e i
      by_end x (inr e) i = subst (λ (y : Option Stop). IsSilent y text) e i

  pub unreported : status ≡ 0 → ¬ ShowsOrder words → (plain ≡ None) × (subject ≡ []) × (listing ≡ [])
  unreported z n = let q = zero_silent z in (q.0, q.1, unshown n)

  -- ---- status 0 of a run

  pub quiet : ¬ ShowsOrder words → s ≡ Some stop.Done → status ≡ 0
  quiet n e =
      let p : plain ≡ None = v.quiet e n in
      let d : end ≡ Some stop.Done = run_ended stop.Done e p in
      let silent : text ≡ [] = subst (λ (x : Option Stop). IsSilent x text) d (v.silent p) in
      let r : refusal ≡ None = closed p (speaks p ∙ silent) (unshown n) in
      is ∙ ap (outcome_status end) r ∙ ap end_status d

  pub done : IsRun words → Exactly status 0 broken (s ≡ Some stop.Done)
  done r = record {
    only = λ z.
        let none : refusal ≡ None = none_at end refusal (inl (sym is ∙ z)) in
        let p : plain ≡ None = plain_none plain refusal h none in
        let same : end ≡ s = same_end (λ k. apart_run Run Replay (λ e. absurd cc) r k) p in
        let zero : end_status s ≡ 0 = ap end_status (sym same) ∙ ap (outcome_status end) (sym none) ∙ sym is ∙ z in
        by_end s (zero_is s zero) (subst (Agrees words s) p v.agrees);
    always = λ d.
        let a : Agrees words (Some stop.Done) plain = subst (λ (x : Option Stop). Agrees words x plain) d v.agrees in
        by_hides d h a.1;
  }
    where
      by_end : (x : Option Stop) → (x ≡ None) ⊎ (x ≡ Some stop.Done) → Agrees words x None → x ≡ Some stop.Done
      by_end None e (inl a) = absurd (a r)
      by_end None e (inr a) = absurd (a.0 refl)
      by_end (Some x) (inl e) a = absurd cc
      by_end (Some x) (inr e) a = e

      by_hides : s ≡ Some stop.Done → IsOrHides plain refusal → IsRefusedRun stop.Done plain → OneOf (0 ∷ broken) status
      by_hides d (inr e) a = inr (inl (is ∙ ap (outcome_status end) e))
      by_hides d (inl e) (inl a) = inl (is ∙ ap (outcome_status end) (e ∙ a) ∙ ap end_status (run_ended stop.Done d a))
      by_hides d (inl e) (inr a) = inr (inr (inl (is ∙ ap (outcome_status end) (e ∙ a))))

  -- the status of a call is that of the end of its order
  pub run_status : EndsRun words told order s status
  run_status = by_stop s refl v.run v.agrees
    where
      by_stop : (x : Option Stop) → s ≡ x → Ran words told before now order x plain → Agrees words x plain → EndsRun words told order x status
      by_stop None e r a = tt
      by_stop (Some x) e r a = (r.0, r.1, run_status_for r.0 order before now x plain refusal status r.2 a.1 (same_status (Some x) end plain refusal status (run_ended x e) h is) h)

  -- ---- the status of a replay

  -- the end that a status tells
  replay_at : IsReplay words → (k : ℕ) → OneOf ends k → status ≡ k → (x : Stop) × (end_status (Some x) ≡ k) × HasReplay (EndsAs x) told words
  replay_at r k o e =
      let none : refusal ≡ None = none_at end refusal (subst (OneOf ends) (sym e ∙ is) o) in
      let p : plain ≡ None = plain_none plain refusal h none in
      let x = replay_ended r p in
      (x.0, ap end_status (sym x.1) ∙ ap (outcome_status end) (sym none) ∙ sym is ∙ e, x.2)

  module _ (fs : Files) (t : told ≡ Some fs) (r : IsReplay words) where
    -- a status comes with its end
    replay_comes : (x : Stop) → HasReplay (EndsAs x) (Some fs) words → OneOf (end_status (Some x) ∷ hindered) status
    replay_comes x e = ⊎_elim
        (λ i. ⊎_elim
        (λ o.
        let mine : IsVerdict (Some fs) words plain = subst (λ (y : Option Files). IsVerdict y words plain) t o in
        let p : plain ≡ None = law.one fs words plain None mine (inr (inr (x, e))) in
        let y = replay_ended r p in
        let same : y.0 ≡ x = law.end fs words y.0 x (subst (λ (z : Option Files). HasReplay (EndsAs y.0) z words) t y.2) e in
        inl (is ∙ ap (outcome_status end) (i ∙ p) ∙ ap end_status (y.1 ∙ ap (λ (z : Stop). Some z) same)))
        (λ o. inr (subst (OneOf hindered) (sym (is ∙ ap (outcome_status end) (i ∙ o.shows))) (strikes told words faults o.hindrance o.strikes))) v.cause)
        (λ i. inr (inr (inl (is ∙ ap (outcome_status end) i)))) h

    -- the end that it comes with
    replay_only : (x : Stop) (k : ℕ) → OneOf ends k → ((y : Stop) → end_status (Some y) ≡ k → y ≡ x) → status ≡ k → HasReplay (EndsAs x) (Some fs) words
    replay_only x k o same e =
        let y = replay_at r k o e in
        subst (λ (z : Option Files). HasReplay (EndsAs x) z words) t (subst (λ (z : Stop). HasReplay (EndsAs z) told words) (same y.0 y.1) y.2)

    replay_status : HasReplayStatus (Some fs) words status
    replay_status = record {
      done = record { only = replay_only stop.Done 0 (inl refl) done_by; always = replay_comes stop.Done };
      uncaught = record { only = replay_only stop.Uncaught 1 (inr (inl refl)) uncaught_by; always = replay_comes stop.Uncaught };
      deadlock = record { only = replay_only stop.Deadlock 9 (inr (inr (inr (inl refl)))) deadlock_by; always = replay_comes stop.Deadlock };
      unlimited = λ e.
          let y = replay_at r 8 (inr (inr (inl refl))) e in
          let l = limit_by y.0 y.1 in
          let z : HasReplay (EndsAs (stop.StepLimit l.0)) told words = subst (λ (z : Stop). HasReplay (EndsAs z) told words) l.1 y.2 in
          absurd z.such.such.such;
      unfilled = λ e.
          let y = replay_at r 10 (inr (inr (inr (inr (inl refl))))) e in
          let l = full_by y.0 y.1 in
          let z : HasReplay (EndsAs (stop.ThreadsFull l.0)) told words = subst (λ (z : Stop). HasReplay (EndsAs z) told words) l.1 y.2 in
          absurd z.such.such.such;
    }

  pub replayed : EndsReplay words told status
  replayed r fs t = replay_status fs t r

-- ---- the status of a check

module _ (words : List (List ℕ)) (told : Option Files) (s : Option Stop) (refusal : Option Refusal) (status : ℕ) (c : IsCheck words) (is : IsStatus words s refusal status)
    (not_run : ¬ IsRun words → s ≡ None) (done : AnswersOneOf told words status ends IsDoneCall) where
  -- it asks for nothing else
  asks_else : (d : Command) → (d ≡ Check → ⊥) → AskFor d words → ⊥
  asks_else d n a = n (one_command words a.0 d Check a.1 a.2 c)

  -- of the statuses of a call that isn't refused it has 0
  check_zero : OneOf ends status → status ≡ 0
  check_zero = by_refusal refusal is
    where
      by_refusal : (r : Option Refusal) → IsStatus words s r status → OneOf ends status → status ≡ 0
      by_refusal None i o = i (asks_else Replay (λ e. absurd cc)) ∙ ap end_status (not_run (asks_else Run (λ e. absurd cc)))
      by_refusal (Some e) i o = absurd (apart ends (status_of (Some e)) (refusal_is e) (subst (OneOf ends) i o))

  -- the accepted files of such words are to be checked
  to_check : (files : Option Files) → IsDoneCall files words → HasCheckedFiles files words
  to_check files (inl h) = absurd (asks_else Run (λ e. absurd cc) (h.1.asked, h.1.is_call, h.1.such.asks))
  to_check files (inr (inl h)) = h
  to_check files (inr (inr h)) = absurd (asks_else Replay (λ e. absurd cc) (h.1.asked, h.1.is_call, h.1.such.is.program.asks))

  -- it has it exactly where the files are accepted
  pub checked : Answers told words status 0 HasCheckedFiles
  checked fs t = record {
    only = λ z. to_check (Some fs) ((done fs t).only (inl z));
    always = λ h. ⊎_elim (λ o. inl (check_zero o)) (λ o. inr o) ((done fs t).always (inr (inl h)));
  }
