-- The loop of a run.
use Rattle.std.proofs.Common.{◌≡◌, ℕ, ◌≤◌, List, [], ◌++◌, length, drop, take, Option, Some, None, Result, Ok, Err, refl, sym, ap, subst, ◌∙◌, arith}
use Rattle.std.specs.Prelude.{option_map, Vec, IfOk, OnOk, OnErr}
use Rattle.std.specs.Io.KnownBytes.{Appends}
use Rattle.jvm_base.specs.declared.value.Uncaught.{Uncaught}
use Rattle.machine_state.specs.declared.state.Choice.{Choice}
use Rattle.machine_state.specs.Runs as runs
use Rattle.machine_state.specs.State.{State}
use Rattle.program_image.specs.Program.{Program}
use Rattle.scheduler.specs.declared.run.Stop.{Stop as End}
use Rattle.scheduler.specs.declared.run.Stop.TheVariants as end
use Rattle.scheduler.specs.Running.{Run, IsRun, LeadsOn, GoesOn as MayGoOn, IsStop, IsTurn}
use Rattle.cjvm_io.specs.Faults.{Rose}
use Rattle.cjvm_io.specs.Sinks.{GainsFront, Showing}
use Rattle.cjvm_io.proofs.Gains.{appends_none, appends_more}
use Rattle.one_jvm.specs.declared.outcome.Stop.{Stop}
use Rattle.one_jvm.specs.declared.outcome.Stop.TheVariants as stop
use Rattle.one_jvm.specs.declared.running.Turns.{Turns}
use Rattle.one_jvm.specs.Answers.{TellsEnd}
use Rattle.one_jvm.specs.Outcomes.{ending_text}
use Rattle.one_jvm.specs.Runs.{Job, start_of, LeadsTo, IsEnd, IsWhole, IsPart, RanTo}
use Rattle.one_jvm.specs.Steps.RunSteps.{IsRunOf, Writes, Breaks, GoesTo, Turned, TellsWhole, stop_at, stop_of}
use Rattle.one_jvm.proofs.RunLaws.{run_none, one_last, GainsBehind, front_behind, all_behind}
use Rattle.scheduler.proofs.Printing.{start_silent, run_grows, printed_behind, grows_longer}
use Rattle.scheduler.proofs.Breaks.{all_told}
use Rattle.scheduler.proofs.Runs.{run_append}

-- what holds each time the loop begins
pub record GoesOn (j : Job) (turns : Turns) (before now : Option (List ℕ)) (faults_before faults : ℕ) : Type 0 where
  pub run : IsRunOf j turns
  pub gained : Appends before now turns.run.machine.state.output
  pub later : faults_before ≤ faults

abbrev pub the_turns : Run → ℕ → Turns
the_turns run written = record { run = run; written = written }

-- the loop begins
pub begins : (j : Job) (run : Run) (held : Option (List ℕ)) (faults : ℕ) → IsRun j.program run → run.machine.state ≡ start_of j → run.order ≡ [] → run.limit ≡ j.steps → GoesOn j (the_turns run 0) held held faults faults
begins j run held faults is begun none limit =
    let silent : run.machine.state.output ≡ [] = ap (λ (x : State). x.output) begun ∙ start_silent j.program j.args in
    record {
      run = record {
        run = is;
        limit = limit;
        leads = ap (λ (o : List Choice). runs.run j.program (start_of j) o) none ∙ run_none j.program (start_of j) ∙ ap (λ (x : State). Some x) (sym begun);
        written = ap length (sym silent);
      };
      gained = subst (λ (bytes : List ℕ). Appends held held bytes) (sym silent) (appends_none held);
      later = omega arith;
    }

-- no run was begun, and nothing was written
pub unbegun : (j : Job) (held : Option (List ℕ)) → IsPart Appends j [] held held
unbegun j held = record {
  last = start_of j;
  leads = run_none j.program (start_of j);
  written = subst (λ (bytes : List ℕ). Appends held held bytes) (sym (start_silent j.program j.args)) (appends_none held);
}

-- further steps lead on from the start
leads_on : (j : Job) (m l : State) (before after : List Choice) → LeadsTo j before m → LeadsOn j.program m before after l → LeadsTo j after l
leads_on j m l before after b h = ap (λ (o : List Choice). runs.run j.program (start_of j) o) h.order ∙ run_append j.program (start_of j) m before h.more b ∙ h.leads

-- ---- a turn

-- what the steps of the order printed
abbrev pub told_output : Run → List ℕ
told_output r = take r.printed r.machine.state.output

-- all that is printed fits behind what was written
pub grown : (p : Program) (old : Turns) (r : Run) → old.written ≡ length old.run.machine.state.output → MayGoOn p old.run.machine.state old.run.order r → old.written ≤ length (told_output r)
grown p old r written h =
    let longer = grows_longer old.run.machine.state h.last (run_grows p old.run.machine.state h.last h.leads.more h.leads.leads) in
    omega (arith, written, longer, ap length h.printed)

module _ (j : Job) (old new : Turns) (is : IsRunOf j old) (goes : MayGoOn j.program old.run.machine.state old.run.order new.run) where
  -- what was printed since
  abbrev since : List ℕ
  since = (run_grows j.program old.run.machine.state goes.last goes.leads.more goes.leads.leads).printed

  since_is : goes.last.output ≡ old.run.machine.state.output ++ since
  since_is = (run_grows j.program old.run.machine.state goes.last goes.leads.more goes.leads.leads).output

  -- is the part of the output that wasn't written
  unwritten : drop old.written (told_output new.run) ≡ since
  unwritten =
      ap (drop old.written) goes.printed
      ∙ printed_behind old.run.machine.state goes.last (run_grows j.program old.run.machine.state goes.last goes.leads.more goes.leads.leads) old.written is.written

  goes_on : LeadsTo j new.run.order goes.last
  goes_on = leads_on j old.run.machine.state goes.last old.run.order new.run.order is.leads goes.leads

  -- so much of it was written
  pub breaks : (Gains : Option (List ℕ) → Option (List ℕ) → List ℕ → Type 0) (piece : List ℕ) (before now : Option (List ℕ)) → piece ≡ drop old.written (told_output new.run) → Gains before now piece → Breaks Gains j old new before now
  breaks Gains piece before now e g = record {
    last = goes.last;
    leads = goes_on;
    printed = since;
    output = since_is;
    gained = subst (Gains before now) (e ∙ unwritten) g;
  }

-- all of it was written
pub wrote : (j : Job) (old new : Turns) (is : IsRunOf j old) (run : IsRun j.program new.run) → LeadsOn j.program old.run.machine.state old.run.order new.run.order new.run.machine.state
    → (piece : List ℕ) (before now : Option (List ℕ)) → piece ≡ drop old.written (told_output new.run) → Appends before now piece → new.run.limit ≡ old.run.limit → new.written ≡ length (told_output new.run) → Writes j old new before now
wrote j old new is run leads piece before now e gained limit written =
    let g = run_grows j.program old.run.machine.state new.run.machine.state leads.more leads.leads in
    let all = all_told j.program new.run run in
    record {
      run = record {
        run = run;
        limit = limit ∙ is.limit;
        leads = leads_on j old.run.machine.state new.run.machine.state old.run.order new.run.order is.leads leads;
        written = written ∙ ap length all;
      };
      printed = g.printed;
      output = g.output;
      gained = subst (Appends before now) (e ∙ ap (drop old.written) all ∙ printed_behind old.run.machine.state new.run.machine.state g old.written is.written) gained;
    }

-- why it ended
pub stops : (j : Job) (limit : ℕ) (m : State) (e : End) → limit ≡ j.steps → IsStop j.program limit m e → IsEnd j m (stop_of e)
stops j limit m e l h = by_end e (subst (λ (n : ℕ). IsStop j.program n m e) l h)
  where
    by_end : (x : End) → IsStop j.program j.steps m x → IsEnd j m (stop_of x)
    by_end end.Done i = i
    by_end end.Uncaught i = i
    by_end (end.StepLimit t) i = i
    by_end end.Deadlock i = i
    by_end (end.ThreadsFull t) i = i

-- or that it goes on
pub goes_to : (j : Job) (old new : Turns) (o : Option End) → old.run.limit ≡ j.steps → IsTurn j.program old.run.limit old.run.order new.run o → GoesTo j old new (option_map stop_of o)
goes_to j old new None l h = h
goes_to j old new (Some e) l h = stops j old.run.limit new.run.machine.state e l h

-- a turn all of whose output was written
pub turned_by : {E : Type 0} (j : Job) (old new : Turns) (o : Result (Option End) E) → IsRunOf j old → OnOk o (IsRun j.program new.run) → OnOk o (LeadsOn j.program old.run.machine.state old.run.order new.run.order new.run.machine.state)
    → IfOk o (λ e. IsTurn j.program old.run.limit old.run.order new.run e) → OnErr o (MayGoOn j.program old.run.machine.state old.run.order new.run) → new.run.limit ≡ old.run.limit
    → (piece : List ℕ) (before now : Showing) → piece ≡ drop old.written (told_output new.run) → Appends before.held now.held piece → new.written ≡ length (told_output new.run) → Turned j old new before now (stop_at o)
turned_by j old new (Ok e) is run leads turn goes limit piece before now at g w = (wrote j old new is run leads piece before.held now.held at g limit w, goes_to j old new e is.limit turn)
turned_by j old new (Err x) is run leads turn goes limit piece before now at g w = breaks j old new is goes Appends piece before.held now.held at g

-- ---- the loop

-- after a turn
pub turned : (j : Job) (old new : Turns) (before mid now : Option (List ℕ)) (f g h : ℕ) → GoesOn j old before mid f g → Writes j old new mid now → g ≤ h → GoesOn j new before now f h
turned j old new before mid now f g h o w l = record {
  run = w.run;
  gained = subst (λ (bytes : List ℕ). Appends before now bytes) (sym w.output) (appends_more before mid now old.run.machine.state.output w.printed o.gained w.gained);
  later = omega (arith, o.later, l);
}

-- in a turn that a fault cut off
pub broken : (Gains : Option (List ℕ) → Option (List ℕ) → List ℕ → Type 0) (j : Job) (old new : Turns) (before mid now : Option (List ℕ)) (f g : ℕ) → GainsBehind Gains → GoesOn j old before mid f g → Breaks Gains j old new mid now → IsPart Gains j new.run.order before now
broken Gains j old new before mid now f g behind o b = record {
  last = b.last;
  leads = b.leads;
  written = behind before mid now old.run.machine.state.output b.printed b.last.output b.output o.gained b.gained;
}

-- at the end of the run
whole : (j : Job) (turns : Turns) (before now : Option (List ℕ)) (f h : ℕ) (s : Stop) → GoesOn j turns before now f h → IsEnd j turns.run.machine.state s → IsWhole j turns.run.order s before now
whole j turns before now f h s o e = record { last = turns.run.machine.state; leads = o.run.leads; ended = e; written = o.gained }

-- or anywhere before
pub part : (j : Job) (turns : Turns) (before now : Option (List ℕ)) (f h : ℕ) → GoesOn j turns before now f h → IsPart Appends j turns.run.order before now
part j turns before now f h o = record { last = turns.run.machine.state; leads = o.run.leads; written = o.gained }

-- where that was a write
pub broken_write : (j : Job) (old new : Turns) (before mid now : Option (List ℕ)) (f g h : ℕ) → GoesOn j old before mid f g → (Breaks GainsFront j old new mid now × Rose g h) → IsPart GainsFront j new.run.order before now × Rose f h
broken_write j old new before mid now f g h o b = (broken GainsFront j old new before mid now f g front_behind o b.0, omega (arith, b.1, o.later))

-- ---- what is answered

-- a run that was cut off
pub cut_ran : (j : Job) (o order : List Choice) (s result : Stop) (before now : Showing) → order ≡ o → result ≡ s → RanTo j o before now s → RanTo j order before now result
cut_ran j o order s result before now e f r =
    subst (λ (x : List Choice). RanTo j x before now result) (sym e) (subst (RanTo j o before now) (sym f) r)

-- a run that came to its end
ran_whole : (j : Job) (order : List Choice) (s : Stop) (before now : Showing) (last : State) → IsEnd j last s → IsWhole j order s before.held now.held → RanTo j order before now s
ran_whole j order stop.Done before now last e w = w
ran_whole j order stop.Uncaught before now last e w = w
ran_whole j order (stop.StepLimit t) before now last e w = w
ran_whole j order stop.Deadlock before now last e w = w
ran_whole j order (stop.ThreadsFull t) before now last e w = w
ran_whole j order stop.WriteFault before now last e w = absurd e
ran_whole j order stop.NoMemory before now last e w = absurd e

-- what it tells
tells_whole : {A E : Type 0} (j : Job) (order : List Choice) (s : Stop) (text : Result (Vec ℕ A) E) (last : State) → IsEnd j last s → IfOk text (λ v. TellsEnd j order s v.items) → TellsWhole j order s text
tells_whole j order stop.Done text last e t = t
tells_whole j order stop.Uncaught text last e t = t
tells_whole j order (stop.StepLimit k) text last e t = t
tells_whole j order stop.Deadlock text last e t = t
tells_whole j order (stop.ThreadsFull k) text last e t = t
tells_whole j order stop.WriteFault text last e t = absurd e
tells_whole j order stop.NoMemory text last e t = absurd e

module _ (j : Job) (turns : Turns) (order : List Choice) (s result : Stop) (before now : Showing) (f h : ℕ)
    (o : GoesOn j turns before.held now.held f h) (e : IsEnd j turns.run.machine.state s) (same : order ≡ turns.run.order) (is : result ≡ s) where
  pub ended_ran : RanTo j order before now result
  ended_ran = cut_ran j turns.run.order order s result before now same is (ran_whole j turns.run.order s before now turns.run.machine.state e (whole j turns before.held now.held f h s o e))

  -- its text, where memory lasted for it
  pub ended_tells : {A E : Type 0} (text : Result (Vec ℕ A) E) → IfOk text (λ v. v.items ≡ ending_text j.program s turns.run.machine.state.uncaught) → TellsWhole j order result text
  ended_tells text t = subst (λ (x : Stop). TellsWhole j order x text) (sym is) (tells_whole j order s text turns.run.machine.state e (by_text text t))
    where
      by_text : {A E : Type 0} (text : Result (Vec ℕ A) E) → IfOk text (λ v. v.items ≡ ending_text j.program s turns.run.machine.state.uncaught) → IfOk text (λ v. TellsEnd j order s v.items)
      by_text (Ok v) t = record { last = turns.run.machine.state; leads = subst (λ (x : List Choice). LeadsTo j x turns.run.machine.state) (sym same) o.run.leads; is = t }
      by_text (Err x) t = tt

  -- nothing is uncaught where all is done
  pub ended_quiet : result ≡ stop.Done → (s ≡ stop.Done) × (turns.run.machine.state.uncaught ≡ [])
  ended_quiet d =
      let done : s ≡ stop.Done = sym is ∙ d in
      let there : IsEnd j turns.run.machine.state stop.Done = subst (λ (x : Stop). IsEnd j turns.run.machine.state x) done e in
      (done, there.1)

-- a run's order leads on
pub ran_leads : (j : Job) (order : List Choice) (before now : Showing) (s : Stop) → RanTo j order before now s → (last : State) × LeadsTo j order last
ran_leads j order before now stop.Done r = (r.last, r.leads)
ran_leads j order before now stop.Uncaught r = (r.last, r.leads)
ran_leads j order before now (stop.StepLimit t) r = (r.last, r.leads)
ran_leads j order before now stop.Deadlock r = (r.last, r.leads)
ran_leads j order before now (stop.ThreadsFull t) r = (r.last, r.leads)
ran_leads j order before now stop.WriteFault r = (r.0.last, r.0.leads)
ran_leads j order before now stop.NoMemory r = (r.last, r.leads)

-- a run all of whose threads have ended without an exception tells nothing
pub done_silent : (j : Job) (order : List Choice) (before now : Showing) (text : List ℕ) → RanTo j order before now stop.Done → TellsEnd j order stop.Done text → text ≡ []
done_silent j order before now text r t =
    let same : t.last ≡ r.last = one_last j.program (start_of j) t.last r.last order t.leads r.leads in
    let none : t.last.uncaught ≡ [] = ap (λ (x : State). x.uncaught) same ∙ r.ended.1 in
    t.is ∙ ap (λ (u : List Uncaught). ending_text j.program stop.Done u) none
