-- The loop of a replay.
use Rattle.std.proofs.Common.{◌≡◌, ◌⊎◌, ℕ, ◌≤◌, List, [], ◌++◌, length, take, drop, Option, Some, None, Result, Ok, Err, refl, sym, ap, subst, ◌∙◌, inl, inr, arith}
use Rattle.std.specs.Prelude.{IfOk}
use Rattle.std.specs.Io.KnownBytes.{Appends}
use Rattle.std.proofs.Math.Seq.{take-length}
use Rattle.cjvm_io.specs.Faults.{Rose}
use Rattle.cjvm_io.specs.Sinks.{GainsFront, Showing}
use Rattle.cjvm_io.proofs.Gains.{appends_none, appends_more}
use Rattle.machine_state.specs.declared.state.Choice.{Choice}
use Rattle.machine_state.specs.Runs.{run, LeadsTo}
use Rattle.machine_state.specs.Start.{start}
use Rattle.machine_state.specs.State.{State}
use Rattle.one_machine.specs.Ready.{IsReady}
use Rattle.order_replay.specs.declared.replay.Ending.{Ending}
use Rattle.order_replay.specs.declared.replay.Ending.TheVariants as ending
use Rattle.order_replay.specs.Replaying.{Replay, TakesOn, IsTaken, IsEnding}
use Rattle.order_text.specs.Spelling.{IsOrderText}
use Rattle.program_image.specs.Program.{Program}
use Rattle.one_jvm.specs.declared.outcome.Stop.{Stop}
use Rattle.one_jvm.specs.declared.outcome.Stop.TheVariants as stop
use Rattle.one_jvm.specs.declared.outcome.Refusal.{Refusal}
use Rattle.one_jvm.specs.declared.outcome.Refusal.TheVariants.{Usage, File, Link, Flow, NoFile, ReadFault, WriteFault, TooLong, NoMemory, BadOrder, NotEnabled, EarlyOrder}
use Rattle.one_jvm.specs.declared.running.Broken.{Broken}
use Rattle.one_jvm.specs.declared.running.Broken.TheVariants as broken
use Rattle.one_jvm.specs.declared.replaying.Takes.{Takes}
use Rattle.one_jvm.specs.Answers.{ComesFirst}
use Rattle.one_jvm.specs.Replays.{Replayed, IsBadOrder, StandsAs}
use Rattle.one_jvm.specs.Steps.ReplaySteps.{Tape, tape, Leads, IsTakesOf, Writes, Breaks, Turned, ending_at, IsWholeTape, IsPartTape, TellsTape, TapeComesTo, ReplayComesTo, IsEndTold, IsEndFor, refusal_by}
use Rattle.one_jvm.proofs.RunLaws.{run_none, GainsBehind, front_behind, all_behind}
use Rattle.scheduler.proofs.Printing.{start_silent, run_grows, printed_behind, grows_longer}
use Rattle.scheduler.proofs.Runs.{run_append}

-- what holds each time the loop begins
pub record GoesOn (t : Tape) (takes : Takes) (before now : Option (List ℕ)) (faults_before faults : ℕ) : Type 0 where
  pub so_far : IsTakesOf t takes
  pub gained : Appends before now takes.replay.machine.state.output
  pub later : faults_before ≤ faults

abbrev pub the_takes : Replay → ℕ → Takes
the_takes replay written = record { replay = replay; written = written }

-- where it begins
abbrev from_start : Tape → List Choice → Option State
from_start t order = run t.program (start t.program t.args) order

-- no choice was taken
starts : (t : Tape) → Leads t 0 (start t.program t.args)
starts t = record { within = omega arith; leads = run_none t.program (start t.program t.args) }

-- the loop begins
pub begins : (t : Tape) (replay : Replay) (held : Option (List ℕ)) (faults : ℕ) → IsReady t.program replay.machine → replay.machine.state ≡ start t.program t.args → replay.taken ≡ 0 → GoesOn t (the_takes replay 0) held held faults faults
begins t replay held faults ready begun none =
    let silent : replay.machine.state.output ≡ [] = ap (λ (x : State). x.output) begun ∙ start_silent t.program t.args in
    record {
      so_far = record {
        ready = ready;
        leads = record {
          within = omega (arith, none);
          leads = ap (λ (n : ℕ). from_start t (take n t.order)) none ∙ run_none t.program (start t.program t.args) ∙ ap (λ (x : State). Some x) (sym begun);
        };
        written = ap length (sym silent);
      };
      gained = subst (λ (bytes : List ℕ). Appends held held bytes) (sym silent) (appends_none held);
      later = omega arith;
    }

-- no step was taken, and nothing was written
unbegun : (t : Tape) (held : Option (List ℕ)) → IsPartTape Appends t held held
unbegun t held = record {
  taken = 0;
  last = start t.program t.args;
  leads = starts t;
  written = subst (λ (bytes : List ℕ). Appends held held bytes) (sym (start_silent t.program t.args)) (appends_none held);
}

-- memory ran out before
pub lost_tape : (t : Tape) (held : Showing) (end : Option Stop) (refusal : Option Refusal) (text : List ℕ) → refusal ≡ Some NoMemory → TapeComesTo t held held end refusal text
lost_tape t held end refusal text e = subst (λ (v : Option Refusal). TapeComesTo t held held end v text) (sym e) (unbegun t held.held)

-- ---- a turn

-- all that is printed fits behind what was written
pub grown : (p : Program) (order : List Choice) (a b : Replay) → TakesOn p order a b → length a.machine.state.output ≤ length b.machine.state.output
grown p order a b h = grows_longer a.machine.state b.machine.state (run_grows p a.machine.state b.machine.state h.leads.more h.leads.leads)

module _ (t : Tape) (old new : Takes) (is : IsTakesOf t old) (on : TakesOn t.program t.order old.replay new.replay) where
  -- steps lead on from the start
  leads_on : Leads t new.replay.taken new.replay.machine.state
  leads_on = record {
    within = on.few;
    leads = ap (from_start t) on.leads.order ∙ run_append t.program (start t.program t.args) old.replay.machine.state (take old.replay.taken t.order) on.leads.more is.leads.leads ∙ on.leads.leads;
  }

  -- what was printed since
  abbrev since : List ℕ
  since = (run_grows t.program old.replay.machine.state new.replay.machine.state on.leads.more on.leads.leads).printed

  since_is : new.replay.machine.state.output ≡ old.replay.machine.state.output ++ since
  since_is = (run_grows t.program old.replay.machine.state new.replay.machine.state on.leads.more on.leads.leads).output

  -- is the part of the output that wasn't written
  unwritten : drop old.written new.replay.machine.state.output ≡ since
  unwritten = printed_behind old.replay.machine.state new.replay.machine.state (run_grows t.program old.replay.machine.state new.replay.machine.state on.leads.more on.leads.leads) old.written is.written

  -- so much of it was written
  pub breaks : (Gains : Option (List ℕ) → Option (List ℕ) → List ℕ → Type 0) (piece : List ℕ) (before now : Option (List ℕ)) → piece ≡ drop old.written new.replay.machine.state.output → Gains before now piece → Breaks Gains t old before now
  breaks Gains piece before now e g = record {
    taken = new.replay.taken;
    last = new.replay.machine.state;
    leads = leads_on;
    printed = since;
    output = since_is;
    gained = subst (Gains before now) (e ∙ unwritten) g;
  }

  -- it was written
  pub wrote : (piece : List ℕ) (before now : Option (List ℕ)) → piece ≡ drop old.written new.replay.machine.state.output → Appends before now piece → IsReady t.program new.replay.machine → new.written ≡ length new.replay.machine.state.output → Writes t old new before now
  wrote piece before now e g ready written = record {
    takes = record { ready = ready; leads = leads_on; written = written };
    printed = since;
    output = since_is;
    gained = subst (Appends before now) (e ∙ unwritten) g;
  }

  -- a turn all of whose output was written
  pub turned_by : {E : Type 0} (o : Result (Option Ending) E) → IfOk o (IsTaken t.program t.order old.replay new.replay) → (piece : List ℕ) (before now : Showing) → piece ≡ drop old.written new.replay.machine.state.output → Appends before.held now.held piece → IsReady t.program new.replay.machine → new.written ≡ length new.replay.machine.state.output → Turned t old new before now (ending_at o)
  turned_by (Ok e) turn piece before now at g ready w = (wrote piece before.held now.held at g ready w, turn)
  turned_by (Err x) turn piece before now at g ready w = breaks Appends piece before.held now.held at g

-- ---- the loop

-- after a turn
pub turned : (t : Tape) (old new : Takes) (before mid now : Option (List ℕ)) (f g h : ℕ) → GoesOn t old before mid f g → Writes t old new mid now → g ≤ h → GoesOn t new before now f h
turned t old new before mid now f g h o w l = record {
  so_far = w.takes;
  gained = subst (λ (bytes : List ℕ). Appends before now bytes) (sym w.output) (appends_more before mid now old.replay.machine.state.output w.printed o.gained w.gained);
  later = omega (arith, o.later, l);
}

-- in a turn that a fault cut off
broken_off : (Gains : Option (List ℕ) → Option (List ℕ) → List ℕ → Type 0) (t : Tape) (old : Takes) (before mid now : Option (List ℕ)) (f g : ℕ) → GainsBehind Gains → GoesOn t old before mid f g → Breaks Gains t old mid now → IsPartTape Gains t before now
broken_off Gains t old before mid now f g behind o b = record {
  taken = b.taken;
  last = b.last;
  leads = b.leads;
  written = behind before mid now old.replay.machine.state.output b.printed b.last.output b.output o.gained b.gained;
}

-- a later count is above, too
rose_by : (f g h : ℕ) → f ≤ g → Rose g h → Rose f h
rose_by f g h l r = omega arith

-- what comes of it then
pub cut_tape : (t : Tape) (old new : Takes) (before mid now : Showing) (b : Broken) (end : Option Stop) (refusal : Option Refusal) (text : List ℕ) → GoesOn t old before.held mid.held before.faults mid.faults → Turned t old new mid now (Err b) → refusal ≡ Some (refusal_by b) → TapeComesTo t before now end refusal text
cut_tape t old new before mid now b end refusal text o h e = subst (λ (v : Option Refusal). TapeComesTo t before now end v text) (sym e) (by_fault b h)
  where
    by_fault : (b : Broken) → Turned t old new mid now (Err b) → TapeComesTo t before now end (Some (refusal_by b)) text
    by_fault broken.WriteFault h = (broken_off GainsFront t old before.held mid.held now.held before.faults mid.faults front_behind o h.0, rose_by before.faults mid.faults now.faults o.later h.1)
    by_fault broken.NoMemory h = broken_off Appends t old before.held mid.held now.held before.faults mid.faults all_behind o h

-- ---- the end of a tape

module _ (t : Tape) (takes : Takes) (before now : Showing) (f h : ℕ) (o : GoesOn t takes before.held now.held f h) where
  -- all choices were taken
  whole : (P : Program → State → Type 0) → takes.replay.taken ≡ length t.order → P t.program takes.replay.machine.state → IsWholeTape P t before.held now.held
  whole P all such = record {
    last = takes.replay.machine.state;
    leads = ap (from_start t) (sym (ap (λ (n : ℕ). take n t.order) all ∙ take-length t.order)) ∙ o.so_far.leads.leads;
    such = such;
    written = o.gained;
  }

  -- some were
  part : IsPartTape Appends t before.held now.held
  part = record { taken = takes.replay.taken; last = takes.replay.machine.state; leads = o.so_far.leads; written = o.gained }

  -- all were, and no step follows
  told : (s : Stop) (end : Option Stop) (refusal : Option Refusal) (text : List ℕ) → takes.replay.taken ≡ length t.order → StandsAs s t.program takes.replay.machine.state → IsEndTold t.program takes.replay.machine.state.uncaught s end refusal text → TapeComesTo t before now end refusal text
  told s end refusal text all such (inl e) =
      subst (λ (v : Option Refusal). TapeComesTo t before now end v text) (sym e.1)
      (subst (λ (x : Option Stop). TapeComesTo t before now x None text) (sym e.0)
      (whole (TellsTape s text) all (record { ended = such; is = e.2 })))
  told s end refusal text all such (inr e) = subst (λ (v : Option Refusal). TapeComesTo t before now end v text) (sym e) part

  -- what comes of it at its end
  pub ended_tape : (e : Ending) (end : Option Stop) (refusal : Option Refusal) (text : List ℕ) → IsEnding t.program t.order takes.replay e → IsEndFor t.program takes.replay.machine.state.uncaught e end refusal text → TapeComesTo t before now end refusal text
  ended_tape ending.Done end refusal text i h = told stop.Done end refusal text i.0 i.1 h
  ended_tape ending.Uncaught end refusal text i h = told stop.Uncaught end refusal text i.0 i.1 h
  ended_tape ending.Deadlock end refusal text i h = told stop.Deadlock end refusal text i.0 i.1 h
  ended_tape ending.Early end refusal text i h = subst (λ (v : Option Refusal). TapeComesTo t before now end v text) (sym h) (whole _ i.0 i.1)
  ended_tape (ending.NotEnabled k) end refusal text i h = subst (λ (v : Option Refusal). TapeComesTo t before now end v text) (sym h) (record {
    taken = takes.replay.taken;
    is = i.number;
    last = takes.replay.machine.state;
    leads = o.so_far.leads;
    choice = i.choice;
    next = i.next;
    refused = i.refused;
    written = o.gained;
  })

-- ---- a text

-- of an order
pub of_tape : (r : Replayed) (order : List Choice) (before now : Showing) (end : Option Stop) (refusal : Option Refusal) (text : List ℕ) → IsOrderText r.text order → TapeComesTo (tape r.program r.args order) before now end refusal text → ReplayComesTo r before now end refusal text
of_tape r order before now end None text s c = record { order = order; spells = s; comes = c }
of_tape r order before now end (Some (NotEnabled k)) text s c = record { order = order; spells = s; comes = c }
of_tape r order before now end (Some EarlyOrder) text s c = record { order = order; spells = s; comes = c }
of_tape r order before now end (Some WriteFault) text s c = record { order = order; spells = s; comes = c }
of_tape r order before now end (Some NoMemory) text s c = inr (record { order = order; spells = s; comes = c })
of_tape r order before now end (Some Usage) text s c = absurd c
of_tape r order before now end (Some (File k why)) text s c = absurd c
of_tape r order before now end (Some (Link e)) text s c = absurd c
of_tape r order before now end (Some (Flow e)) text s c = absurd c
of_tape r order before now end (Some (NoFile k)) text s c = absurd c
of_tape r order before now end (Some (ReadFault k)) text s c = absurd c
of_tape r order before now end (Some (TooLong k)) text s c = absurd c
of_tape r order before now end (Some (BadOrder k)) text s c = absurd c

-- no such refusal comes before all writing
pub not_first : (t : Tape) (before now : Showing) (end : Option Stop) (refusal : Option Refusal) (text : List ℕ) → TapeComesTo t before now end refusal text → ComesFirst refusal → ⊥
not_first t before now end None text c f = f
not_first t before now end (Some (NotEnabled k)) text c f = f
not_first t before now end (Some EarlyOrder) text c f = f
not_first t before now end (Some WriteFault) text c f = f
not_first t before now end (Some NoMemory) text c f = f
not_first t before now end (Some Usage) text c f = c
not_first t before now end (Some (File k why)) text c f = c
not_first t before now end (Some (Link e)) text c f = c
not_first t before now end (Some (Flow e)) text c f = c
not_first t before now end (Some (NoFile k)) text c f = c
not_first t before now end (Some (ReadFault k)) text c f = c
not_first t before now end (Some (TooLong k)) text c f = c
not_first t before now end (Some (BadOrder k)) text c f = c

-- a bad order
pub bad_replay : (r : Replayed) (line : ℕ) (held : Showing) (end : Option Stop) (refusal : Option Refusal) (text : List ℕ) → refusal ≡ Some (BadOrder line) → IsBadOrder line r → ReplayComesTo r held held end refusal text
bad_replay r line held end refusal text e b = subst (λ (v : Option Refusal). ReplayComesTo r held held end v text) (sym e) (b, refl)

-- want of memory for it
pub lost_replay : (r : Replayed) (held : Showing) (end : Option Stop) (refusal : Option Refusal) (text : List ℕ) → refusal ≡ Some NoMemory → ReplayComesTo r held held end refusal text
lost_replay r held end refusal text e = subst (λ (v : Option Refusal). ReplayComesTo r held held end v text) (sym e) (inl refl)
