-- Runs one behind the other.
use Rattle.std.proofs.Common.{◌≡◌, List, [], ◌∷◌, ◌++◌, take, Option, Some, None, refl, sym, ap, ◌∙◌}
use Rattle.std.proofs.lemmas.List.{append_assoc, append-nil}
use Rattle.jvm_base.specs.Words.{from}
use Rattle.program_image.specs.Program.{Program}
use Rattle.machine_state.specs.declared.state.Choice.{Choice}
use Rattle.machine_state.specs.Runs.{run}
use Rattle.machine_state.specs.State.{State}
use Rattle.machine_state.specs.Step.{step}
use Rattle.machine_state.proofs.NameTests.{some_is}
use Rattle.scheduler.specs.Running.{Run, LeadsOn, GoesOn}

-- a run goes on where another ends
pub run_append : (p : Program) (m l : State) (cs ds : List Choice) → run p m cs ≡ Some l
    → run p m (cs ++ ds) ≡ run p l ds
unfolding run
run_append p m l [] ds e = ap (λ (x : State). run p x ds) (some_is e)
run_append p m l (c ∷ cs) ds e = by_step (step p m c) (λ n h. run_append p n l cs ds h) e
  where
    by_step : (o : Option State)
        → ((n : State) → run p n cs ≡ Some l → run p n (cs ++ ds) ≡ run p l ds)
        → from None (λ next. run p next cs) o ≡ Some l
        → from None (λ next. run p next (cs ++ ds)) o ≡ run p l ds
    by_step None more h = absurd cc
    by_step (Some n) more h = more n h

-- no step is taken
pub leads_nowhere : (p : Program) (m l : State) (before after : List Choice) → l ≡ m
    → after ≡ before → LeadsOn p m before after l
unfolding run
leads_nowhere p m l before after e o =
    record { more = []; order = o ∙ sym (append-nil before); leads = ap Some (sym e) }

-- one step is taken
pub leads_by_step : (p : Program) (m l : State) (c : Choice) (before after : List Choice)
    → step p m c ≡ Some l → after ≡ before ++ c ∷ [] → LeadsOn p m before after l
unfolding run
leads_by_step p m l c before after e o =
    record { more = c ∷ []; order = o; leads = ap (from None (λ next. Some next)) e }

-- steps are taken, and then others
pub leads_further : {p : Program} {m l n : State} {before between after : List Choice}
    → LeadsOn p m before between l → LeadsOn p l between after n → LeadsOn p m before after n
leads_further {p = p} {m = m} {l = l} {before = before} x y = record {
  more = x.more ++ y.more;
  order = y.order ∙ ap (λ o. o ++ y.more) x.order ∙ append_assoc before x.more y.more;
  leads = run_append p m l x.more y.more x.leads ∙ y.leads;
}

-- the order stays: it's legal without a further step
pub goes_nowhere : (p : Program) (m : State) (before : List Choice) (r : Run) → r.order ≡ before
    → take r.printed r.machine.state.output ≡ m.output → GoesOn p m before r
goes_nowhere p m before r o printed = record {
  last = m;
  leads = leads_nowhere p m m before r.order refl o;
  printed = printed;
}

-- steps are taken, and others are legal
pub goes_further : {p : Program} {m l : State} {before between : List Choice} {r : Run}
    → LeadsOn p m before between l → GoesOn p l between r → GoesOn p m before r
goes_further x y =
    record { last = y.last; leads = leads_further x y.leads; printed = y.printed }
