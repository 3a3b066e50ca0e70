-- Where memory runs out, the order is of steps that were taken, and the bytes that those wrote are told.
use Rattle.std.proofs.Common.{◌≡◌, ℕ, ◌+◌, ◌-◌, ◌≤◌, List, [], ◌∷◌, ◌++◌, length, take, Some, Result, Ok, Err, refl, sym, ap, ◌∙◌, subst, arith}
use Rattle.std.specs.Prelude.{OnOk, OnErr}
use Rattle.std.proofs.Math.Seq.{take-append_seam, take-length}
use Rattle.program_image.specs.Program.{Program}
use Rattle.machine_state.specs.declared.state.Choice.{Choice}
use Rattle.machine_state.specs.State.{State}
use Rattle.machine_state.specs.Step.{step}
use Rattle.one_machine.specs.Gliding.{Glides}
use Rattle.scheduler.specs.Running.{Run, IsRun, GoesOn, LeadsOn}
use Rattle.scheduler.proofs.Printing.{step_grows}
use Rattle.scheduler.proofs.Runs.{goes_nowhere}

-- all that a run's machine printed is told
pub all_told : (p : Program) (a : Run) → IsRun p a → take a.printed a.machine.state.output ≡ a.machine.state.output
all_told p a run =
    ap (λ (n : ℕ). take n a.machine.state.output) run.printed ∙ take-length a.machine.state.output

-- no step was taken
pub unmoved : (p : Program) (a b : Run) → IsRun p a → b.machine.state ≡ a.machine.state
    → b.order ≡ a.order → b.printed ≡ a.printed → GoesOn p a.machine.state a.order b
unmoved p a b run state order printed =
    goes_nowhere p a.machine.state a.order b order
    (ap (λ (n : ℕ). take n b.machine.state.output) printed
    ∙ ap (λ (s : State). take a.printed s.output) state ∙ all_told p a run)

-- a step was taken that isn't in the order
pub unkept : (p : Program) (a b : Run) (m l : State) (c : Choice) → IsRun p a
    → a.machine.state ≡ m → b.machine.state ≡ l → step p m c ≡ Some l → b.order ≡ a.order
    → b.printed ≡ a.printed → GoesOn p a.machine.state a.order b
unkept p a b m l c run from to taken order printed =
    let g = step_grows p m l c taken in
    let count : b.printed ≡ length m.output =
    printed ∙ run.printed ∙ ap (λ (s : State). length s.output) from in
    goes_nowhere p a.machine.state a.order b order
    (ap (λ (n : ℕ). take n b.machine.state.output) count
    ∙ ap (λ (s : State). take (length m.output) s.output) to
    ∙ ap (take (length m.output)) g.output
    ∙ take-append_seam m.output g.printed
    ∙ ap (λ (s : State). s.output) (sym from))

-- steps in a row that print nothing may not be in the order
pub unglided : (p : Program) (a b : Run) (m l : State) (t most limit count : ℕ) → IsRun p a
    → a.machine.state ≡ m → b.machine.state ≡ l → Glides p m t most limit count l
    → b.order ≡ a.order → b.printed ≡ a.printed → GoesOn p a.machine.state a.order b
unglided p a b m l t most limit count stands from to g order printed =
    let silent : l.output ≡ m.output = ap (λ (s : State). s.output) g.shared in
    goes_nowhere p a.machine.state a.order b order
    (ap (λ (k : ℕ). take k b.machine.state.output) printed
    ∙ ap (λ (s : State). take a.printed s.output) to
    ∙ ap (take a.printed) (silent ∙ ap (λ (s : State). s.output) (sym from))
    ∙ all_told p a stands)

-- the machine stands where the order leads
pub goes_whole : (p : Program) (m : State) (before : List Choice) (r : Run) → IsRun p r
    → LeadsOn p m before r.order r.machine.state → GoesOn p m before r
goes_whole p m before r run leads =
    record { last = r.machine.state; leads = leads; printed = all_told p r run }

-- whether memory lasted or not
pub reached : {A E : Type 0} (p : Program) (m : State) (before : List Choice) (r : Run)
    (o : Result A E) → OnOk o (IsRun p r) → OnOk o (LeadsOn p m before r.order r.machine.state)
    → OnErr o (GoesOn p m before r) → GoesOn p m before r
reached p m before r (Ok a) run leads goes = goes_whole p m before r run leads
reached p m before r (Err e) run leads goes = goes
