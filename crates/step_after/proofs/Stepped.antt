-- A thread after its step, in a sound machine.
use Rattle.std.proofs.Common.{◌≡◌, ℕ, ◌<◌, Bool, true, false, List, length, Option, Some, None, refl, sym, ap, subst, ◌∙◌}
use Rattle.std.specs.Prelude.{if◌then◌else◌, slice_get, slice_set}
use Rattle.jvm_base.specs.Words.{from}
use Rattle.program_image.specs.Program.{Program}
use Rattle.machine_state.specs.declared.state.Choice.{Choice}
use Rattle.machine_state.specs.declared.state.ThreadState.{ThreadState}
use Rattle.machine_state.specs.State.{State}
use Rattle.machine_state.specs.Step.{Taken, attempt, allowed, granted, moved_on, after, step, step_of, taken_by}
use Rattle.machine_state.proofs.FrameLaws.{Lasts, threads_last}
use Rattle.frame_soundness.specs.AcceptedProgram.{Types, Accepted}
use Rattle.machine_soundness.specs.Bodies.{there_in}
use Rattle.machine_soundness.specs.Sound.{Sound}
use Rattle.step_soundness.proofs.StepLaws.{sound-step}
use Rattle.std.proofs.lemmas.Option.{slice_get_within}
use Rattle.program_reads.proofs.Lists.{set_there}
use Rattle.step_after.proofs.Going.{HasLevels, levels_of}

-- a choice that is allowed is a step
pub steps : (p : Program) (m : State) (c : Choice) (th : ThreadState) (k : Taken) → slice_get m.threads c.thread ≡ Some th → attempt p m c th ≡ Some k → allowed m c k ≡ true → step p m c ≡ Some (moved_on m c.thread th k)
unfolding step taken_by
steps p m c th k at deed fits =
    let granted_is : granted m c (Some k) ≡ Some k = ap (λ b. if b then Some k else None) fits in
    let taken_is : taken_by p m c th ≡ Some k = ap (granted m c) deed ∙ granted_is in
    ap (step_of p m c) at ∙ ap (λ o. from None (λ j. Some (moved_on m c.thread th j)) o) taken_is

-- the thread after it
stepped_thread : (p : Program) (m : State) (t : ℕ) (th : ThreadState) (k : Taken) → slice_get m.threads t ≡ Some th → Lasts (moved_on m t th k).threads t (after th k.stand)
unfolding moved_on
stepped_thread p m t th k at =
    threads_last k.deed.changes (record m { threads = slice_set m.threads t (after th k.stand) }) t (after th k.stand)
    (set_there m.threads t (after th k.stand) (slice_get_within m.threads t th at))

-- a step leaves its thread with levels that fit
pub stands_fit : (p : Program) (types : Types) → Accepted p types → (m : State) (c : Choice) (th : ThreadState) (k : Taken) → Sound p types m → slice_get m.threads c.thread ≡ Some th → attempt p m c th ≡ Some k → allowed m c k ≡ true → HasLevels p types (there_in (moved_on m c.thread th k).heap) k.stand.1
stands_fit p types a m c th k sound at deed fits =
    let l : State = moved_on m c.thread th k in
    let now = sound-step p types a m l c sound (steps p m c th k at deed fits) in
    let own = stepped_thread p m c.thread th k at in
    let thread = now.threads c.thread own.thread own.is_there in
    subst (HasLevels p types (there_in l.heap)) own.levels (levels_of p types (there_in l.heap) own.thread.mode own.thread.levels thread.levels)
