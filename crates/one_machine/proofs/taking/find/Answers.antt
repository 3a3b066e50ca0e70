use Rattle.std.proofs.Common.{◌≡◌, ℕ, Option, Some, None, refl, sym, ap, subst, ◌∙◌}
use Rattle.std.specs.Prelude.{map, option_map, slice_get, Result}
use Rattle.std.proofs.lemmas.List.{length-map}
use Rattle.std.specs.Option.{option_copied}
use Rattle.machine_state.specs.State.{is_ended}
use Rattle.machine_state.specs.declared.state.Mode.{Mode}
use Rattle.shared_state.specs.Parts.{thread_state}
use Rattle.step_attempt.specs.Going.{IsAttempt, state_at}
use Rattle.step_attempt.specs.declared.going.Going.{Going}
use Rattle.one_machine.specs.Found.{IsFound}
use Rattle.one_machine.specs.Going.{judged}
use Rattle.one_machine.specs.declared.taking.Went.{Went}
use Rattle.one_machine.proofs.Planning.{can_plan, no_levels}
use Rattle.one_machine.proofs.Wishes.{no_thread, over, blocked, goes_on, found}
use Rattle.one_machine.proofs.taking.find.Goals as goal

pub returns-in_default : goal.returns-in_default
returns-in_default c =
    let site = c.args.site.now in
    (no_thread site.image.now (state_at site) site.wish (subst (λ (t : ℕ). slice_get (map thread_state site.threads.now) t ≡ None) c.thread_in.ensures (sym c.thread_at.ensures ∙ ap (λ o. option_map thread_state (option_copied o)) c.in_default.is)), refl)

pub returns-in-Ended : goal.returns-in-Ended
returns-in-Ended c =
    let site = c.args.site.now in
    let th = thread_state c.in-Some.thread.now in
    (over site.image.now (state_at site) site.wish th (subst (λ (t : ℕ). slice_get (map thread_state site.threads.now) t ≡ Some th) c.thread_in.ensures (sym c.thread_at.ensures ∙ ap (λ o. option_map thread_state (option_copied o)) c.in-Some.is)) (ap is_ended c.in-Ended.is), refl)

pub attempt-requires : goal.attempt-requires
attempt-requires c =
    let site = c.args.site.now in
    let th = thread_state c.in-Some.thread.now in
    record {
      kept = c.requires.kept;
      blanks = c.requires.blanks;
      can = can_plan site.image.now c.requires.types c.requires.accepted (state_at site) c.thread_in.result th c.requires.sound (sym c.thread_at.ensures ∙ ap (λ o. option_map thread_state (option_copied o)) c.in-Some.is);
      entry = no_levels site.image.now c.requires.types (state_at site) c.thread_in.result th c.requires.sound (sym c.thread_at.ensures ∙ ap (λ o. option_map thread_state (option_copied o)) c.in-Some.is);
    }

pub returns-in-None : goal.returns-in-None
returns-in-None c =
    let site = c.args.site.now in
    let th = thread_state c.in-Some.thread.now in (
      blocked site.image.now (state_at site) site.wish th (subst (λ (t : ℕ). slice_get (map thread_state site.threads.now) t ≡ Some th) c.thread_in.ensures (sym c.thread_at.ensures ∙ ap (λ o. option_map thread_state (option_copied o)) c.in-Some.is)) (goes_on th.mode c.in_default-mode.not-Ended)
          (subst (λ (o : Option Going). IsAttempt site.image.now (state_at site) site.wish th o) c.in-None.is c.in_ok-attempt.ensures),
      refl,
    )

pub returns-in-Some-2 : goal.returns-in-Some-2
returns-in-Some-2 c =
    let site = c.args.site.now in
    let th = thread_state c.in-Some.thread.now in
    subst (λ (r : Result Going Went). IsFound site.image.now (state_at site) site.wish c.args.most r) (sym c.judge.ensures)
    (subst (λ (n : ℕ). IsFound site.image.now (state_at site) site.wish c.args.most (judged c.in-Some-2.going n c.args.most)) (length-map site.threads.now thread_state)
    (found site.image.now (state_at site) site.wish th (subst (λ (t : ℕ). slice_get (map thread_state site.threads.now) t ≡ Some th) c.thread_in.ensures (sym c.thread_at.ensures ∙ ap (λ o. option_map thread_state (option_copied o)) c.in-Some.is)) (goes_on th.mode c.in_default-mode.not-Ended) c.args.most c.in-Some-2.going
    (subst (λ (o : Option Going). IsAttempt site.image.now (state_at site) site.wish th o) c.in-Some-2.is c.in_ok-attempt.ensures)))
