use Rattle.std.proofs.Common.{◌≡◌, ◌≤◌, ℕ, ◌==◌, Bool, true, false, Some, subst, arith}
use Rattle.std.proofs.lemmas.Bool.Decides.{Decides-eqb, nat_tests}
use Rattle.machine_state.specs.declared.state.Choice.{Choice}
use Rattle.machine_state.specs.Step.{step}
use Rattle.one_machine.proofs.Founds.{same_machine}
use Rattle.one_machine.proofs.GlideRuns.{one_glided, none_glided}
use Rattle.one_machine.proofs.machine.Machine.step_in_place.Goals as goal

-- of one at most that isn't one there is none
none_of_one : (n : ℕ) → n ≤ 1 → (n == 1) ≡ false → n ≡ 0
none_of_one n few not = grind (arith, nat_tests)

pub returns-clause-stepped : goal.returns-clause-stepped
returns-clause-stepped c = λ e.
    let p = c.args.image.now in
    let next = c.glide.new.self.state in
    subst (λ (k : Choice). step p c.args.self.now.state k ≡ Some next) (c.is_quiet.ensures c.if-not-is_quiet.false)
    (one_glided p c.args.self.now.state next c.args.choice.thread _ _ c.glide.result ((Decides-eqb c.glide.result 1).0 e) c.glide.ensures.glides)

pub returns-clause-kept : goal.returns-clause-kept
returns-clause-kept c = λ e.
    let none : c.glide.result ≡ 0 = none_of_one c.glide.result c.glide.ensures.few e in
    same_machine c.glide.new.self c.args.self.now
    (none_glided c.args.image.now c.args.self.now.state c.glide.new.self.state c.args.choice.thread _ _ c.glide.result none c.glide.ensures.glides)
    c.glide.ensures.tables c.glide.ensures.blanks
