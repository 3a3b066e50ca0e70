use Rattle.std.proofs.Common.{◌≡◌, refl, None}
use Rattle.machine_state.specs.Deeds.{quiet}
use Rattle.step_attempt.proofs.Told.{goes_alone}
use Rattle.step_attempt.proofs.going.alone.Goals as goal

pub returns : goal.returns
returns c =
    λ p m th s stand goes. goes_alone p m c.args.wish th c.args.after s c.quiet.result (c.quiet.ensures m.heap (quiet None) (record { makes = refl; waiters = refl; changes = refl; answers = refl })) stand goes
