use Rattle.std.proofs.Common.{reverse, subst}
use Rattle.machine_state.specs.declared.state.Mode.{Mode}
use Rattle.step_plan.specs.Condition.{CanPlan}
use Rattle.one_machine.specs.Gliding.{Always}
use Rattle.one_machine.specs.InPlace.{running_next}
use Rattle.one_machine.proofs.glide.glide_thread.Goals as goal

pub glide_top-taken-requires-clause-can : goal.glide_top-taken-requires-clause-can
glide_top-taken-requires-clause-can c =
    subst (λ (m : Mode). Always (running_next c.args.image.now m) (reverse c.args.thread.now.levels.items) (CanPlan c.args.image.now)) c.in-Running.is c.requires.can
