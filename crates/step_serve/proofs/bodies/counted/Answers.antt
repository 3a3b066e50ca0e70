use Rattle.std.proofs.Common.{Some, subst, sym}
use Rattle.jvm_base.specs.declared.value.Value.{Value}
use Rattle.machine_state.specs.declared.request.Answer.TheVariants.{Gives}
use Rattle.machine_state.specs.declared.served.Effects.TheVariants.{Nothing}
use Rattle.step_serve.specs.Telling.{IsPlain}
use Rattle.step_serve.proofs.bodies.counted.Goals as goal

pub returns : goal.returns
returns c = λ heap d plain.
    c.quiet.ensures heap d
    (subst (λ (v : Value). IsPlain heap Nothing (Gives (Some v)) d) (sym c.count_value.ensures) plain)
