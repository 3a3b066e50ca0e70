use Rattle.std.proofs.Common.{[], ◌∷◌, Some, refl, ap}
use Rattle.jvm_base.specs.Names.{named}
use Rattle.jvm_base.specs.declared.value.Value.TheVariants.{Ref}
use Rattle.machine_state.specs.Making.{making}
use Rattle.machine_state.specs.Changes.{Made}
use Rattle.machine_state.specs.declared.request.Answer.TheVariants.{Gives}
use Rattle.machine_state.specs.declared.state.Choice.{Choice}
use Rattle.step_serve.proofs.MakingOne.{object_made}
use Rattle.step_serve.proofs.makes.one.Goals as goal

pub returns : goal.returns
returns g c =
    let heap = g.N.Names.heap c.args.server.now.names.now in
    let name = c.making.result.choice.name in
    let deed = making name ((named name.node c.args.class name.index, c.args.body) ∷ []) in
    c.making.ensures.told c.args.server.now.wish deed
    (c.making_choice-choice.ensures deed [] refl refl)
    (object_made heap c.args.class c.args.body c.making_choice-choice.result c.making.result.choice c.making.ensures.choice)
