use Rattle.std.proofs.Common.{refl, [], map}
use Rattle.std.specs.Option.{option_to_list}
use Rattle.machine_state.specs.Deeds.{faulted}
use Rattle.machine_state.specs.Serving.{change_of}
use Rattle.step_serve.specs.Telling.{with_changes}
use Rattle.step_serve.proofs.MakingOne.{fault_made}
use Rattle.step_serve.proofs.faults.fault_with.Goals as goal

pub returns : goal.returns
returns g c =
    let heap = g.N.Names.heap c.args.server.now.names.now in
    let more = map (change_of heap) (option_to_list c.args.more) in
    let deed = with_changes more (faulted c.args.server.now.image.now c.making.result.choice.name c.args.class) in
    c.making.ensures.told c.args.server.now.wish deed
    (c.making_choice-choice.ensures deed [] refl refl)
    (fault_made heap c.args.server.now.image.now c.args.class c.fault_effects-effects.result
    c.in_ok-zeros.field-0 c.making_choice-choice.result c.making.result.choice more
    c.making.ensures.choice c.in_ok-zeros.ensures (c.fault_effects-effects.ensures heap))
