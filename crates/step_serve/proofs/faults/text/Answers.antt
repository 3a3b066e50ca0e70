use Rattle.std.proofs.Common.{refl, []}
use Rattle.machine_state.specs.Deeds.{making_text}
use Rattle.step_serve.proofs.MakingOne.{text_made}
use Rattle.step_serve.proofs.faults.text.Goals as goal

pub returns : goal.returns
returns g c = λ reads.
    let heap = g.N.Names.heap c.args.server.now.names.now in
    let deed = making_text c.making.result.choice.name reads c.args.units in
    c.making.ensures.told c.args.server.now.wish deed
    (c.making_choice-choice.ensures deed [] refl refl)
    (text_made heap c.args.units reads c.making_choice-choice.result c.making.result.choice
    c.making.ensures.choice)
