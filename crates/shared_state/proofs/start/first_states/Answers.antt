use Rattle.std.proofs.Common.{◌<◌, length, arith}
use Rattle.shared_state.proofs.StartLaws.{states_step}
use Rattle.shared_state.proofs.start.first_states.Goals as goal

pub loop-class-preserved : goal.loop-class-preserved
loop-class-preserved c =
    let h : c.loop-class.class < length c.args.image.now.classes = omega (arith, c.loop-class-test.true, c.classes-class-end.ensures) in
    states_step c.loop-class.states.items c.push.new.self.items c.first_state.result c.loop-class.class c.args.image.now.classes h c.in_ok-push.ensures.items c.first_state.ensures c.loop-class.invariant
