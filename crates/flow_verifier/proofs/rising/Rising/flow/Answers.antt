use Rattle.std.proofs.Common.{refl, ap, false}
use Rattle.flow_types.specs.Tree.{superclasses}
use Rattle.flow_verifier.specs.Typing.{known, frame_at}
use Rattle.flow_verifier.proofs.Ways.{calm-flows, rose-at}
use Rattle.flow_verifier.proofs.rising.Rising.flow.Goals as goal

pub returns-else-rose-clause-flows : goal.returns-else-rose-clause-flows
returns-else-rose-clause-flows g c =
    calm-flows (superclasses c.args.image.now) c.args.g.now c.args.to c.rise.new.place c.args.self.now.frames _ c.args.self.now.todo
    (rose-at (superclasses c.args.image.now) c.args.g.now (frame_at c.args.self.now.frames c.args.to) c.in-Some.place.now c.rise.new.place c.in_ok-rose-in-Some.rose false (ap known c.in-Some.ensures.value) c.if-rose.false c.in_ok-rose-in-Some.ensures)
    refl
