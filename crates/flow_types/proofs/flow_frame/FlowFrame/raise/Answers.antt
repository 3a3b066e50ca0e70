use Rattle.std.proofs.Common.{sym, ◌∙◌}
use Rattle.flow_types.specs.Tree.{superclasses}
use Rattle.flow_types.proofs.Lists.{apart_joined}
use Rattle.flow_types.proofs.FrameLaws.{joined-clash-left, joined-clash-right, joined-apart}
use Rattle.flow_types.proofs.flow_frame.FlowFrame.raise.Goals as goal
use Rattle.flow_types.proofs.flow_frame.FlowFrame.raise.Goals.{then-self-via-then-self, then-self-via-else-self+then-low, then-self-via-else-self+else-low+then-not-stacks_meet}

pub returns-then-self : goal.returns-then-self
returns-then-self c =
    c.clash.ensures ∙ elim c.then-self.branch [
      | then-self-via-then-self w ↦ sym (joined-clash-left (superclasses c.args.image.now) c.args.self.now c.args.low.now (w.if-self.true))
      | then-self-via-else-self+then-low w ↦ sym (joined-clash-right (superclasses c.args.image.now) c.args.self.now c.args.low.now (w.if-low.true))
      | then-self-via-else-self+else-low+then-not-stacks_meet w ↦ sym (joined-apart (superclasses c.args.image.now) c.args.self.now c.args.low.now (apart_joined (superclasses c.args.image.now) c.args.self.now.stack c.args.low.now.stack (rw (w.as_slice.ensures, w.as_slice-else-low.ensures) at (sym w.stacks_meet.ensures ∙ w.if-not-stacks_meet.true))))
    ]
