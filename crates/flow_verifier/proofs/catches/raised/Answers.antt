use Rattle.std.proofs.Common.{◌∙◌, sym}
use Rattle.flow_types.specs.Tree.{superclasses}
use Rattle.flow_types.proofs.FrameLaws.{fits-clash}
use Rattle.flow_verifier.specs.Worklist.Catching.{without_operands}
use Rattle.flow_verifier.proofs.catches.raised.Goals as goal

pub returns-then-is_clash : goal.returns-then-is_clash
returns-then-is_clash c = fits-clash (superclasses c.args.image.now) (without_operands c.args.f.now) c.args.before.now (sym c.is_clash.ensures ∙ c.if-is_clash.true)
