use Rattle.std.proofs.Common.{add-one, ◌∙◌, arith}
use Rattle.std.proofs.lemmas.Option.{slice_get-get_or}
use Rattle.flow_types.specs.Tree.{superclasses}
use Rattle.flow_types.proofs.Lists.{raised_more, raised_all}
use Rattle.flow_types.proofs.flow_list.raise_types.Goals as goal

pub loop-i-preserved : goal.loop-i-preserved
loop-i-preserved c = rw add-one (raised_more (superclasses c.args.image.now) _ c.loop-i.i c.args.list.now c.args.low.now c.loop-i.list c.raise_at.new.list (slice_get-get_or c.args.low.now c.loop-i.i _ c.loop-i-test.true) c.loop-i.invariant c.raise_at.ensures)

pub returns : goal.returns
returns c = c.loop-i.invariant ∙ raised_all (superclasses c.args.image.now) c.loop-i.i c.args.list.now c.args.low.now c.requires.long (omega arith)
