use Rattle.std.proofs.Common.{◌∙◌}
use Rattle.link_arrays.proofs.SetLaws.{shares_more}
use Rattle.link_arrays.proofs.desc_set.shares.Goals as goal

pub loop-elem-preserved : goal.loop-elem-preserved
loop-elem-preserved c = shares_more c.args.elems.now c.loop-elem.elem-index c.loop-elem.shares c.push.new.self c.elem-item.result c.in_ok-share.field-0 c.loop-elem-test.true c.elem-item.is c.loop-elem.invariant c.in_ok-share.ensures c.in_ok-push.ensures.ok
