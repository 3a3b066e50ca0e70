use Rattle.std.proofs.lemmas.Result.{IfOk-weaker}
use Rattle.flow_verifier.proofs.RangeLaws.{by_turns}
use Rattle.flow_verifier.proofs.ranges.Ranges.new.Goals as goal

pub returns : goal.returns
returns c =
    IfOk-weaker c.numbered.result _ _ (λ ranges h. by_turns c.args.image.now c.args.m.now c.requires.fine c.in_ok-flags.flags ranges c.in_ok-flags.ensures.long c.in_ok-flags.ensures.flags (rw c.as_slice.ensures at h)) c.numbered.ensures
