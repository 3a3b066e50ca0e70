use Rattle.std.proofs.Common.{arith}
use Rattle.flow_verifier.proofs.HandlerLaws.{within_both}
use Rattle.flow_verifier.proofs.handler_tree.Span.with.Goals as goal

pub returns : goal.returns
returns c hs gs h g = within_both c.args.self c.args.other _ hs gs (omega (arith, c.min.ensures)) (omega (arith, c.min.ensures)) (omega (arith, c.max.ensures)) (omega (arith, c.max.ensures)) h g
