use Rattle.std.proofs.Common.{◌∙◌, drop, ap, arith}
use Rattle.link_arrays.proofs.SetLaws.{named_end}
use Rattle.link_arrays.proofs.array_class.array_name.Goals as goal

pub returns : goal.returns
returns c = λ d e. c.in_ok-name.ensures ∙ ap (λ n. drop n c.args.array.now.share.text) c.from-from.ensures ∙ named_end c.args.array.now d e (omega arith)
