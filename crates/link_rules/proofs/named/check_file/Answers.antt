use Rattle.std.proofs.Common.{subst}
use Rattle.link_rules.specs.Answers.{IsAnswer}
use Rattle.link_rules.proofs.MissingLaw.{of_file}
use Rattle.link_rules.proofs.named.check_file.Goals as goal

pub returns : goal.returns
returns c =
    subst (λ refusals. IsAnswer refusals c.check_parts.result) (of_file c.args.names.now c.args.file.now) c.check_parts.ensures
