use Rattle.std.proofs.Common.{subst}
use Rattle.std.specs.Prelude.{OnOk}
use Rattle.link_rules.specs.Numbers.{above_rows}
use Rattle.link_uses.specs.Tables.{HasRanks}
use Rattle.class_link.specs.Refusals.{classes_of}
use Rattle.class_link.proofs.linking.link.Goals as goal

pub returns-clause-ranked : goal.returns-clause-ranked
returns-clause-ranked c =
    subst (λ z. OnOk c.link_program.result (HasRanks (above_rows (classes_of z)))) c.as_slice-3.ensures c.link_program.ensures.ranked
