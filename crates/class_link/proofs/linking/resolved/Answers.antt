use Rattle.link_members.specs.declared.row_table.Step.TheVariants.{Super}
use Rattle.link_members.proofs.RowLaws.{ranked_by}
use Rattle.class_link.proofs.linking.resolved.Goals as goal

pub check_declarations-requires-clause-ranked : goal.check_declarations-requires-clause-ranked
check_declarations-requires-clause-ranked c = ranked_by Super c.args.program.now c.args.ranks.now c.requires.ranked
