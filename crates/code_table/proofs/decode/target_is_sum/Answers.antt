use Rattle.code_table.proofs.Targeting.{target_is_sum, sum_is_target}
use Rattle.code_table.proofs.decode.target_is_sum.Goals as goal

pub returns-clause-lands : goal.returns-clause-lands
returns-clause-lands c = target_is_sum c.args.at c.args.offset c.requires c.ranges.offset

pub returns-clause-reaches : goal.returns-clause-reaches
returns-clause-reaches c = λ to. sum_is_target c.args.at c.args.offset to c.requires c.ranges.offset
