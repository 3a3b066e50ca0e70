use Rattle.std.proofs.Common.{arith}
use Rattle.std.proofs.lemmas.List.{length-map}
use Rattle.link_rules.specs.Numbers.{super_row}
use Rattle.class_link.proofs.linking.check_declarations.Goals as goal

pub check_overrides-requires-clause-files_in : goal.check_overrides-requires-clause-files_in
check_overrides-requires-clause-files_in c =
    let count = length-map c.args.program.now (super_row c.args.program.now) in omega arith

pub check_overrides-requires-clause-few : goal.check_overrides-requires-clause-few
check_overrides-requires-clause-few c =
    let count = length-map c.args.program.now (super_row c.args.program.now) in omega arith
